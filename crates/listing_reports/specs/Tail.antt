-- Document 01, "The listing": the lines behind those of the rules, and the one line of a refused book.
--     tail_text       the `report` lines and `end`
--     refused_line    `refused`
use Rattle.std.specs.Prelude.{List, [], ◌∷◌, ◌++◌, ℕ}
use Rattle.number.specs.Digits.{decimal}
use Rattle.text.specs.Tape.{signed}
use Rattle.listing_line.specs.Line.{line}
use Rattle.listing_reports.specs.Reports.{Report, end_count}

-- `report`, step, rule, culprit
abbrev pub report_word : List ℕ
report_word = 114 ∷ 101 ∷ 112 ∷ 111 ∷ 114 ∷ 116 ∷ []

unfoldable pub report_line : Report → List ℕ
report_line p = line (report_word ∷ decimal p.at.number ∷ decimal p.rule ∷ signed p.culprit ∷ [])

unfoldable pub report_lines : List Report → List ℕ
report_lines [] = []
report_lines (p ∷ ps) = report_line p ++ report_lines ps

-- `end` with a count
unfoldable pub end_line : ℕ → List ℕ
end_line n = line ((101 ∷ 110 ∷ 100 ∷ []) ∷ decimal n ∷ [])

-- the reports of rules of these kinds
abbrev pub tail_text : (ℕ → ℕ) → List Report → List ℕ
tail_text kinds ps = report_lines ps ++ end_line (end_count kinds ps)

-- `refused`, number, line
unfoldable pub refused_line : ℕ → ℕ → List ℕ
refused_line n k = line ((114 ∷ 101 ∷ 102 ∷ 117 ∷ 115 ∷ 101 ∷ 100 ∷ []) ∷ decimal n ∷ decimal k ∷ [])
