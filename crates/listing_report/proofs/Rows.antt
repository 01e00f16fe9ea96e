-- Lines of document 01's whole case, and a refused book's line.
use mathlib.Core.Path.{◌≡◌, refl}
use mathlib.Core.List.{[], ◌∷◌}
use lib.IntN.{pos}
use Rattle.number.specs.Digits.{digits}
use Rattle.text.specs.Tape.{signed}
use Rattle.listing_line.specs.Line.{line}
use Rattle.listing_reports.specs.Tail.{report_line, end_line, refused_line}

-- `report 2 0 0`
pub whole_report : report_line (record { place = 2; at = record { number = 2; truths = 0 }; rule = 0; culprit = pos 0 }) ≡ 114 ∷ 101 ∷ 112 ∷ 111 ∷ 114 ∷ 116 ∷ 9 ∷ 50 ∷ 9 ∷ 48 ∷ 9 ∷ 48 ∷ 10 ∷ []
unfolding report_line line digits signed
whole_report = refl

-- `end 1`
pub whole_end : end_line 1 ≡ 101 ∷ 110 ∷ 100 ∷ 9 ∷ 49 ∷ 10 ∷ []
unfolding end_line line digits
whole_end = refl

-- `refused 10 12`
pub refused_row : refused_line 10 12 ≡ 114 ∷ 101 ∷ 102 ∷ 117 ∷ 115 ∷ 101 ∷ 100 ∷ 9 ∷ 49 ∷ 48 ∷ 9 ∷ 49 ∷ 50 ∷ 10 ∷ []
unfolding refused_line line digits
refused_row = refl
