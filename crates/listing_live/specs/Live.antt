-- Document 01, "The listing": `live`, `none` or 0 or refusal, skeleton; then `owe` lines: index, E with one operand or U with two. Absent is `-`.
use Rattle.std.specs.Prelude.{List, [], ◌∷◌, ◌++◌, ℕ, ◌+◌}
use Rattle.liveness.specs.Split.{Obligation, E, U, Answer, none, parts, refused}
use Rattle.liveness.specs.Text.{Mark, written, number, skeleton_text}
use Rattle.number.specs.Digits.{decimal}
use Rattle.spelling.specs.Spelling.{spell, operand_text}
use Rattle.listing_line.specs.Line.{line, absent}

abbrev pub mark_text : Mark → List ℕ
mark_text (written s) = spell s
mark_text (number n) = decimal n

unfoldable pub marks_text : List Mark → List ℕ
marks_text [] = []
marks_text (m ∷ ms) = mark_text m ++ marks_text ms

-- `live`, `none`, `owe`
abbrev pub live_word : List ℕ
live_word = 108 ∷ 105 ∷ 118 ∷ 101 ∷ []

abbrev pub none_word : List ℕ
none_word = 110 ∷ 111 ∷ 110 ∷ 101 ∷ []

abbrev pub owe_word : List ℕ
owe_word = 111 ∷ 119 ∷ 101 ∷ []

unfoldable pub live_line : Answer → List ℕ
live_line none = line (live_word ∷ none_word ∷ absent ∷ [])
live_line (refused n) = line (live_word ∷ decimal n ∷ absent ∷ [])
live_line (parts sk os) = line (live_word ∷ decimal 0 ∷ marks_text (skeleton_text sk) ∷ [])

-- obligation k
unfoldable pub owe_line : ℕ → Obligation → List ℕ
owe_line k (E i f) = line (owe_word ∷ decimal k ∷ (69 ∷ []) ∷ operand_text f ∷ [])
owe_line k (U i f j g) = line (owe_word ∷ decimal k ∷ (85 ∷ []) ∷ operand_text f ∷ operand_text g ∷ [])

-- the obligations of a split, the first of them number k
unfoldable pub owe_lines : List Obligation → ℕ → List (List ℕ)
owe_lines [] k = []
owe_lines (o ∷ os) k = owe_line k o ∷ owe_lines os (k + 1)
