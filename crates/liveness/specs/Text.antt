-- Document 01, "The listing": the text of a skeleton and of an obligation's operands, as lists of signs. Implies is `>`, `s` precedes each
-- atom of a skeleton, and `#k` is obligation k.
use Rattle.std.specs.Prelude.{List, [], ◌∷◌, ◌++◌, ℕ}
use Rattle.formula.specs.Text.{Sign, atom, sign, operand}
use Rattle.liveness.specs.Split.{Obligation, E, U, Skeleton, safety, owed, Not, And, Or, Implies}

-- a sign of a skeleton's text, or a decimal number
pub data Mark : Type 0 where
  written : Sign → Mark
  number : ℕ → Mark

abbrev pub byte : ℕ → Mark
byte n = written (sign n)

unfoldable pub skeleton_text : Skeleton → List Mark
skeleton_text (safety i a) = byte 115 ∷ written (atom a) ∷ []
skeleton_text (owed k) = byte 35 ∷ number k ∷ []
skeleton_text (Not s) = byte 33 ∷ skeleton_text s
skeleton_text (And s t) = byte 38 ∷ skeleton_text s ++ skeleton_text t
skeleton_text (Or s t) = byte 124 ∷ skeleton_text s ++ skeleton_text t
skeleton_text (Implies s t) = byte 62 ∷ skeleton_text s ++ skeleton_text t

-- the letter of an obligation, and the texts of its operands
abbrev pub letter : Obligation → ℕ
letter (E i f) = 69
letter (U i f j g) = 85

abbrev pub operand_texts : Obligation → List (List Sign)
operand_texts (E i f) = operand f ∷ []
operand_texts (U i f j g) = operand f ∷ operand g ∷ []
