-- Document 01, "The listing": signal text compared with v, i, o taken as one letter.
--     alike_atoms    two atoms are alike; only here are the letters dropped
--     alike_text     two signals' texts agree, sign for sign
use Rattle.std.specs.Prelude.{Bool, true, false, ◌&&◌, List, [], ◌∷◌, eqb}
use Rattle.formula.specs.Formula.{Atom, Formula, signal}
use Rattle.formula.specs.Text.{Sign, atom, sign, signs}

abbrev pub alike_atoms : Atom → Atom → Bool
alike_atoms a b = eqb (signal a) (signal b)

abbrev pub alike_signs : Sign → Sign → Bool
alike_signs (atom a) (atom b) = alike_atoms a b
alike_signs (atom a) (sign n) = false
alike_signs (sign m) (atom b) = false
alike_signs (sign m) (sign n) = eqb m n

unfoldable pub agree : List Sign → List Sign → Bool
agree [] [] = true
agree [] (y ∷ ys) = false
agree (x ∷ xs) [] = false
agree (x ∷ xs) (y ∷ ys) = alike_signs x y && agree xs ys

abbrev pub alike_text : Formula → Formula → Bool
alike_text f g = agree (signs f) (signs g)
