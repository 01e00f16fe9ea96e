-- Document 01, "The listing": a formula's prefix text, as a list of signs. A sign is an atom, or a byte that stands for a word.
--     signs      the text of a signal, in which implies is `|!`
--     operand    the text of an operand, in which implies is `>`
use Rattle.std.specs.Prelude.{List, [], ◌∷◌, ◌++◌, ℕ}
use Rattle.formula.specs.Tree.{leaf, one, two}
use Rattle.formula.specs.Formula.{Atom, Formula, not, next, always, eventually, always_for, within, and, or, implies, until}

pub data Sign : Type 0 where
  atom : Atom → Sign
  sign : ℕ → Sign

-- the text of a pure formula; `imp` is what implies is written as. (A formula that is not pure has no text)
unfoldable pub signs_by : List Sign → Formula → List Sign
signs_by imp (leaf a) = atom a ∷ []
signs_by imp (one not f) = sign 33 ∷ signs_by imp f
signs_by imp (one next f) = []
signs_by imp (one always f) = []
signs_by imp (one eventually f) = []
signs_by imp (one (always_for b) f) = []
signs_by imp (one (within b) f) = []
signs_by imp (two and l r) = sign 38 ∷ signs_by imp l ++ signs_by imp r
signs_by imp (two or l r) = sign 124 ∷ signs_by imp l ++ signs_by imp r
signs_by imp (two implies l r) = imp ++ signs_by imp l ++ signs_by imp r
signs_by imp (two until l r) = []

abbrev pub signs : Formula → List Sign
signs f = signs_by (sign 124 ∷ sign 33 ∷ []) f

abbrev pub operand : Formula → List Sign
operand f = signs_by (sign 62 ∷ []) f
