-- A signal's text, read sign by sign off the formula table. A place gives one sign, but implies two, so a cursor is a place and whether the
-- `!` of an implies just passed is still owed.
--     rest         the signs from a cursor to an end
--     LikenedAt    the answer of comparing the texts at two places
use Rattle.std.specs.Prelude.{Bool, true, false, List, [], ◌∷◌, ◌++◌, ◌≡◌, ℕ, zero, suc, ◌+◌, ◌-◌, ◌≤◌, eqb, ltb, length, get_or}
use Rattle.terms.specs.Choice.{pick}
use Rattle.terms.specs.Ops.{var_op, in_op, not_op, next_op, or_op, implies_op}
use Rattle.formula.specs.Tree.{size}
use Rattle.formula.specs.Spells.{Spells}
use Rattle.formula.specs.Formula.{Atom, Formula, var, input, output}
use Rattle.formula.specs.Table.{node_at}
use Rattle.formula.specs.Pure.{pure}
use Rattle.formula.specs.Text.{Sign, atom, sign}
use Rattle.monitor.specs.declared.node.SignalExpr.{SignalExpr}
use Rattle.monitor.specs.Mon.{Signal, always_true, at, expr_of}
use Rattle.alike.specs.Text.{alike_text}
use Rattle.alike.specs.Alike.{alike_signal}
use Rattle.alike.specs.declared.text.Sign.{Sign as Read}
use Rattle.alike.specs.declared.text.Sign.TheVariants.{Atom as AtomOf, Word}
use Rattle.alike.specs.declared.text.Cursor.{Cursor}
use Rattle.std.specs.Prelude.{Option, Some, None}

-- an atom by its operation and number
abbrev pub atom_of : ℕ → ℕ → Atom
atom_of op n = pick (eqb op var_op) (var n) (pick (eqb op in_op) (input n) (output n))

-- a sign as the code reads it
abbrev pub sign_of : Read → Sign
sign_of (AtomOf op n) = atom (atom_of op n)
sign_of (Word b) = sign b

-- the signs of one place of a pure formula, by its operation and number
abbrev pub signs_at : ℕ → ℕ → List Sign
signs_at op n =
    pick (ltb op not_op) (atom (atom_of op n) ∷ [])
    (pick (ltb op next_op) (sign 33 ∷ [])
    (pick (ltb op or_op) (sign 38 ∷ [])
    (pick (ltb op implies_op) (sign 124 ∷ []) (sign 124 ∷ sign 33 ∷ []))))

-- the signs of n places from i on
unfoldable pub signs_from : List ℕ → List ℕ → ℕ → ℕ → List Sign
signs_from ops nums i zero = []
signs_from ops nums i (suc n) = signs_at (get_or ops i 0) (get_or nums i 0) ++ signs_from ops nums (i + 1) n

abbrev pub owed : Bool → List Sign → List Sign
owed true xs = sign 33 ∷ xs
owed false xs = xs

unfoldable pub rest : List ℕ → List ℕ → Cursor → ℕ → List Sign
rest ops nums c end = owed c.owes (signs_from ops nums c.at (end - c.at))

-- the next sign, with what is left behind it
abbrev pub taken : List ℕ → List ℕ → ℕ → Option (Read × Cursor) → List Sign
taken ops nums end (Some x) = sign_of x.0 ∷ rest ops nums x.1 end
taken ops nums end None = []

-- ---- two signals
-- the text of the pure formula f stands at p
pub record Spelt (ops nums : List ℕ) (p : ℕ) (f : Formula) : Type 0 where
  pub spells : Spells (node_at ops nums) p f
  pub is_pure : pure f ≡ true
  pub in_ops : p + size f ≤ length ops
  pub in_nums : p + size f ≤ length nums

pub record IsSpelt (ops nums : List ℕ) (p : ℕ) : Type 0 where
  pub formula : Formula
  pub spelt : Spelt ops nums p formula

pub record LikenedAt (ops nums : List ℕ) (p q : ℕ) (r : Bool) : Type 0 where
  pub is : (f g : Formula) → Spelt ops nums p f → Spelt ops nums q g → r ≡ alike_text f g

-- a row's signal e is s
abbrev pub Sound : List ℕ → List ℕ → Signal → Type 0
Sound ops nums always_true = 0 ≤ 0
Sound ops nums (at p f) = Spelt ops nums p f

pub record Means (ops nums : List ℕ) (e : SignalExpr) (s : Signal) : Type 0 where
  pub is : e ≡ expr_of s
  pub sound : Sound ops nums s

pub record IsMeant (ops nums : List ℕ) (e : SignalExpr) : Type 0 where
  pub signal : Signal
  pub means : Means ops nums e signal

pub record Likened (ops nums : List ℕ) (d e : SignalExpr) (r : Bool) : Type 0 where
  pub is : (s t : Signal) → Means ops nums d s → Means ops nums e t → r ≡ alike_signal s t
