-- A pure formula's text, node by node from left to right.
--     node_text    what a node of the formula table adds to the text
--     run_text     what a run of nodes adds
-- `run_text` (proofs/Scans.antt): over the nodes of a pure formula this is the formula's text.
use Rattle.std.specs.Prelude.{◌≡◌, Bool, true, List, [], ◌∷◌, ◌++◌, ℕ, ◌≤◌, ltb, length}
use Rattle.terms.specs.Choice.{pick}
use Rattle.formula.specs.Tree.{leaf_of, one_of, two_of, unknown}
use Rattle.formula.specs.Spells.{Spells}
use Rattle.formula.specs.Formula.{Formula, Node, not, next, always, eventually, always_for, within, and, or, implies, until}
use Rattle.formula.specs.Table.{node_at, Placed}
use Rattle.formula.specs.Pure.{pure}
use Rattle.formula.specs.Text.{Sign, atom, sign}
use Rattle.text.specs.Tape.{Tape, Wrote}
use Rattle.spelling.specs.Spelling.{spelled, implies_as, formula_text}

abbrev pub node_signs : List Sign → Node → List Sign
node_signs imp (leaf_of a) = atom a ∷ []
node_signs imp (one_of not) = sign 33 ∷ []
node_signs imp (one_of next) = []
node_signs imp (one_of always) = []
node_signs imp (one_of eventually) = []
node_signs imp (one_of (always_for b)) = []
node_signs imp (one_of (within b)) = []
node_signs imp (two_of and) = sign 38 ∷ []
node_signs imp (two_of or) = sign 124 ∷ []
node_signs imp (two_of implies) = imp
node_signs imp (two_of until) = []
node_signs imp unknown = []

unfoldable pub node_text : Bool → Node → List ℕ
node_text owing t = spelled (node_signs (implies_as owing) t)

-- an atom's letter, by its word's number: v, i, o
abbrev pub letter : ℕ → ℕ
letter op = pick (ltb op 1) 118 (pick (ltb op 2) 105 111)

unfoldable pub run_text : Bool → List Node → List ℕ
run_text owing [] = []
run_text owing (t ∷ ts) = node_text owing t ++ run_text owing ts

-- a pure formula stands at i
pub record Pure (ops nums : List ℕ) (i : ℕ) : Type 0 where
  pub place : Placed ops nums i
  pub is_pure : pure place.formula ≡ true

-- the places from i up to e are in the table
pub record Inside (ops nums : List ℕ) (i e : ℕ) : Type 0 where
  pub ordered : i ≤ e
  pub in_ops : e ≤ length ops
  pub in_nums : e ≤ length nums

-- the text of the formula at i was written
pub record Spelled (ops nums : List ℕ) (i : ℕ) (owing : Bool) (before after : Tape) : Type 0 where
  pub is : (f : Formula) → Spells (node_at ops nums) i f → Wrote before (formula_text owing f) after
