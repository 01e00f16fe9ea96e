-- A compiled rule as a tree of nodes (`MonNode` of src/codegen/monitor.rs), and the numbers that hold it in a table.
use Rattle.std.specs.Prelude.{List, [], ◌∷◌, ◌++◌, ℕ, ◌+◌, ltb}
use Rattle.terms.specs.Choice.{pick}
use Rattle.terms.specs.Ops.{or_op}
use Rattle.terms.specs.Forms.{range_form, delayed_form, obligation_form, and_form, or_form}
use Rattle.formula.specs.Formula.{Formula}
use Rattle.monitor.specs.declared.range.End.{End}
use Rattle.monitor.specs.declared.range.End.TheVariants.{Step, Open}
use Rattle.monitor.specs.declared.range.AnchorRange.{AnchorRange}
use Rattle.monitor.specs.declared.node.SignalExpr.{SignalExpr}
use Rattle.monitor.specs.declared.node.SignalExpr.TheVariants.{True, At}
use Rattle.monitor.specs.declared.node.MonNode.{MonNode}
use Rattle.monitor.specs.declared.node.MonNode.TheVariants.{RangeCheck, DelayedCheck, Obligation, And as AndNode, Or as OrNode}

-- a signal of a node: the constant true, or a pure formula with its place in the formula table
pub data Signal : Type 0 where
  always_true : Signal
  at : ℕ → Formula → Signal

pub data Check : Type 0 where
  -- the signal holds at every step of the range
  range_check : Signal → AnchorRange → Check
  -- where the first held at the step before, the second holds, at every step of the range
  delayed_check : Signal → Signal → AnchorRange → Check
  -- a bound, a trigger, a body: where the trigger holds at a step of the range, the body holds soon enough
  obligation : ℕ → Signal → Signal → AnchorRange → Check

-- a check, or two parts joined
pub data Mon : Type 0 where
  check : Check → Mon
  And : Mon → Mon → Mon
  Or : Mon → Mon → Mon

-- the number of nodes
unfoldable pub count : Mon → ℕ
count (check c) = 1
count (And m n) = 1 + count m + count n
count (Or m n) = 1 + count m + count n

-- ---- a node in a table: form, bound, first step, 1 where the range has a last step, that step, two signals.
-- A signal is 0 for the constant true, else its place and one
abbrev pub expr_number : SignalExpr → ℕ
expr_number True = 0
expr_number (At p) = p + 1

abbrev pub has_last : End → ℕ
has_last (Step t) = 1
has_last Open = 0

abbrev pub last_of : End → ℕ
last_of (Step t) = t
last_of Open = 0

abbrev pub row : ℕ → ℕ → AnchorRange → ℕ → ℕ → List ℕ
row form b r s t = form ∷ b ∷ r.from ∷ has_last r.to ∷ last_of r.to ∷ s ∷ t ∷ []

abbrev pub join_row : ℕ → List ℕ
join_row form = form ∷ 0 ∷ 0 ∷ 0 ∷ 0 ∷ 0 ∷ 0 ∷ []

abbrev pub node_row : MonNode → List ℕ
node_row (RangeCheck s r) = row range_form 0 r (expr_number s) 0
node_row (DelayedCheck s t r) = row delayed_form 0 r (expr_number s) (expr_number t)
node_row (Obligation b s t r) = row obligation_form b r (expr_number s) (expr_number t)
node_row AndNode = join_row and_form
node_row OrNode = join_row or_form

-- the node that a word joins its parts by: below or's number it is and, from there on or
abbrev pub join_node : ℕ → MonNode
join_node op = pick (ltb op or_op) AndNode OrNode

-- a check as the code holds it: its signals by their places
abbrev pub expr_of : Signal → SignalExpr
expr_of always_true = True
expr_of (at p f) = At p

abbrev pub node_of : Check → MonNode
node_of (range_check s r) = RangeCheck (expr_of s) r
node_of (delayed_check p q r) = DelayedCheck (expr_of p) (expr_of q) r
node_of (obligation b t s r) = Obligation b (expr_of t) (expr_of s) r

-- the rows of a tree's nodes, in prefix order
unfoldable pub rows : Mon → List ℕ
rows (check c) = node_row (node_of c)
rows (And m n) = node_row AndNode ++ rows m ++ rows n
rows (Or m n) = node_row OrNode ++ rows m ++ rows n
