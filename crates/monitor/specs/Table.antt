-- A node table: seven numbers for each node, in prefix order. A compiled rule is a part of it, a first node and a count, over the rule's
-- own formula, which its signals are parts of.
--     row_of     what the seven numbers of a node say
--     sub_at     the part of a formula at a place
--     mon_of     the compiled rule that a part of the table is, if it is one within the limits of document 01
-- That `mon_of` gives nothing is refusal 2 for a node table: a part outside the table, an unknown form, a part that is no prefix tree covering
-- exactly its nodes, more than 256 nodes or depth 64, a signal that is no pure part of the rule's formula.
use Rattle.std.specs.Prelude.{Bool, true, ◌&&◌, List, ℕ, zero, suc, ◌+◌, ◌-◌, ◌*◌, ◌<◌, ◌^◌, leb, ltb, eqb, length, get_or}
use Rattle.std.proofs.Math.Option.{Option, none, some}
use Rattle.terms.specs.Limits.{deepest, row_cells, rule_nodes}
use Rattle.terms.specs.Choice.{pick}
use Rattle.terms.specs.Forms.{delayed_form, obligation_form, and_form, or_form, forms}
use Rattle.formula.specs.Tree.{Tree, leaf, one, two, Token, leaf_of, one_of, two_of, unknown, tree_of, size, depth}
use Rattle.formula.specs.Spells.{run}
use Rattle.formula.specs.Formula.{Formula}
use Rattle.formula.specs.Table.{keep, rule_of}
use Rattle.formula.specs.Pure.{pure}
use Rattle.monitor.specs.declared.range.End.TheVariants.{Step, Open}
use Rattle.monitor.specs.declared.range.AnchorRange.{AnchorRange}
use Rattle.monitor.specs.declared.node.SignalExpr.{SignalExpr}
use Rattle.monitor.specs.declared.node.SignalExpr.TheVariants.{True, At}
use Rattle.monitor.specs.declared.node.MonNode.{MonNode}
use Rattle.monitor.specs.declared.node.MonNode.TheVariants.{RangeCheck, DelayedCheck, Obligation, And as AndNode, Or as OrNode}
use Rattle.std.specs.Prelude.{None, Option as Opt, Some}
use Rattle.monitor.specs.declared.table.Kind.{Kind}
use Rattle.monitor.specs.declared.table.Kind.TheVariants.{Check as Check', Joined}
use Rattle.monitor.specs.Mon.{Signal, always_true, at, Check, range_check, delayed_check, obligation, Mon, check, And, Or}

-- ---- one row
-- a place that can be stored: its number fits 64 bits
abbrev pub Numbered : SignalExpr → Type 0
Numbered True = 0 < 1
Numbered (At p) = p + 1 < 2 ^ 64

abbrev pub NodeNumbered : MonNode → Type 0
NodeNumbered (RangeCheck s r) = Numbered s × Numbered s
NodeNumbered (DelayedCheck s t r) = Numbered s × Numbered t
NodeNumbered (Obligation b s t r) = Numbered s × Numbered t
NodeNumbered AndNode = Numbered True × Numbered True
NodeNumbered OrNode = Numbered True × Numbered True

abbrev pub expr_from : ℕ → SignalExpr
expr_from n = pick (eqb n 0) True (At (n - 1))

abbrev pub range_from : ℕ → ℕ → ℕ → AnchorRange
range_from from has to = record { from = from; to = pick (eqb has 0) Open (Step to) }

-- the form of row i, and the number at column j behind it
abbrev pub form_at : List ℕ → ℕ → ℕ
form_at nodes i = get_or nodes (row_cells * i) 0

abbrev pub cell : List ℕ → ℕ → ℕ → ℕ
cell nodes i j = get_or nodes (row_cells * i + j) 0

unfoldable pub row_of : List ℕ → ℕ → Opt MonNode
row_of nodes i =
    let form = form_at nodes i in
    let r = range_from (cell nodes i 2) (cell nodes i 3) (cell nodes i 4) in
    let s = expr_from (cell nodes i 5) in
    let t = expr_from (cell nodes i 6) in
    pick (ltb form delayed_form) (Some (RangeCheck s r))
    (pick (ltb form obligation_form) (Some (DelayedCheck s t r))
    (pick (ltb form and_form) (Some (Obligation (cell nodes i 1) s t r))
    (pick (ltb form or_form) (Some AndNode)
    (pick (ltb form forms) (Some OrNode) None))))

-- ---- the signals
-- the part of a formula whose node is number k in prefix order
unfoldable pub sub_at : Formula → ℕ → Option Formula
sub_at (leaf a) zero = some (leaf a)
sub_at (leaf a) (suc k) = none
sub_at (one o f) zero = some (one o f)
sub_at (one o f) (suc k) = sub_at f k
sub_at (two o l r) zero = some (two o l r)
sub_at (two o l r) (suc k) = pick (ltb k (size l)) (sub_at l k) (sub_at r (k - size l))

-- a pure formula, which stands at p, as a signal
abbrev pub pure_signal : ℕ → Option Formula → Option Signal
pure_signal p none = none
pure_signal p (some g) = keep (pure g) (some (at p g))

-- the signal that a row names: the constant true, or a pure part of the formula f, which stands at `first` of its table
abbrev pub signal_of : Formula → ℕ → SignalExpr → Option Signal
signal_of f first True = some always_true
signal_of f first (At p) = keep (leb first p) (pure_signal p (sub_at f (p - first)))

-- ---- the tree
pub data Never : Type 0 where

pub data Join : Type 0 where
  join_and : Join
  join_or : Join

abbrev pub Cell : Type 0
Cell = Token Check Never Join

abbrev pub checked : (Signal → Cell) → Option Signal → Cell
checked k none = unknown
checked k (some s) = k s

abbrev pub cell_of : Formula → ℕ → Opt MonNode → Cell
cell_of f first (Some (RangeCheck s r)) = checked (λ x. leaf_of (range_check x r)) (signal_of f first s)
cell_of f first (Some (DelayedCheck s t r)) =
    checked (λ x. checked (λ y. leaf_of (delayed_check x y r)) (signal_of f first t)) (signal_of f first s)
cell_of f first (Some (Obligation b s t r)) =
    checked (λ x. checked (λ y. leaf_of (obligation b x y r)) (signal_of f first t)) (signal_of f first s)
cell_of f first (Some AndNode) = two_of join_and
cell_of f first (Some OrNode) = two_of join_or
cell_of f first None = unknown

unfoldable pub cell_at : Formula → ℕ → List ℕ → ℕ → Cell
cell_at f first nodes i = cell_of f first (row_of nodes i)

unfoldable pub from_tree : Tree Check Never Join → Mon
from_tree (leaf c) = check c
from_tree (one n t) = elim n [ ]
from_tree (two join_and l r) = And (from_tree l) (from_tree r)
from_tree (two join_or l r) = Or (from_tree l) (from_tree r)

abbrev pub limited_mon : Option (Tree Check Never Join) → Option Mon
limited_mon none = none
limited_mon (some t) = keep (leb (depth t) deepest) (some (from_tree t))

unfoldable pub mon_of : Formula → ℕ → List ℕ → ℕ → ℕ → Option Mon
mon_of f first nodes nfirst ncount =
    keep (leb ncount rule_nodes && leb (row_cells * (nfirst + ncount)) (length nodes))
    (limited_mon (tree_of (run (cell_at f first nodes) nfirst ncount)))

-- ---- the two tables together: the rule's formula, and the compiled rule over it
abbrev pub cell_by : Option Formula → ℕ → Opt MonNode → Cell
cell_by none first r = unknown
cell_by (some f) first r = cell_of f first r

unfoldable pub cells : List ℕ → List ℕ → ℕ → ℕ → List ℕ → ℕ → Cell
cells ops nums first count nodes i = cell_by (rule_of ops nums first count) first (row_of nodes i)

abbrev pub mon_by : Option Formula → ℕ → List ℕ → ℕ → ℕ → Option Mon
mon_by none first nodes nfirst ncount = none
mon_by (some f) first nodes nfirst ncount = mon_of f first nodes nfirst ncount

-- the compiled rule that the tables hold, if they hold one
unfoldable pub compiled_of : List ℕ → List ℕ → ℕ → ℕ → List ℕ → ℕ → ℕ → Option Mon
compiled_of ops nums first count nodes nfirst ncount = mon_by (rule_of ops nums first count) first nodes nfirst ncount

-- what kind of node stands in a row
abbrev pub kind_of : Cell → Opt Kind
kind_of (leaf_of c) = Some Check'
kind_of (one_of n) = None
kind_of (two_of j) = Some Joined
kind_of unknown = None

abbrev pub signal_by : Option Formula → ℕ → SignalExpr → Option Signal
signal_by none first e = none
signal_by (some f) first e = signal_of f first e

-- every leaf of a node table passes: what has to hold of it is in its cell
abbrev pub any_check : Check → Bool
any_check c = true
