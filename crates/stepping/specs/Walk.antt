-- The walk of a step over a monitor's nodes: the memory read as the tree's state, and the memory that holds a state.
--     read_mon     the tree's state in the memory
--     ShapedAt    what is asked of the entries
--     write_mon    the memory that holds a state; what a state does not have, and every other entry, stays as it was
use Rattle.std.specs.Prelude.{Bool, true, false, List, ◌≡◌, ℕ, ◌+◌, ◌*◌, ◌≤◌, ◌<◌, length}
use Rattle.terms.specs.Limits as limits
use Rattle.formula.specs.Tree.{Token, leaf_of, two_of, unknown}
use Rattle.formula.specs.Spells.{nodes_at}
use Rattle.monitor.specs.declared.node.MonNode.{MonNode}
use Rattle.monitor.specs.declared.node.MonNode.TheVariants.{RangeCheck, DelayedCheck, Obligation, And as AndNode, Or as OrNode}
use Rattle.std.specs.Prelude.{None, Option, Some}
use Rattle.monitor.specs.Mon.{Check, range_check, delayed_check, obligation, Mon, check, And, Or, count}
use Rattle.monitor.specs.Table.{row_of}
use Rattle.meaning.specs.Culprit.{minus_one}
use Rattle.meaning.specs.State.{State, WellShaped, step}
use Rattle.node_step.specs.declared.state.MonState.{MonState}
use Rattle.node_step.specs.Memory.{Memory, get, put, Inside}
use Rattle.node_step.specs.Check.{read_check, write_check, Steppable}
use Rattle.node_step.specs.Joined.{parts_of, joined_entry}
use Rattle.lent.specs.Nodes.{NodesAt}
use Rattle.stepping.specs.declared.walk.NodeOut.{NodeOut}

-- minus 1 where no step is to blame: always so for range and delayed checks, whose states have no culprit
abbrev pub BlamelessEntry : Check → MonState → Type 0
BlamelessEntry (range_check p r) e = e.culprit ≡ minus_one
BlamelessEntry (delayed_check p q r) e = e.culprit ≡ minus_one
BlamelessEntry (obligation b p q r) e = Unit {0}

unfoldable pub Blameless : Mon → Memory → ℕ → Type 0
Blameless (check c) mem i = BlamelessEntry c (get mem i)
Blameless (And m n) mem i = Blameless m mem (i + 1) × Blameless n mem (i + 1 + count m)
Blameless (Or m n) mem i = Blameless m mem (i + 1) × Blameless n mem (i + 1 + count m)

unfoldable pub read_mon : (m : Mon) → Memory → ℕ → State m
read_mon (check c) mem i = read_check c (get mem i)
read_mon (And m n) mem i = record {
  left = read_mon m mem (i + 1);
  right = read_mon n mem (i + 1 + count m);
  failed = (get mem i).failed;
  culprit = (get mem i).culprit;
}
read_mon (Or m n) mem i = record {
  left = read_mon m mem (i + 1);
  right = read_mon n mem (i + 1 + count m);
  failed = (get mem i).failed;
  culprit = (get mem i).culprit;
}

-- what the walk asks of the entries; a monitor that fits has it (`fits_iff`, proofs/Fitting.antt)
pub record ShapedAt (m : Mon) (mem : Memory) (i : ℕ) : Type 0 where
  pub blameless : Blameless m mem i
  pub kept : WellShaped m (read_mon m mem i)

unfoldable pub write_mon : (m : Mon) → State m → Memory → ℕ → Memory
write_mon (check c) st mem i = put mem i (write_check c st (get mem i))
write_mon (And m n) st mem i =
    let both = write_mon n st.right (write_mon m st.left mem (i + 1)) (i + 1 + count m) in
    put both i (joined_entry st.failed st.culprit (get both i))
write_mon (Or m n) st mem i =
    let both = write_mon n st.right (write_mon m st.left mem (i + 1)) (i + 1 + count m) in
    put both i (joined_entry st.failed st.culprit (get both i))

-- ---- the walk at node k of a monitor whose nodes begin at row `nfirst`
pub record Walkable (ops nums nodes : List ℕ) (nfirst : ℕ) (mem : Memory) (k s : ℕ) : Type 0 where
  pub mon : Mon
  pub stands : NodesAt ops nums nodes (nfirst + k) mon
  pub in_nodes : limits.row_cells * (nfirst + k + count mon) ≤ length nodes
  pub inside : Inside mem (k + count mon)
  pub shaped : ShapedAt mon mem k
  pub below : s < limits.steps

pub record NodeStepped (ops nums nodes : List ℕ) (nfirst : ℕ) (mem : Memory) (k s w : ℕ) (mem' : Memory) (r : NodeOut) : Type 0 where
  pub is : (m : Mon) → NodesAt ops nums nodes (nfirst + k) m → ShapedAt m mem k → Inside mem (k + count m) →
      (r.now ≡ (step m (read_mon m mem k) s w).now) × (r.next ≡ k + count m)
      × (mem' ≡ write_mon m (step m (read_mon m mem k) s w).state mem k)

-- ---- parts of the walk
-- a check at node k
pub record Leaf (ops nums nodes : List ℕ) (nfirst : ℕ) (mem : Memory) (node : MonNode) (k s : ℕ) : Type 0 where
  pub row : row_of nodes (nfirst + k) ≡ Some node
  pub inside : Inside mem (k + 1)
  pub single : parts_of node ≡ None
  pub steps : Steppable ops nums node (get mem k) s

abbrev pub join_of : Bool → Mon → Mon → Mon
join_of true m n = And m n
join_of false m n = Or m n

-- a joined node at node k
pub record Pair (ops nums nodes : List ℕ) (nfirst : ℕ) (mem : Memory) (any : Bool) (k s : ℕ) : Type 0 where
  pub left : Mon
  pub right : Mon
  pub stands : NodesAt ops nums nodes (nfirst + k) (join_of any left right)
  pub in_nodes : limits.row_cells * (nfirst + k + count (join_of any left right)) ≤ length nodes
  pub inside : Inside mem (k + count (join_of any left right))
  pub shaped : ShapedAt (join_of any left right) mem k
  pub below : s < limits.steps

-- ---- the measure of the walk
-- a row as a token of a tree: a check has no parts, a joined node two
abbrev pub token_of : Option MonNode → Token (Unit {0}) (Unit {0}) (Unit {0})
token_of (Some (RangeCheck s r)) = leaf_of tt
token_of (Some (DelayedCheck s t r)) = leaf_of tt
token_of (Some (Obligation b s t r)) = leaf_of tt
token_of (Some AndNode) = two_of tt
token_of (Some OrNode) = two_of tt
token_of None = unknown

-- the size of the subtree in the rows from i on (`subtree`, proofs/Subtrees.antt), which falls from a node to its parts
abbrev pub mon_nodes : List ℕ → ℕ → ℕ
mon_nodes nodes i = nodes_at (λ j. token_of (row_of nodes j)) (length nodes) i
