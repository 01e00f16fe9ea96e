-- A node table that holds a compiled rule: the rows from one on hold the tree's nodes, and its signals stand in the formula table.
use Rattle.std.specs.Prelude.{List, ◌≡◌, ℕ, ◌+◌}
use Rattle.monitor.specs.declared.node.MonNode.TheVariants.{And as AndNode, Or as OrNode}
use Rattle.std.specs.Prelude.{Some}
use Rattle.monitor.specs.Mon.{Mon, check, And, Or, count, node_of}
use Rattle.monitor.specs.Table.{row_of}
use Rattle.node_step.specs.Check.{GroundedCheck}

unfoldable pub NodesAt : List ℕ → List ℕ → List ℕ → ℕ → Mon → Type 0
NodesAt ops nums nodes i (check c) = (row_of nodes i ≡ Some (node_of c)) × GroundedCheck ops nums c
NodesAt ops nums nodes i (And m n) =
    (row_of nodes i ≡ Some AndNode) × NodesAt ops nums nodes (i + 1) m × NodesAt ops nums nodes (i + 1 + count m) n
NodesAt ops nums nodes i (Or m n) =
    (row_of nodes i ≡ Some OrNode) × NodesAt ops nums nodes (i + 1) m × NodesAt ops nums nodes (i + 1 + count m) n
