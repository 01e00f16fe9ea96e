use Prim.Native.Nat.{◌+◌, ◌*◌}
use Rattle.formula.specs.Signal.{signal_nodes}
use Rattle.formula.proofs.table.FormulaTable.+node_at_value_at.Given as goal

abbrev pub decreases-node_at : goal.decreases-node_at
decreases-node_at l = 2 * signal_nodes l.self.now.ops.now l.self.now.nums.now l.i

abbrev pub decreases-value_at : goal.decreases-value_at
decreases-value_at l = 2 * signal_nodes l.self.now.ops.now l.self.now.nums.now l.i + 1
