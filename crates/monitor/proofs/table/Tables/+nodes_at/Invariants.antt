use Prim.Native.Nat.{◌-◌}
use Rattle.monitor.proofs.table.Tables.+nodes_at.Given as goal

abbrev pub decreases-nodes_at : goal.decreases-nodes_at
decreases-nodes_at l = l.end - l.i
