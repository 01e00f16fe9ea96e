use lib.ListN.{length}
use Prim.Native.Nat.{◌-◌}
use Rattle.liveness.proofs.walk.+calm_at.Given as goal

abbrev pub decreases-calm_at : goal.decreases-calm_at
decreases-calm_at l = length l.table.now.ops.now - l.i
