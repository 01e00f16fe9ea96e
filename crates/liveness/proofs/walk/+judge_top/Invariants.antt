use lib.ListN.{length}
use Prim.Native.Nat.{◌-◌}
use Rattle.liveness.proofs.walk.+judge_top.Given as goal

abbrev pub decreases-judge_top : goal.decreases-judge_top
decreases-judge_top l = length l.table.now.ops.now - l.i
