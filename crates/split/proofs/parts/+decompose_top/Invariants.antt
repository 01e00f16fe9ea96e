use lib.ListN.{length}
use Prim.Native.Nat.{◌-◌}
use Rattle.split.proofs.parts.+decompose_top.Given as goal

abbrev pub decreases-decompose_top : goal.decreases-decompose_top
decreases-decompose_top l = length l.table.now.ops.now - l.i
