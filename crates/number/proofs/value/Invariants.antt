use lib.ListN.{length}
use Prim.Native.Nat.{◌-◌}
use Rattle.number.proofs.Numbers.{Sofar}
use Rattle.number.proofs.value.Given as goal

abbrev pub invariant-loop-i : goal.invariant-loop-i
invariant-loop-i l = Sofar l.base l.s l.acc l.i

abbrev pub decreases-loop-i : goal.decreases-loop-i
decreases-loop-i l = length l.s - l.i
