use Rattle.bits.proofs.Loops.{Inking}
use Rattle.bits.proofs.put_number.Given as goal

abbrev pub invariant-loop-i : goal.invariant-loop-i
invariant-loop-i l = Inking l.initial.bytes l.at l.w l.n l.bytes l.rest l.i
