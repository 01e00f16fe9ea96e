use Rattle.bits.specs.Bits.{bit_in}
use Rattle.bits.proofs.Loops.{Reading}
use Rattle.bits.proofs.number_at.Given as goal

abbrev pub invariant-loop-i : goal.invariant-loop-i
invariant-loop-i l = Reading (bit_in l.bytes) l.bytes l.at l.w l.n l.i
