use Rattle.bits.specs.Bits.{bit_in}
use Rattle.bits.proofs.Loops.{Blanking}
use Rattle.bits.proofs.is_blank.Given as goal

abbrev pub invariant-loop-k : goal.invariant-loop-k
invariant-loop-k l = Blanking (bit_in l.bytes) l.from l.to l.k
