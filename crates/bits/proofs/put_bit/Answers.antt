use borrow.Author.Rules.{rules}
use Rattle.bits.specs.Bits.{ink_bit}
use Rattle.bits.proofs.put_bit.Goals as goal

pub returns : goal.returns
unfolding ink_bit
returns c = search rules
