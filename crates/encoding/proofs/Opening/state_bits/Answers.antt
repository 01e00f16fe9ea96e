use Rattle.encoding.proofs.Sums.{state_sum}
use borrow.Author.Rules.{rules}
use Rattle.encoding.proofs.Opening.state_bits.Goals as goal

pub returns : goal.returns
returns c = search (rules, state_sum)
