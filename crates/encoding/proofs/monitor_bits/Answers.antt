use Rattle.encoding.proofs.Sums.{monitor_sum}
use borrow.Author.Rules.{rules}
use Rattle.encoding.proofs.monitor_bits.Goals as goal

pub returns : goal.returns
returns c = search (rules, monitor_sum)
