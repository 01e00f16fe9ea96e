use Rattle.bits.proofs.Loops.{inking_more, inking_all}
use borrow.Author.Rules.{rules}
use Rattle.bits.proofs.put_number.Goals as goal

pub loop-i-preserved : goal.loop-i-preserved
loop-i-preserved c = search (rules, inking_more)

pub returns : goal.returns
returns c = search (rules, inking_all)
