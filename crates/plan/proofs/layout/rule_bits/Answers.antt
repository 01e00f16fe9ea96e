use Rattle.plan.proofs.Pieces.{summed_none, summed_more}
use borrow.Author.Rules.{rules}
use Rattle.plan.proofs.layout.rule_bits.Goals as goal

pub loop-j-init : goal.loop-j-init
loop-j-init c = search (rules, summed_none)

pub loop-j-preserved : goal.loop-j-preserved
loop-j-preserved c = search (rules, summed_more)
