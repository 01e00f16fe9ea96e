use Rattle.plan.proofs.Books.{arranging_more, arranging_none}
use borrow.Author.Rules.{rules}
use Rattle.plan.proofs.layout.RuleList.arrange.Goals as goal

pub loop-r-init : goal.loop-r-init
loop-r-init c = search (rules, arranging_none)

pub loop-r-preserved : goal.loop-r-preserved
loop-r-preserved c = search (rules, arranging_more)
