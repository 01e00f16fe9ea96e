use Rattle.plan.proofs.Books.{counted_none, counted_more}
use borrow.Author.Rules.{rules}
use Rattle.plan.proofs.layout.RuleList.kind_bits.Goals as goal

pub loop-r-init : goal.loop-r-init
loop-r-init c = search (rules, counted_none)

pub loop-r-preserved : goal.loop-r-preserved
loop-r-preserved c = search (rules, counted_more)
