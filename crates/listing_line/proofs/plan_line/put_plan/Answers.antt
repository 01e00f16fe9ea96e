use Rattle.listing_line.proofs.Plans.{plan_wrote}
use borrow.Author.Rules.{rules}
use Rattle.listing_line.proofs.plan_line.put_plan.Goals as goal

pub returns : goal.returns
returns c = search (rules, plan_wrote)
