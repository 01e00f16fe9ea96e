use borrow.Author.Rules.{rules}
use Rattle.listing_steps.proofs.Steps.{fewer}
use Rattle.listing_steps.proofs.Runs.{ran_first, ran_due, ran_next, ran_end}
use Rattle.listing_steps.proofs.put_reports.Goals as goal

pub loop-line-init : goal.loop-line-init
loop-line-init c = search (rules, ran_first)

pub returns : goal.returns
returns c = search (rules, ran_end)

pub step_rules-total-requires : goal.step_rules-total-requires
step_rules-total-requires c = search (rules, ran_due)

pub loop-line-smaller : goal.loop-line-smaller
loop-line-smaller c = search (rules, fewer)

pub loop-line-preserved : goal.loop-line-preserved
loop-line-preserved c = search (rules, ran_next)
