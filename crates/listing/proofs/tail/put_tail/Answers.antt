use Rattle.listing.proofs.Wholes.{steps_due, tail_listed}
use borrow.Author.Rules.{rules}
use borrow.Author.Rules.{rules}
use Rattle.listing.proofs.tail.put_tail.Goals as goal

pub report_steps-count-requires : goal.report_steps-count-requires
report_steps-count-requires c = search (rules, steps_due)

pub returns : goal.returns
returns c = search (rules, tail_listed)
