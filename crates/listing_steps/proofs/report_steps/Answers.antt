use Rattle.listing_steps.proofs.Start.{fresh_due, fresh_reported}
use borrow.Author.Rules.{rules}
use Rattle.listing_steps.proofs.report_steps.Goals as goal

pub put_reports-requires : goal.put_reports-requires
put_reports-requires c = search (rules, fresh_due)

pub returns : goal.returns
returns c = search (rules, fresh_reported)
