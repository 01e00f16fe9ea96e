use Rattle.listing_report.proofs.Reports.{report_wrote}
use borrow.Author.Rules.{rules}
use Rattle.listing_report.proofs.put_report.Goals as goal

pub returns : goal.returns
returns c = search (rules, report_wrote)
