use Rattle.listing_report.proofs.Reports.{end_wrote}
use borrow.Author.Rules.{rules}
use Rattle.listing_report.proofs.put_end.Goals as goal

pub returns : goal.returns
returns c = search (rules, end_wrote)
