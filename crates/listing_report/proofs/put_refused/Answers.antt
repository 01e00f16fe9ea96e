use Rattle.listing_report.proofs.Reports.{refused_wrote}
use borrow.Author.Rules.{rules}
use Rattle.listing_report.proofs.put_refused.Goals as goal

pub returns : goal.returns
returns c = search (rules, refused_wrote)
