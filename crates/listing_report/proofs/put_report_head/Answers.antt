use Rattle.listing_line.proofs.Fields.{tab_three}
use borrow.Author.Rules.{rules}
use Rattle.listing_report.proofs.put_report_head.Goals as goal

pub returns : goal.returns
returns c = search (rules, tab_three)
