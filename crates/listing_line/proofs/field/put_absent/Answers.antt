use Rattle.listing_line.proofs.Fields.{mark_then}
use borrow.Author.Rules.{rules}
use Rattle.listing_line.proofs.field.put_absent.Goals as goal

pub returns : goal.returns
returns c = search (rules, mark_then)
