use Rattle.listing_line.proofs.Fields.{tab_letter}
use borrow.Author.Rules.{rules}
use Rattle.listing_line.proofs.node.put_head.Goals as goal

pub returns : goal.returns
returns c = search (rules, tab_letter)
