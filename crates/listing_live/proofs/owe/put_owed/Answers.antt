use Rattle.listing_live.proofs.Owes.{operand_marked}
use borrow.Author.Rules.{rules}
use Rattle.listing_live.proofs.owe.put_owed.Goals as goal

pub returns : goal.returns
returns c = search (rules, operand_marked)
