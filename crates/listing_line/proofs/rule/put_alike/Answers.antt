use Rattle.listing_line.proofs.Rules.{alike_to, alike_none}
use borrow.Author.Rules.{rules}
use Rattle.listing_line.proofs.rule.put_alike.Goals as goal

pub returns-in-Some : goal.returns-in-Some
returns-in-Some c = search (rules, alike_to)

pub returns-in-None : goal.returns-in-None
returns-in-None c = search (rules, alike_none)
