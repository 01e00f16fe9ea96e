use Rattle.listing_rules.proofs.Tells.{told_refused, known, told_compiled}
use borrow.Author.Rules.{rules}
use Rattle.listing_rules.proofs.lists.PlacedRules.compiling_at.Goals as goal

pub returns-then-m-ne0 : goal.returns-then-m-ne0
returns-then-m-ne0 c = search (rules, told_refused)

pub first_alike-alike-requires : goal.first_alike-alike-requires
first_alike-alike-requires c = search (rules, known)

pub returns : goal.returns
returns c = search (rules, told_compiled)
