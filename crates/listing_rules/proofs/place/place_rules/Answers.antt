use Rattle.listing_rules.proofs.Layouts.{rules_rowed, starts_room, bits_room, places}
use borrow.Author.Rules.{rules}
use Rattle.listing_rules.proofs.place.place_rules.Goals as goal

pub arrange-requires : goal.arrange-requires
arrange-requires c = search (rules, rules_rowed, starts_room, bits_room)

pub returns : goal.returns
returns c = search (rules, places)
