use Rattle.listing_rules.proofs.Layouts.{encodable_rowed, encodes}
use borrow.Author.Rules.{rules}
use Rattle.listing_rules.proofs.place.encode_rules.Goals as goal

pub monitor_bits-requires : goal.monitor_bits-requires
monitor_bits-requires c = search (rules, encodable_rowed)

pub returns : goal.returns
returns c = search (rules, encodes)
