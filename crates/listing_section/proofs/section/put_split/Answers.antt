use Rattle.listing_section.proofs.Sections.{live_ready, owing, split_wrote}
use borrow.Author.Rules.{rules}
use Rattle.listing_section.proofs.section.put_split.Goals as goal

pub put_live-requires : goal.put_live-requires
put_live-requires c = search (rules, live_ready)

pub put_owing-requires : goal.put_owing-requires
put_owing-requires c = search (rules, owing, c.requires)

pub returns : goal.returns
returns c = search (rules, split_wrote)
