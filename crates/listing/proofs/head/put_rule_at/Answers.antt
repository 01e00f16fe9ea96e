use Rattle.listing.proofs.Heads.{section_ready, section_listed}
use borrow.Author.Rules.{rules}
use Rattle.listing.proofs.head.put_rule_at.Goals as goal

pub put_section-requires : goal.put_section-requires
put_section-requires c = rw (c.part-part.ensures) (search (rules, section_ready))

pub returns : goal.returns
returns c = search (rules, section_listed)
