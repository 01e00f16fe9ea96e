use Rattle.listing_section.proofs.Sections.{split_asked, section_wrote}
use borrow.Author.Rules.{rules}
use Rattle.listing_section.proofs.section.put_section.Goals as goal

pub put_split-requires : goal.put_split-requires
put_split-requires c = rw (c.formula.ensures) (search (rules, split_asked))

pub returns : goal.returns
returns c = search (rules, section_wrote)
