use Rattle.listing_section.proofs.Sections.{owing_none, owing_refused, owes_asked, owes_wrote}
use borrow.Author.Rules.{rules}
use Rattle.listing_section.proofs.section.put_owing.Goals as goal

pub put_owes-requires : goal.put_owes-requires
put_owes-requires c = owes_asked _ _ _ _ _ _ _ c.requires _ _ c.in-Ok-Some.is (rw c.in-Ok-Some.is at c.in-Ok-Some.field-0-is)

pub returns-in-Ok-Some-clause-wrote : goal.returns-in-Ok-Some-clause-wrote
returns-in-Ok-Some-clause-wrote c = owes_wrote _ _ _ _ _ _ _ c.requires _ _ _ _ c.in-Ok-Some.is (rw c.in-Ok-Some.is at c.in-Ok-Some.field-0-is) c.put_owes.ensures.wrote

pub returns-in-Ok-None-clause-wrote : goal.returns-in-Ok-None-clause-wrote
returns-in-Ok-None-clause-wrote c = owing_none _ _ _ _ _ _ _ c.requires _ _ c.in-Ok-None.is (rw c.in-Ok-None.is at c.in-Ok-None.field-0-is)

pub returns-in-Err : goal.returns-in-Err
returns-in-Err c = search (rules, owing_refused)
