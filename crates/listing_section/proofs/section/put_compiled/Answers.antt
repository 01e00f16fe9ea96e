use Rattle.listing_section.proofs.Sections.{nodes_ready, nodes_wrote, nodes_none}
use borrow.Author.Rules.{rules}
use Rattle.listing_section.proofs.section.put_compiled.Goals as goal

pub put_nodes-requires : goal.put_nodes-requires
put_nodes-requires c = search (rules, nodes_ready)

pub returns-in-Ok : goal.returns-in-Ok
returns-in-Ok c = search (rules, nodes_wrote)

pub returns-in-Err : goal.returns-in-Err
returns-in-Err c = search (rules, nodes_none)
