use Rattle.listing_line.proofs.Nodes.{end_step, end_open}
use borrow.Author.Rules.{rules}
use Rattle.listing_line.proofs.node.put_end.Goals as goal

pub returns-in-Step : goal.returns-in-Step
returns-in-Step c = search (rules, end_step)

pub returns-in-Open : goal.returns-in-Open
returns-in-Open c = search (rules, end_open)
