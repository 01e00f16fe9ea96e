use Rattle.plan.proofs.Pieces.{breadth_fits, breadth_is, pending_fits}
use borrow.Author.Rules.{rules}
use Rattle.plan.proofs.layout.breadth_of.Goals as goal

pub overflow_add-result : goal.overflow_add-result
overflow_add-result c = search (rules, pending_fits)

pub overflow_add-result-2 : goal.overflow_add-result-2
overflow_add-result-2 c = search (rules, breadth_fits)

pub returns : goal.returns
returns c = search (rules, breadth_is)
