use Rattle.plan.proofs.Widths.{width_is, width_zero}
use borrow.Author.Rules.{rules}
use Rattle.plan.proofs.layout.width_of.Goals as goal

pub returns-then-b-eq0 : goal.returns-then-b-eq0
returns-then-b-eq0 c = search (rules, width_zero)

pub returns : goal.returns
returns c = search (rules, width_is)
