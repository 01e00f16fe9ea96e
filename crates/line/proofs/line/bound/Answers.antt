use Rattle.line.proofs.Lines.{bound_wrong, bound_right}
use borrow.Author.Rules.{rules}
use Rattle.line.proofs.line.bound.Goals as goal

pub returns-in_err-num : goal.returns-in_err-num
returns-in_err-num c = search (rules, bound_wrong)

pub returns : goal.returns
returns c = search (rules, bound_right)
