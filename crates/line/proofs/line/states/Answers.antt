use Rattle.line.proofs.Lines.{states_wrong, states_right}
use borrow.Author.Rules.{rules}
use Rattle.line.proofs.line.states.Goals as goal

pub returns-in_err-count : goal.returns-in_err-count
returns-in_err-count c = search (rules, states_wrong)

pub returns : goal.returns
returns c = search (rules, states_right)
