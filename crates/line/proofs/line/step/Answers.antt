use Rattle.line.proofs.Lines.{step_wrong, step_truths, step_right}
use borrow.Author.Rules.{rules}
use Rattle.line.proofs.line.step.Goals as goal

pub returns-in_err-step : goal.returns-in_err-step
returns-in_err-step c = search (rules, step_wrong)

pub returns-in_err-truths : goal.returns-in_err-truths
returns-in_err-truths c = search (rules, step_truths)

pub returns : goal.returns
returns c = search (rules, step_right)
