use Rattle.node_step.proofs.Checks.{range_holds, range_fails, range_out}
use borrow.Author.Rules.{rules}
use Rattle.node_step.proofs.check.Moment.step_range.Goals as goal

pub returns-then-not-truth_of : goal.returns-then-not-truth_of
returns-then-not-truth_of c = search (rules, range_fails)

pub returns : goal.returns
returns c = search (rules, range_holds, range_out)
