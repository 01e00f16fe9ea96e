use Rattle.node_step.proofs.Checks.{delayed_steps}
use borrow.Author.Rules.{rules}
use Rattle.node_step.proofs.check.Moment.step_delayed.Goals as goal

pub returns : goal.returns
returns c = search (rules, delayed_steps)
