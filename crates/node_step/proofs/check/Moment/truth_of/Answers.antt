use Rattle.node_step.proofs.Checks.{says_true, says_value, signal_here}
use borrow.Author.Rules.{rules}
use Rattle.node_step.proofs.check.Moment.truth_of.Goals as goal

pub returns-in-True : goal.returns-in-True
returns-in-True c = search (rules, says_true)

pub value_at-requires : goal.value_at-requires
value_at-requires c = search (rules, signal_here)

pub returns-in-At : goal.returns-in-At
returns-in-At c = search (rules, says_value)
