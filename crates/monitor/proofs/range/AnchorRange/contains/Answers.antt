use borrow.Author.Rules.{rules}
use Rattle.monitor.proofs.Ranges.{contains_before, contains_step, contains_open}
use Rattle.monitor.proofs.range.AnchorRange.contains.Goals as goal

pub returns-then-s-from : goal.returns-then-s-from
returns-then-s-from c = search (rules, contains_before)

pub returns-in-Step : goal.returns-in-Step
returns-in-Step c = search (rules, contains_step)

pub returns-in-Open : goal.returns-in-Open
returns-in-Open c = search (rules, contains_open)
