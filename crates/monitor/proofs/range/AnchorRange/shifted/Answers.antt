use borrow.Author.Rules.{rules}
use Rattle.monitor.proofs.Ranges.{shift_step, shift_open, shift_fits}
use Rattle.monitor.proofs.range.AnchorRange.shifted.Goals as goal

pub overflow_add-result-in-Step : goal.overflow_add-result-in-Step
overflow_add-result-in-Step c = search (rules, shift_fits)

pub returns-in-Step : goal.returns-in-Step
returns-in-Step c = search (rules, shift_step)

pub returns-in-Open : goal.returns-in-Open
returns-in-Open c = search (rules, shift_open)
