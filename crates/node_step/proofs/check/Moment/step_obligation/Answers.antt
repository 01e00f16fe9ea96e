use Rattle.node_step.proofs.Checks.{owed_failed, owed_zero, owed_tickable, owed_ticks, owed_closed}
use borrow.Author.Rules.{rules}
use Rattle.node_step.proofs.check.Moment.step_obligation.Goals as goal

pub returns-then-memory-k-clause-stepped : goal.returns-then-memory-k-clause-stepped
returns-then-memory-k-clause-stepped c = search (rules, owed_failed)

pub returns-then-bound-eq0 : goal.returns-then-bound-eq0
returns-then-bound-eq0 c = search (rules, owed_zero)

pub tick-requires : goal.tick-requires
tick-requires c = owed_tickable _ _ _ _ _ _ _ _ _ _ c.requires (search rules) (search rules) _ _ c.open_window.ensures.stepped (search rules)

pub returns-then-open_window : goal.returns-then-open_window
returns-then-open_window c = search (rules, owed_ticks)

pub returns : goal.returns
returns c = search (rules, owed_closed)
