use Rattle.stepping.proofs.Calling.{already_broken, fit_walk, newly_broken}
use borrow.Author.Rules.{rules}
use Rattle.stepping.proofs.call.step_fit.Goals as goal

pub step_node-requires : goal.step_node-requires
step_node-requires c = search (rules, fit_walk)

pub returns-then-not-before-clause-stepped : goal.returns-then-not-before-clause-stepped
returns-then-not-before-clause-stepped c = newly_broken _ _ _ c.requires _ _ _ c.step_node.ensures.stepped c.if-not-before.true

pub returns-else-not-before-clause-stepped : goal.returns-else-not-before-clause-stepped
returns-else-not-before-clause-stepped c = search (rules, already_broken)
