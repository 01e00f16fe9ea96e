use Rattle.runs.proofs.Running.{along_below, along_end, along_fit, along_found, along_quiet, along_report}
use native.Mathlib.Omega.{arith}
use borrow.Author.Rules.{rules}
use Rattle.runs.proofs.run_fit.Goals as goal

pub step_fit-reports-requires : goal.step_fit-reports-requires
step_fit-reports-requires c = along_fit _ _ _ _ _ _ _ _ _ _ _ c.loop-word.invariant.along c.loop-word-test.true

pub overflow_add-at : goal.overflow_add-at
overflow_add-at c = record { fits = omega (arith, along_below _ _ _ _ _ _ _ _ _ _ _ c.loop-word.invariant.along c.loop-word-test.true) }

pub loop-word-preserved : goal.loop-word-preserved
loop-word-preserved c = search (rules, along_report, along_quiet, along_found)

pub returns-clause-stepped : goal.returns-clause-stepped
returns-clause-stepped c = along_end _ _ _ _ _ _ _ _ _ _ _ c.loop-word.invariant.along (omega arith)
