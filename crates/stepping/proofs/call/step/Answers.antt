use mathlib.Core.Path.{◌≡◌, ap}
use Rattle.std.specs.Prelude.{Err}
use Rattle.std.specs.Result.{result_err}
use Rattle.stepping.proofs.Calling.{step_fits, step_late, step_refused, step_taken}
use borrow.Author.Rules.{rules}
use Rattle.stepping.proofs.call.step.Goals as goal

pub returns-in_err-admit_monitor : goal.returns-in_err-admit_monitor
returns-in_err-admit_monitor c =
    let e : c.from_residual.result ≡ Err c.in_err-admit_monitor.field-0.0 = search rules in
    let lent = rw c.entries.ensures at c.admit_monitor.ensures in
    let why = ap result_err c.in_err-admit_monitor.was in
    rw e (search (rules, step_refused))

pub returns-then-s-ge-STEPS : goal.returns-then-s-ge-STEPS
returns-then-s-ge-STEPS c = let lent = rw c.entries.ensures at c.admit_monitor.ensures in search (rules, step_late)

pub step_fit-requires : goal.step_fit-requires
step_fit-requires c = let lent = rw c.entries.ensures at c.admit_monitor.ensures in search (rules, step_fits)

pub returns : goal.returns
returns c = let lent = rw c.entries.ensures at c.admit_monitor.ensures in search (rules, step_taken)
