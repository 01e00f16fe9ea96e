use mathlib.Core.Path.{◌≡◌, ap}
use Rattle.std.specs.Prelude.{Err}
use Rattle.std.specs.Result.{result_err}
use Rattle.runs.proofs.Running.{run_fits, run_late, run_refused, run_taken}
use borrow.Author.Rules.{rules}
use Rattle.runs.proofs.run.Goals as goal

pub returns-in_err-admit_monitor : goal.returns-in_err-admit_monitor
returns-in_err-admit_monitor c =
    let e : c.from_residual.result ≡ Err c.in_err-admit_monitor.field-0.0 = search rules in
    let lent = rw c.entries.ensures at c.admit_monitor.ensures in
    let why = ap result_err c.in_err-admit_monitor.was in
    rw e (search (rules, run_refused))

pub returns-then-not-in_time : goal.returns-then-not-in_time
returns-then-not-in_time c = let lent = rw c.entries.ensures at c.admit_monitor.ensures in search (rules, run_late)

pub run_fit-requires : goal.run_fit-requires
run_fit-requires c = let lent = rw c.entries.ensures at c.admit_monitor.ensures in search (rules, run_fits)

pub returns : goal.returns
returns c = let lent = rw c.entries.ensures at c.admit_monitor.ensures in search (rules, run_taken)
