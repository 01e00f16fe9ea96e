use mathlib.Core.Path.{◌≡◌, ap}
use Rattle.std.specs.Prelude.{Err}
use Rattle.std.specs.Result.{result_err}
use Rattle.saving.proofs.Saves.{savable, saved_fits, saved_refused}
use borrow.Author.Rules.{rules}
use Rattle.saving.proofs.save.save.Goals as goal

pub returns-in_err-admit_monitor : goal.returns-in_err-admit_monitor
returns-in_err-admit_monitor c =
    let e : c.from_residual.result ≡ Err c.in_err-admit_monitor.field-0.0 = search rules in
    let why = ap result_err c.in_err-admit_monitor.was in
    rw e (search (rules, saved_refused))

pub save_fit-requires : goal.save_fit-requires
save_fit-requires c = rw c.rows.ensures (search (rules, savable))

pub returns : goal.returns
returns c =
    let none = ap result_err c.in_ok-admit_monitor.was in
    let saves = rw c.rows.ensures at c.save_fit.ensures in
    search (rules, saved_fits)
