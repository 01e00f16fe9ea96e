use mathlib.Core.Path.{◌≡◌, ap, sym, ◌∙◌}
use Rattle.std.specs.Prelude.{Err}
use Rattle.std.specs.Result.{result_err}
use Rattle.saving.proofs.Restores.{restore_refused, restorable, restore_rows}
use borrow.Author.Rules.{rules}
use Rattle.saving.proofs.restore.restore.Goals as goal

pub returns-in_err-admit : goal.returns-in_err-admit
returns-in_err-admit c =
    let e : c.from_residual.result ≡ Err c.in_err-admit.field-0.0 = search rules in
    let lent = rw c.entries.ensures at c.admit.ensures in
    let why = sym lent ∙ ap result_err c.in_err-admit.was in
    rw e (search (rules, restore_refused))

pub restore_rows-requires : goal.restore_rows-requires
restore_rows-requires c =
    let lent = rw c.entries.ensures at c.admit.ensures in
    rw c.rows.ensures (search (rules, restorable))

pub returns : goal.returns
returns c =
    let lent = rw c.entries.ensures at c.admit.ensures in
    let none = sym lent ∙ ap result_err c.in_ok-admit.was in
    let restores = rw c.rows.ensures at c.restore_rows.ensures in
    search (rules, restore_rows)
