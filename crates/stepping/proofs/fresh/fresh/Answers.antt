use mathlib.Core.Path.{◌≡◌, ap, sym, ◌∙◌}
use Rattle.std.specs.Prelude.{Err}
use Rattle.std.specs.Result.{result_err}
use Rattle.lent.proofs.Refusals.{spanned}
use Rattle.stepping.proofs.Filling.{made_all, made_refused}
use borrow.Author.Rules.{rules}
use Rattle.stepping.proofs.fresh.fresh.Goals as goal

pub returns-in_err-admit : goal.returns-in_err-admit
returns-in_err-admit c =
    let e : c.from_residual.result ≡ Err c.in_err-admit.field-0.0 = search rules in
    let lent = rw c.entries.ensures at c.admit.ensures in
    let why = sym lent ∙ ap result_err c.in_err-admit.was in
    rw e (search (rules, made_refused))

pub make-requires : goal.make-requires
make-requires c =
    let lent = rw c.entries.ensures at c.admit.ensures in
    rw c.rows.ensures (search (rules, spanned))

pub returns : goal.returns
returns c =
    let lent = rw c.entries.ensures at c.admit.ensures in
    let none = sym lent ∙ ap result_err c.in_ok-admit.was in
    let makes = rw c.rows.ensures at c.make.ensures in
    search (rules, made_all)
