use mathlib.Core.Path.{◌≡◌}
use Rattle.std.specs.Prelude.{Err}
use Rattle.lent.proofs.Refusals.{all_fit, not_fit, not_made, spanned}
use borrow.Author.Rules.{rules}
use Rattle.lent.proofs.refusal.admit_monitor.Goals as goal

pub returns-in_err-admit : goal.returns-in_err-admit
returns-in_err-admit c =
    let e : c.from_residual.result ≡ Err c.in_err-admit.field-0.0 = search rules in
    rw e (not_made _ _ _ c.admit.ensures _ c.in_err-admit.was)

pub is_fit-requires : goal.is_fit-requires
is_fit-requires c = rw c.rows.ensures (search (rules, spanned))

pub returns-then-not-is_fit : goal.returns-then-not-is_fit
returns-then-not-is_fit c = let fit = rw c.rows.ensures at c.is_fit.ensures in search (rules, not_fit)

pub returns : goal.returns
returns c = let fit = rw c.rows.ensures at c.is_fit.ensures in search (rules, all_fit)
