use mathlib.Core.Path.{◌≡◌}
use Rattle.std.specs.Prelude.{Err}
use Rattle.book.proofs.States.{right_place, right_limit, right_adds}
use borrow.Author.Rules.{rules}
use Rattle.book.proofs.state.State.take_content.Goals as goal

pub returns-in_err-placed : goal.returns-in_err-placed
returns-in_err-placed c =
    let e : c.from_residual.result ≡ Err c.in_err-placed.field-0.0 = search rules in
    rw e (right_place _ _ _ _ _ c.sort-sort.ensures c.placed.ensures c.in_err-placed.field-0.0 c.in_err-placed.was)

pub returns-then-not-within : goal.returns-then-not-within
returns-then-not-within c = search (rules, right_limit, c.in_ok-placed.was)

pub returns : goal.returns
returns c = search (rules, right_adds, c.in_ok-placed.was)
