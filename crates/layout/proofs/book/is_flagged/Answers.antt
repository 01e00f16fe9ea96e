use Prim.Native.Nat.{◌≤◌}
use native.Mathlib.Omega.{arith}
use borrow.Author.Rules.{rules}
use lib.ListN.{length}
use Rattle.layout.proofs.Books.{fine_flagged, fine_compiled, fine_unflagged, fine_refused}
use Rattle.layout.proofs.book.is_flagged.Goals as goal

pub returns-then-flag-eq0 : goal.returns-then-flag-eq0
returns-then-flag-eq0 c = let room : 1792 ≤ length c.args.aside.now = omega (arith, c.told-aside) in search (rules, fine_compiled)

pub returns-else-flag-eq0 : goal.returns-else-flag-eq0
returns-else-flag-eq0 c = let room : 1792 ≤ length c.args.aside.now = omega (arith, c.told-aside) in search (rules, fine_flagged)

pub returns-then-flag-ne0 : goal.returns-then-flag-ne0
returns-then-flag-ne0 c = let room : 1792 ≤ length c.args.aside.now = omega (arith, c.told-aside) in search (rules, fine_refused)

pub returns-else-flag-ne0 : goal.returns-else-flag-ne0
returns-else-flag-ne0 c = let room : 1792 ≤ length c.args.aside.now = omega (arith, c.told-aside) in search (rules, fine_unflagged)
