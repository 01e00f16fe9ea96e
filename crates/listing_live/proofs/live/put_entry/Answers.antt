use Prim.Native.Nat.{◌<◌}
use native.Mathlib.Omega.{arith}
use Rattle.listing_live.proofs.Entries.{leaf_in_ops, leaf_in_nums, entry_safety, entry_owed, entry_word}
use borrow.Author.Rules.{rules}
use Rattle.listing_live.proofs.live.put_entry.Goals as goal

pub bounds-table-p : goal.bounds-table-p
bounds-table-p c = search (rules, leaf_in_ops)

pub offset_bounds-table-p : goal.offset_bounds-table-p
offset_bounds-table-p c =
    let h : c.args.kind < 1 = omega arith in
    omega (arith, c.requires.in_nums h)

pub bounds-table-p-then-kind-lt-OWED : goal.bounds-table-p-then-kind-lt-OWED
bounds-table-p-then-kind-lt-OWED c = search (rules, leaf_in_nums)

pub returns-then-kind-lt-OWED : goal.returns-then-kind-lt-OWED
returns-then-kind-lt-OWED c = search (rules, entry_safety)

pub returns-then-kind-lt-WORD : goal.returns-then-kind-lt-WORD
returns-then-kind-lt-WORD c = search (rules, entry_owed)

pub returns : goal.returns
returns c = search (rules, entry_word)
