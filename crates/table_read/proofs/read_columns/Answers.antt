use mathlib.Core.Path.{◌≡◌, refl}
use Prim.Native.Nat.{◌≤◌}
use native.Mathlib.Omega.{arith}
use borrow.Author.Rules.{rules}
use Rattle.std.specs.Prelude.{Err}
use Rattle.reader.proofs.Lent.{reads_as}
use Rattle.table_read.specs.RuleList.{with_table}
use Rattle.table_read.proofs.Reading.{fills_short, fills_read, few_nodes, fills_none}
use Rattle.table_read.proofs.read_columns.Goals as goal

pub returns-then-len-lt-BOOK_NODES-clause-fills : goal.returns-then-len-lt-BOOK_NODES-clause-fills
returns-then-len-lt-BOOK_NODES-clause-fills c = search (rules, fills_short)

pub returns-in_err-read-clause-fills : goal.returns-in_err-read-clause-fills
returns-in_err-read-clause-fills c =
    let e : c.from_residual.result ≡ Err c.in_err-read.field-0.0 = search rules in
    rw e (fills_none c.args.len _ _ _ _ _ _ _ _
    (reads_as _ _ _ _ _ (with_table _ c.read_book.new.tables.ops.now c.read_book.new.tables.nums.now) _ _ c.read_book.ensures.read (search rules) (search rules))
    (search rules) _ c.in_err-read.was)

pub invariant_of-columns : goal.invariant_of-columns
invariant_of-columns c =
    let few : c.in_ok-read.read.nodes ≤ 1024 = few_nodes _ _ _ _ _ _ _ c.read_book.ensures.read c.in_ok-read.was in
    record { ops_room = omega arith; nums_room = omega arith }

pub returns-clause-fills : goal.returns-clause-fills
returns-clause-fills c =
    fills_read c.args.len _ _ _ _ _ _ _ _
    (reads_as _ _ _ _ _ _ _ _ c.read_book.ensures.read (search rules) (search rules))
    (search rules) _ c.in_ok-read.was _ (search rules) refl refl
