use native.Mathlib.Omega.{arith}
use Rattle.alike.proofs.Wholes.{agreed_more, counts_differ, row_differs, row_in, row_in_second, rows_agree, shown_row, shown_row_second}
use borrow.Author.Rules.{rules}
use Rattle.alike.proofs.node.same_nodes.Goals as goal

pub returns-then-n-b : goal.returns-then-n-b
returns-then-n-b c = search (rules, counts_differ)

pub overflow_add-a : goal.overflow_add-a
overflow_add-a c = omega (arith, row_in _ _ _ c.args.a c.requires.0 c.loop-k.k (search rules))

pub overflow_add-b : goal.overflow_add-b
overflow_add-b c = omega (arith, row_in _ _ _ c.args.b c.requires.1 c.loop-k.k (search rules))

pub same_row-requires : goal.same_row-requires
same_row-requires c = search (rules, row_in, shown_row, row_in_second, shown_row_second)

pub loop-k-preserved : goal.loop-k-preserved
loop-k-preserved c = search (rules, agreed_more)

pub returns-then-not-same_row : goal.returns-then-not-same_row
returns-then-not-same_row c = search (rules, row_differs)

pub returns : goal.returns
returns c = search (rules, rows_agree)
