use native.Mathlib.Omega.{arith}
use Rattle.listing_nodes.proofs.Cells.{noded_first, noded_next, noded_unknown, noded_all, row_inside, noded_ready}
use borrow.Author.Rules.{rules}
use Rattle.listing_nodes.proofs.put_nodes.Goals as goal

pub loop-k-init : goal.loop-k-init
loop-k-init c = search (rules, noded_first)

pub overflow_add-part : goal.overflow_add-part
overflow_add-part c =
    let x = row_inside c.args.tables.now.formulas.ops.now c.args.tables.now.formulas.nums.now c.args.tables.now.nodes.now c.args.part.nfirst c.args.part.ncount c.loop-k.k c.requires (omega arith) in
    omega (arith, x)

pub row_at-requires : goal.row_at-requires
row_at-requires c = search (rules, row_inside)

pub returns-in_default : goal.returns-in_default
returns-in_default c = search (rules, noded_unknown)

pub put_node-requires : goal.put_node-requires
put_node-requires c = search (rules, noded_ready)

pub loop-k-preserved : goal.loop-k-preserved
loop-k-preserved c = search (rules, noded_next)

pub returns : goal.returns
returns c = search (rules, noded_all)
