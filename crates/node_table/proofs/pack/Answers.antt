use Prim.Native.Nat.{◌+◌}
use mathlib.Core.Path.{sym, subst}
use mathlib.Core.List.{List}
use Rattle.node_table.specs.declared.FormulaNode.{FormulaNode}
use Rattle.node_table.proofs.Filling.{Packing, packing_more}
use Rattle.node_table.proofs.pack.Goals as goal

pub loop-i-preserved : goal.loop-i-preserved
loop-i-preserved c = subst (λ (t : List FormulaNode). Packing c.args.c.ops c.args.c.nums c.args.c.count c.args.table.now (c.loop-i.i + 1) t)
    (sym c.put_node.ensures)
    (packing_more c.args.c.ops c.args.c.nums c.args.c.count c.args.table.now c.loop-i.i c.loop-i.table c.args.c.ops_room c.args.c.nums_room c.requires c.loop-i.invariant c.loop-i-test.true)
