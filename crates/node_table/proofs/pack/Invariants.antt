use Rattle.node_table.proofs.Filling.{Packing}
use Rattle.node_table.proofs.pack.Given as goal

abbrev pub invariant-loop-i : goal.invariant-loop-i
invariant-loop-i l = Packing l.fn.c.ops l.fn.c.nums l.fn.c.count l.initial.table l.i l.table
