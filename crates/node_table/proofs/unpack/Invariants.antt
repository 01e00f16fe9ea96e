use Rattle.node_table.proofs.Filling.{Unpacking}
use Rattle.node_table.proofs.unpack.Given as goal

abbrev pub invariant-loop-i : goal.invariant-loop-i
invariant-loop-i l = Unpacking l.table l.fn.span.first l.i l.ops l.nums
