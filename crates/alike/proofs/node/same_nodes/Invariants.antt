use Rattle.alike.proofs.Wholes.{Agreed}
use Rattle.alike.proofs.node.same_nodes.Given as goal

abbrev pub invariant-loop-k : goal.invariant-loop-k
invariant-loop-k l = Agreed l.tables.formulas.ops.now l.tables.formulas.nums.now l.tables.nodes.now l.n l.a.nfirst l.b.nfirst l.k
