use Rattle.stepping.proofs.Filling.{Stored}
use Rattle.stepping.specs.Fresh.{column}
use Rattle.stepping.proofs.fresh.copy_column.Given as goal

abbrev pub invariant-loop-k : goal.invariant-loop-k
invariant-loop-k l = Stored (column l.rows.nodes.now l.col l.rows.first) l.initial.out l.out l.k
