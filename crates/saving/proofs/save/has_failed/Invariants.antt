use Rattle.saving.proofs.Going.{Marking}
use Rattle.saving.proofs.save.has_failed.Given as goal

abbrev pub invariant-loop-k : goal.invariant-loop-k
invariant-loop-k l = Marking l.rows.nodes.now l.rows.first l.rows.count l.entries.failed.now l.k
