use Rattle.saving.proofs.Going.{Sounding}
use Rattle.saving.proofs.restore.are_sound.Given as goal

abbrev pub invariant-loop-k : goal.invariant-loop-k
invariant-loop-k l = Sounding l.rows.nodes.now l.rows.first l.rows.count l.bytes l.at l.k
