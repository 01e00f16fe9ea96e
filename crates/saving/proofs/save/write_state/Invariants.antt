use Rattle.saving.proofs.Going.{Writing}
use Rattle.saving.proofs.save.write_state.Given as goal

abbrev pub invariant-loop-k : goal.invariant-loop-k
invariant-loop-k l = Writing l.rows.nodes.now l.rows.first l.rows.count l.entries.held.now l.entries.remaining.now l.initial.bytes l.bytes l.at l.k
