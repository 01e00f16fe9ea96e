use Rattle.saving.proofs.Going.{Entering}
use Rattle.node_step.specs.Lists.{memory_of, SameLists}
use Rattle.saving.proofs.restore.enter.Given as goal

abbrev pub invariant-loop-k : goal.invariant-loop-k
invariant-loop-k l = record {
  entering : Entering l.rows.nodes.now l.rows.first l.rows.count l.bytes (memory_of l.initial.memory) (memory_of l.memory) l.at l.k;
  same : SameLists l.initial.memory l.memory;
}
