use Rattle.stepping.proofs.Filling.{Clearing}
use Rattle.node_step.specs.Lists.{memory_of, SameLists}
use Rattle.stepping.proofs.fresh.clear.Given as goal

abbrev pub invariant-loop-k : goal.invariant-loop-k
invariant-loop-k l = record {
  clearing : Clearing (memory_of l.initial.memory) (memory_of l.memory) l.k;
  same : SameLists l.initial.memory l.memory;
}
