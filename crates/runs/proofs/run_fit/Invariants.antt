use Rattle.node_step.specs.Lists.{memory_of, SameLists}
use Rattle.lent.specs.Lists.{tables_of}
use Rattle.runs.proofs.Running.{Along}
use Rattle.runs.proofs.run_fit.Given as goal

abbrev pub invariant-loop-word : goal.invariant-loop-word
invariant-loop-word l = record {
  along : Along (tables_of l.tables l.part) l.frame.size l.frame.forms.now l.frame.bounds.now (memory_of l.initial.memory) l.s l.words (memory_of l.memory) l.report l.at l.word-index;
  same : SameLists l.initial.memory l.memory;
}
