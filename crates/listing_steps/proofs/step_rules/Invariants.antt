use Rattle.node_step.specs.Lists.{memory_of, SameLists}
use Rattle.text.specs.Lent.{tape_of, SameOut}
use Rattle.listing_steps.proofs.Lines.{Upto}
use Rattle.listing_steps.proofs.step_rules.Given as goal

abbrev pub invariant-loop-r : goal.invariant-loop-r
invariant-loop-r l = record {
  ran : Upto l.rules.tables.formulas.ops.now l.rules.tables.formulas.nums.now l.rules.tables.nodes.now l.rules.nfirsts.now l.rules.refusals.now l.rules.len (memory_of l.initial.memory) l.line.step l.line.truths (tape_of l.initial.tape) l.r (memory_of l.memory) (tape_of l.tape) l.count;
  same : SameLists l.initial.memory l.memory;
  out : SameOut l.initial.tape l.tape;
}
