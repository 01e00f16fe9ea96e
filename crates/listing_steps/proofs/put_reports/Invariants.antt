use lib.ListN.{length}
use Rattle.reader.specs.Steps.{steps_from}
use Rattle.node_step.specs.Lists.{memory_of, SameLists}
use Rattle.text.specs.Lent.{tape_of, SameOut}
use Rattle.listing_steps.proofs.Runs.{Ran}
use Rattle.listing_steps.proofs.put_reports.Given as goal

abbrev pub invariant-loop-line : goal.invariant-loop-line
invariant-loop-line l = record {
  ran : Ran l.text l.from l.rules.tables.formulas.ops.now l.rules.tables.formulas.nums.now l.rules.tables.nodes.now l.rules.nfirsts.now l.rules.refusals.now l.rules.len (memory_of l.initial.memory) (tape_of l.initial.tape) l.cursor (memory_of l.memory) (tape_of l.tape) l.total;
  same : SameLists l.initial.memory l.memory;
  out : SameOut l.initial.tape l.tape;
}

abbrev pub decreases-loop-line : goal.decreases-loop-line
decreases-loop-line l =
    length (steps_from l.text l.cursor)
