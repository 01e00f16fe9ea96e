use Rattle.std.proofs.Common.{length}
use Rattle.reader.specs.Steps.{steps_from}
use Rattle.table_step.specs.Over.{part_over}
use Rattle.watch.proofs.Watching.{Left}
use Rattle.watch.proofs.rule.watch_steps.Given as goal

abbrev pub invariant-loop-line : goal.invariant-loop-line
invariant-loop-line l =
    Left (part_over l.table l.nodes l.part) l.initial.k l.text l.from l.k l.at

abbrev pub decreases-loop-line : goal.decreases-loop-line
decreases-loop-line l = length (steps_from l.text l.at)
