use Prim.Native.Nat.{◌-◌}
use Rattle.reader.specs.Lists.{tables_in, SameTables}
use Rattle.reader.proofs.Loops.{FillRun}
use Rattle.reader.proofs.fill.fill.Given as goal

abbrev pub invariant-loop-at : goal.invariant-loop-at
invariant-loop-at l = record {
  run : FillRun l.text l.head (tables_in l.initial.tables) (tables_in l.tables) l.f l.at;
  same : SameTables l.initial.tables l.tables;
}

abbrev pub decreases-loop-at : goal.decreases-loop-at
decreases-loop-at l =
    l.head - l.at
