use Prim.Native.Nat.{◌-◌}
use lib.ListN.{length}
use Rattle.reader.specs.Lists.{slots_in, SameSlots}
use Rattle.reader.proofs.OpeningPass.{SlotRun}
use Rattle.reader.proofs.slots.fill_slots.Given as goal

abbrev pub invariant-loop-k : goal.invariant-loop-k
invariant-loop-k l = record {
  run : SlotRun l.text l.slots (slots_in l.initial.tables) (slots_in l.tables) l.k l.at;
  same : SameSlots l.initial.tables l.tables;
}

abbrev pub decreases-loop-k : goal.decreases-loop-k
decreases-loop-k l =
    length l.text - l.at
