use Rattle.listing_live.proofs.Entries.{Entered}
use Rattle.text.specs.Lent.{tape_of, SameOut}
use Rattle.listing_live.proofs.live.put_skeleton.Given as goal

abbrev pub invariant-loop-k : goal.invariant-loop-k
invariant-loop-k l =
    Entered l.table.ops.now l.table.nums.now l.skeleton l.n l.k (tape_of l.initial.tape) (tape_of l.tape) × SameOut l.initial.tape l.tape
