use Rattle.listing_live.proofs.OweLines.{Owed}
use Rattle.text.specs.Lent.{tape_of, SameOut}
use Rattle.listing_live.proofs.owe.put_owes.Given as goal

abbrev pub invariant-loop-k : goal.invariant-loop-k
invariant-loop-k l =
    Owed l.table.ops.now l.table.nums.now l.owed l.n l.k (tape_of l.initial.tape) (tape_of l.tape) × SameOut l.initial.tape l.tape
