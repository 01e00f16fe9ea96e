use Rattle.reader.proofs.Fills.{Copying}
use Rattle.reader.proofs.fill.copy_in.Given as goal

abbrev pub invariant-loop-k : goal.invariant-loop-k
invariant-loop-k l = Copying l.initial.dst l.at l.src l.dst l.k
