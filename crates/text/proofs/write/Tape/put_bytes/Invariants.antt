use Rattle.text.specs.Lent.{tape_of, SameOut}
use Rattle.text.proofs.Tapes.{Begun}
use Rattle.text.proofs.write.Tape.put_bytes.Given as goal

abbrev pub invariant-loop-b : goal.invariant-loop-b
invariant-loop-b l = Begun (tape_of l.initial.self) l.s l.b-index (tape_of l.self) × SameOut l.initial.self l.self
