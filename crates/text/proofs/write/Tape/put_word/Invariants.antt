use Rattle.words.specs.Word.{spelling_of}
use Rattle.text.specs.Lent.{tape_of, SameOut}
use Rattle.text.proofs.Tapes.{Begun}
use Rattle.text.proofs.write.Tape.put_word.Given as goal

abbrev pub invariant-loop-i : goal.invariant-loop-i
invariant-loop-i l = Begun (tape_of l.initial.self) (spelling_of l.k) l.i (tape_of l.self) × SameOut l.initial.self l.self
