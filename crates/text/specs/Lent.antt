-- A tape in terms of what it is lent.
--     tape_of    its bytes and its place
--     SameOut    the same memory is lent afterwards
use Rattle.terms.specs.Lent.{Same}
use Rattle.text.specs.Tape.{Tape, tape}
use Rattle.text.specs.declared.write.Tape.{Tape as Lent}

abbrev pub tape_of : Lent → Tape
tape_of t = tape t.out.now t.at

abbrev pub SameOut : Lent → Lent → Type 0
SameOut old new = Same old.out new.out
