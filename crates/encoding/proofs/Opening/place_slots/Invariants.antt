use Rattle.encoding.proofs.Places.{Placing}
use Rattle.encoding.proofs.Opening.place_slots.Given as goal

abbrev pub invariant-loop-k : goal.invariant-loop-k
invariant-loop-k l = Placing l.self.widths.now l.self.slots l.base l.initial.places l.places l.place l.k
