use Rattle.encoding.proofs.Places.{placing_none, placing_more}
use borrow.Author.Rules.{rules}
use Rattle.encoding.proofs.Opening.place_slots.Goals as goal

pub loop-k-init : goal.loop-k-init
loop-k-init c = search (rules, placing_none)

pub loop-k-preserved : goal.loop-k-preserved
loop-k-preserved c = search (rules, placing_more)
