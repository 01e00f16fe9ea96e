use Rattle.reader.proofs.OpeningPass.{slots_first, slots_past, slots_room, slots_at, slots_falls, slots_next, slots_end}
use borrow.Author.Rules.{rules}
use Rattle.reader.proofs.slots.fill_slots.Goals as goal

pub loop-k-init : goal.loop-k-init
loop-k-init c = search (rules, slots_first)

pub past-rest-requires : goal.past-rest-requires
past-rest-requires c = search (rules, slots_past)

pub put_opening-k-requires : goal.put_opening-k-requires
put_opening-k-requires c = search (rules, slots_room)

pub overflow_add-at-in-loop-k : goal.overflow_add-at-in-loop-k
overflow_add-at-in-loop-k c = search (rules, slots_at)

pub loop-k-smaller : goal.loop-k-smaller
loop-k-smaller c = search (rules, slots_falls)

pub loop-k-preserved : goal.loop-k-preserved
loop-k-preserved c = search (rules, slots_next)

pub returns : goal.returns
returns c = search (rules, slots_end)
