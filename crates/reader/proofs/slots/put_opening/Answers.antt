use Rattle.reader.proofs.OpeningPass.{slot_none, slot_other, slot_room, slot_fits, slot_put}
use borrow.Author.Rules.{rules}
use Rattle.reader.proofs.slots.put_opening.Goals as goal

pub returns-in_default : goal.returns-in_default
returns-in_default c = search (rules, slot_none)

pub returns-in_default-content-clause-put : goal.returns-in_default-content-clause-put
returns-in_default-content-clause-put c = slot_other _ _ c.read_line.ensures _ c.in-Ok.is _ _ c.in_default-content.not-Slot

pub put_slot-requires : goal.put_slot-requires
put_slot-requires c = search (rules, slot_room)

pub overflow_add-result : goal.overflow_add-result
overflow_add-result c = search (rules, slot_fits)

pub returns : goal.returns
returns c = search (rules, slot_put)
