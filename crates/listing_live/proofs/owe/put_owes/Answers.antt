use Rattle.listing_live.proofs.OweLines.{owed_first, owed_next, owed_all, owe_ready, owe_room, owe_room_1, owe_room_2}
use borrow.Author.Rules.{rules}
use Rattle.listing_live.proofs.owe.put_owes.Goals as goal

pub loop-k-init : goal.loop-k-init
loop-k-init c = search (rules, owed_first)

pub bounds-owed-k : goal.bounds-owed-k
bounds-owed-k c = search (rules, owe_room)

pub bounds-owed-k-in-loop-k : goal.bounds-owed-k-in-loop-k
bounds-owed-k-in-loop-k c = search (rules, owe_room_1)

pub bounds-owed-k-in-loop-k-2 : goal.bounds-owed-k-in-loop-k-2
bounds-owed-k-in-loop-k-2 c = search (rules, owe_room_2)

pub put_owe-requires : goal.put_owe-requires
put_owe-requires c = search (rules, owe_ready)

pub loop-k-preserved : goal.loop-k-preserved
loop-k-preserved c = search (rules, owed_next)

pub returns : goal.returns
returns c = search (rules, owed_all)
