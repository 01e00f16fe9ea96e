use Rattle.listing_live.proofs.Entries.{entered_first, entered_next, entered_all, entry_ready, entry_room, entry_room_2}
use borrow.Author.Rules.{rules}
use Rattle.listing_live.proofs.live.put_skeleton.Goals as goal

pub loop-k-init : goal.loop-k-init
loop-k-init c = search (rules, entered_first)

pub bounds-skeleton-k : goal.bounds-skeleton-k
bounds-skeleton-k c = search (rules, entry_room)

pub bounds-skeleton-k-in-loop-k : goal.bounds-skeleton-k-in-loop-k
bounds-skeleton-k-in-loop-k c = search (rules, entry_room_2)

pub put_entry-requires : goal.put_entry-requires
put_entry-requires c = search (rules, entry_ready)

pub loop-k-preserved : goal.loop-k-preserved
loop-k-preserved c = search (rules, entered_next)

pub returns : goal.returns
returns c = search (rules, entered_all)
