use Rattle.reader.proofs.Loops.{fill_first, fill_past, fill_room, fill_next, fill_end}
use borrow.Author.Rules.{rules}
use Rattle.reader.proofs.fill.fill.Goals as goal

pub loop-at-init : goal.loop-at-init
loop-at-init c = search (rules, fill_first)

pub past-rest-requires : goal.past-rest-requires
past-rest-requires c = search (rules, fill_past)

pub put_line-f-requires : goal.put_line-f-requires
put_line-f-requires c = search (rules, fill_room)

pub loop-at-preserved : goal.loop-at-preserved
loop-at-preserved c = search (rules, fill_next)

pub returns : goal.returns
returns c = search (rules, fill_end)
