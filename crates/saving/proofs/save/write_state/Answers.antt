use Rattle.saving.proofs.Going.{writing_all, writing_room, writing_more}
use borrow.Author.Rules.{rules}
use Rattle.saving.proofs.save.write_state.Goals as goal

pub put-requires : goal.put-requires
put-requires c = search (rules, writing_room)

pub loop-k-preserved : goal.loop-k-preserved
loop-k-preserved c = search (rules, writing_more)

pub returns : goal.returns
returns c = search (rules, writing_all)
