use Rattle.saving.proofs.Going.{entering_all, entering_room, entering_more}
use borrow.Author.Rules.{rules}
use Rattle.saving.proofs.restore.enter.Goals as goal

pub take-requires : goal.take-requires
take-requires c = search (rules, entering_room)

pub loop-k-preserved : goal.loop-k-preserved
loop-k-preserved c = search (rules, entering_more)

pub returns : goal.returns
returns c = search (rules, entering_all)
