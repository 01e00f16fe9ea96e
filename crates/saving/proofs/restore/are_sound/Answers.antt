use Rattle.saving.proofs.Going.{sounding_all, sounding_room, sounding_no, sounding_more}
use borrow.Author.Rules.{rules}
use Rattle.saving.proofs.restore.are_sound.Goals as goal

pub take-requires : goal.take-requires
take-requires c = search (rules, sounding_room)

pub loop-k-preserved : goal.loop-k-preserved
loop-k-preserved c = search (rules, sounding_more)

pub returns-then-not-is_sound : goal.returns-then-not-is_sound
returns-then-not-is_sound c = search (rules, sounding_no)

pub returns : goal.returns
returns c = search (rules, sounding_all)
