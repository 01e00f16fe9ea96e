use Rattle.reader.proofs.Answers.{no_room, room_is}
use borrow.Author.Rules.{rules}
use Rattle.reader.proofs.read.read_book.Goals as goal

pub returns-then-not-is_roomy : goal.returns-then-not-is_roomy
returns-then-not-is_roomy c = search (rules, no_room)

pub read_roomy-requires : goal.read_roomy-requires
read_roomy-requires c = search (rules, room_is)
