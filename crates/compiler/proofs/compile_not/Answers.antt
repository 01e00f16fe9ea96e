use Rattle.compiler.proofs.Compiling.{placed_of_not, ready_room, place_fits, not_laid}
use borrow.Author.Rules.{rules}
use Rattle.compiler.proofs.compile_not.Goals as goal

pub lay_if_pure-requires : goal.lay_if_pure-requires
lay_if_pure-requires c = search (rules, placed_of_not, ready_room, place_fits)

pub returns : goal.returns
returns c = search (rules, not_laid)
