use Rattle.compiler.proofs.Compiling.{placed_of_next, ready_room, next_fits, next_laid}
use borrow.Author.Rules.{rules}
use Rattle.compiler.proofs.compile_next.Goals as goal

pub lay_if_pure-requires : goal.lay_if_pure-requires
lay_if_pure-requires c = search (rules, placed_of_next, ready_room, next_fits)

pub returns : goal.returns
returns c = search (rules, next_laid)
