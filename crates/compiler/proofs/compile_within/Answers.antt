use Rattle.compiler.proofs.Compiling.{placed_of_within, ready_room, next_fits, within_laid, ready_in_nums}
use borrow.Author.Rules.{rules}
use Rattle.compiler.proofs.compile_within.Goals as goal

pub bounds-table-i : goal.bounds-table-i
bounds-table-i c = search (rules, ready_in_nums)

pub lay_if_pure-requires : goal.lay_if_pure-requires
lay_if_pure-requires c = search (rules, placed_of_within, ready_room, next_fits)

pub returns : goal.returns
returns c = search (rules, within_laid)
