use Rattle.compiler.proofs.Compiling.{placed_owed, implied_room, antecedent_fits, consequent_fits, owed_laid, consequent_nums}
use borrow.Author.Rules.{rules}
use Rattle.compiler.proofs.compile_owed.Goals as goal

pub offset_bounds-table-j : goal.offset_bounds-table-j
offset_bounds-table-j c = search (rules, consequent_nums)

pub bounds-table-j : goal.bounds-table-j
bounds-table-j c = search (rules, consequent_nums)

pub lay_if_pure-requires : goal.lay_if_pure-requires
lay_if_pure-requires c = search (rules, placed_owed, implied_room, antecedent_fits, consequent_fits)

pub returns : goal.returns
returns c = search (rules, owed_laid)
