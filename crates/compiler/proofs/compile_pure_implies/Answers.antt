use Rattle.compiler.proofs.Compiling.{placed_consequent, implied_room, implied_fits, pure_laid}
use borrow.Author.Rules.{rules}
use Rattle.compiler.proofs.compile_pure_implies.Goals as goal

pub lay_if_pure-requires : goal.lay_if_pure-requires
lay_if_pure-requires c = search (rules, placed_consequent, implied_room, implied_fits)

pub returns : goal.returns
returns c = search (rules, pure_laid)
