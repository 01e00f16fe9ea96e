use Rattle.compiler.proofs.Compiling.{placed_delayed, implied_room, antecedent_fits, consequent_fits, delayed_laid}
use borrow.Author.Rules.{rules}
use Rattle.compiler.proofs.compile_delayed.Goals as goal

pub lay_if_pure-requires : goal.lay_if_pure-requires
lay_if_pure-requires c = search (rules, placed_delayed, implied_room, antecedent_fits, consequent_fits)

pub returns : goal.returns
returns c = search (rules, delayed_laid)
