use Rattle.stepping.proofs.Walking.{leaf_stepped}
use borrow.Author.Rules.{rules}
use Rattle.stepping.proofs.walk.step_leaf.Goals as goal

pub returns : goal.returns
returns c = search (rules, leaf_stepped)
