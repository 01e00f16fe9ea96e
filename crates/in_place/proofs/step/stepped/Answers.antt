use Rattle.in_place.specs.InPlace.{step_in}
use Rattle.in_place.proofs.Answering.{steps}
use borrow.Author.Rules.{rules}
use Rattle.in_place.proofs.step.stepped.Goals as goal

pub returns : goal.returns
unfolding step_in
returns c = search (rules, steps)
