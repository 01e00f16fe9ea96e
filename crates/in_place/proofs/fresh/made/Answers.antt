use Rattle.in_place.proofs.Answering.{makes}
use borrow.Author.Rules.{rules}
use Rattle.in_place.proofs.fresh.made.Goals as goal

pub returns : goal.returns
returns c = search (rules, makes)
