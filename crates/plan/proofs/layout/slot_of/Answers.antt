use Rattle.plan.proofs.Pieces.{slot_is}
use borrow.Author.Rules.{rules}
use Rattle.plan.proofs.layout.slot_of.Goals as goal

pub returns : goal.returns
returns c = search (rules, slot_is)
