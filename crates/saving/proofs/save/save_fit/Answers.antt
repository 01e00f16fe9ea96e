use Rattle.saving.proofs.Saves.{saves_written}
use borrow.Author.Rules.{rules}
use Rattle.saving.proofs.save.save_fit.Goals as goal

pub returns : goal.returns
returns c = search (rules, saves_written)
