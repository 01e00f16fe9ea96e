use Rattle.cavewatch_c.proofs.Exported.{save_told}
use borrow.Author.Rules.{rules}
use Rattle.cavewatch_c.proofs.rule.cavewatch_save.Goals as goal

pub returns : goal.returns
returns c = search (rules, save_told)
