use Rattle.cavewatch_c.proofs.Exported.{restore_told}
use borrow.Author.Rules.{rules}
use Rattle.cavewatch_c.proofs.rule.cavewatch_restore.Goals as goal

pub returns : goal.returns
returns c = search (rules, restore_told)
