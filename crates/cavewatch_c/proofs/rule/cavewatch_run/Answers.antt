use Rattle.cavewatch_c.proofs.Exported.{run_told_lem}
use borrow.Author.Rules.{rules}
use Rattle.cavewatch_c.proofs.rule.cavewatch_run.Goals as goal

pub returns : goal.returns
returns c = search (rules, run_told_lem)
