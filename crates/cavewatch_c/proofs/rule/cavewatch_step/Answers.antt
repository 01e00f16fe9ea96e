use Rattle.cavewatch_c.proofs.Exported.{step_told_lem}
use borrow.Author.Rules.{rules}
use Rattle.cavewatch_c.proofs.rule.cavewatch_step.Goals as goal

pub returns : goal.returns
returns c = search (rules, step_told_lem)
