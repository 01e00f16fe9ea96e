use Rattle.cavewatch_c.proofs.Exported.{fresh_told}
use borrow.Author.Rules.{rules}
use Rattle.cavewatch_c.proofs.rule.cavewatch_fresh.Goals as goal

pub returns : goal.returns
returns c = search (rules, fresh_told)
