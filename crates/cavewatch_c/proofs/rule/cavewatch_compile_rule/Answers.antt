use Rattle.cavewatch_c.proofs.Exported.{compile_told}
use borrow.Author.Rules.{rules}
use Rattle.cavewatch_c.proofs.rule.cavewatch_compile_rule.Goals as goal

pub returns : goal.returns
returns c = search (rules, compile_told)
