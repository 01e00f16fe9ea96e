use Rattle.line.proofs.Lines.{rule_wrong, rule_right}
use borrow.Author.Rules.{rules}
use Rattle.line.proofs.line.rule.Goals as goal

pub returns-in_default : goal.returns-in_default
returns-in_default c = search (rules, rule_wrong)

pub returns : goal.returns
returns c = search (rules, rule_right)
