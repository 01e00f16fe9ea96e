use Rattle.line.proofs.Lines.{rule_labelled, rule_unlabelled}
use borrow.Author.Rules.{rules}
use Rattle.line.proofs.line.rule_kind.Goals as goal

pub returns-then-is_label : goal.returns-then-is_label
returns-then-is_label c = search (rules, rule_labelled)

pub returns-else-is_label : goal.returns-else-is_label
returns-else-is_label c = search (rules, rule_unlabelled)
