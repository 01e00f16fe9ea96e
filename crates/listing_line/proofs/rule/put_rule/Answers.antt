use Rattle.listing_line.proofs.Rules.{rule_line_lem}
use borrow.Author.Rules.{rules}
use Rattle.listing_line.proofs.rule.put_rule.Goals as goal

pub returns : goal.returns
returns c = search (rules, rule_line_lem)
