use Rattle.listing_line.proofs.Fields.{tab_three}
use borrow.Author.Rules.{rules}
use Rattle.listing_line.proofs.rule.put_rule_head.Goals as goal

pub returns : goal.returns
returns c = search (rules, tab_three)
