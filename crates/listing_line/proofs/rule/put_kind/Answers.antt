use Rattle.listing_line.proofs.Rules.{kind_property, kind_assumption}
use borrow.Author.Rules.{rules}
use Rattle.listing_line.proofs.rule.put_kind.Goals as goal

pub returns-then-kind-eq-PROPERTY : goal.returns-then-kind-eq-PROPERTY
returns-then-kind-eq-PROPERTY c = search (rules, kind_property)

pub returns : goal.returns
returns c = search (rules, kind_assumption)
