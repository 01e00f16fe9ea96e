use Rattle.listing.proofs.Heads.{headed_first, headed_next, headed_all, rule_asked}
use borrow.Author.Rules.{rules}
use Rattle.listing.proofs.head.put_rules.Goals as goal

pub loop-r-init : goal.loop-r-init
loop-r-init c = search (rules, headed_first)

pub put_rule_at-requires : goal.put_rule_at-requires
put_rule_at-requires c = search (rules, rule_asked)

pub loop-r-preserved : goal.loop-r-preserved
loop-r-preserved c = search (rules, headed_next)

pub returns : goal.returns
returns c = search (rules, headed_all)
