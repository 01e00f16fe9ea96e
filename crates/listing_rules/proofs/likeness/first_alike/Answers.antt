use Rattle.listing_rules.proofs.Likes.{passed_none, earlier_found, passed_more, none_earlier}
use borrow.Author.Rules.{rules}
use Rattle.listing_rules.proofs.likeness.first_alike.Goals as goal

pub loop-q-init : goal.loop-q-init
loop-q-init c = search (rules, passed_none)

pub returns-then-is_like : goal.returns-then-is_like
returns-then-is_like c = search (rules, earlier_found)

pub loop-q-preserved : goal.loop-q-preserved
loop-q-preserved c = search (rules, passed_more)

pub returns : goal.returns
returns c = search (rules, none_earlier)
