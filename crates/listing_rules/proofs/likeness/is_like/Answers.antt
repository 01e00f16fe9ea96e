use Rattle.listing_rules.proofs.Likes.{first_compiled, second_compiled, like_refused, like_same}
use borrow.Author.Rules.{rules}
use Rattle.listing_rules.proofs.likeness.is_like.Goals as goal

pub returns-then-rules-q-ne0 : goal.returns-then-rules-q-ne0
returns-then-rules-q-ne0 c = search (rules, like_refused)

pub same_nodes-requires : goal.same_nodes-requires
same_nodes-requires c = search (rules, first_compiled, second_compiled)

pub returns : goal.returns
returns c = search (rules, like_same)
