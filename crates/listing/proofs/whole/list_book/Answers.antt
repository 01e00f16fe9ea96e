use Rattle.listing.proofs.Wholes.{list_short, listed, listed_within}
use borrow.Author.Rules.{rules}
use Rattle.listing.proofs.whole.list_book.Goals as goal

pub returns-then-out-lt-LISTING_BYTES : goal.returns-then-out-lt-LISTING_BYTES
returns-then-out-lt-LISTING_BYTES c = search (rules, list_short)

pub returns : goal.returns
returns c = search (rules, listed, listed_within)
