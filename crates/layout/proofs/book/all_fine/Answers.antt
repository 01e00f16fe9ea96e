use Rattle.encoding.proofs.Below.{all_none, all_more}
use Rattle.layout.proofs.Books.{one_not}
use borrow.Author.Rules.{rules}
use Rattle.layout.proofs.book.all_fine.Goals as goal

pub loop-r-init : goal.loop-r-init
loop-r-init c = search (rules, all_none)

pub returns-then-not-fine_at : goal.returns-then-not-fine_at
returns-then-not-fine_at c = search (rules, one_not)

pub loop-r-preserved : goal.loop-r-preserved
loop-r-preserved c = search (rules, all_more)
