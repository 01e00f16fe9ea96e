use Rattle.cavewatch_c.proofs.Exported.{list_told}
use borrow.Author.Rules.{rules}
use Rattle.cavewatch_c.proofs.books.cavewatch_list_book.Goals as goal

pub returns : goal.returns
returns c = search (rules, list_told)
