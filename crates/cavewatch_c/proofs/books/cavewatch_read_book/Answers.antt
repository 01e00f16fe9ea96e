use Rattle.cavewatch_c.proofs.Exported.{read_told, read_small}
use borrow.Author.Rules.{rules}
use Rattle.cavewatch_c.proofs.books.cavewatch_read_book.Goals as goal

pub tell_read-requires : goal.tell_read-requires
tell_read-requires c = search (rules, read_small)

pub returns : goal.returns
returns c = search (rules, read_told)
