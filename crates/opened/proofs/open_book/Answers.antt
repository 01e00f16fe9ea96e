use borrow.Author.Rules.{rules}
use Rattle.opened.proofs.Reading.{read_opens, read_refuses}
use Rattle.opened.proofs.open_book.Goals as goal

pub returns-in_err-read_in : goal.returns-in_err-read_in
returns-in_err-read_in c = search (rules, read_refuses)

pub returns : goal.returns
returns c = read_opens _ _ _ c.blank-book.ensures _ c.read_in.ensures _ c.in_ok-read_in.was
