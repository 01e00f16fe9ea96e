use Rattle.book.proofs.States.{starts}
use borrow.Author.Rules.{rules}
use Rattle.book.proofs.state.start.Goals as goal

pub returns : goal.returns
returns c = search (rules, starts)
