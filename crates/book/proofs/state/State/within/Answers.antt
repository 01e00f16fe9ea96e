use Rattle.book.proofs.States.{node_deep}
use borrow.Author.Rules.{rules}
use Rattle.book.proofs.state.State.within.Goals as goal

pub returns-then-self-lt-BOOK_NODES : goal.returns-then-self-lt-BOOK_NODES
returns-then-self-lt-BOOK_NODES c = search (rules, node_deep)
