use Rattle.book.proofs.States.{refuse_word, refuse_place, refuse_field}
use borrow.Author.Rules.{rules}
use Rattle.book.proofs.state.State.refuse.Goals as goal

pub returns-in-Unreadable : goal.returns-in-Unreadable
returns-in-Unreadable c = search (rules, refuse_word)

pub returns-in-Err : goal.returns-in-Err
returns-in-Err c = search (rules, refuse_place)

pub returns-in-Ok : goal.returns-in-Ok
returns-in-Ok c = search (rules, refuse_field)
