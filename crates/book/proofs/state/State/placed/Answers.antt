use Rattle.book.proofs.States.{placed_nowhere, placed_unopened, placed_well}
use borrow.Author.Rules.{rules}
use Rattle.book.proofs.state.State.placed.Goals as goal

pub returns-then-not-stands : goal.returns-then-not-stands
returns-then-not-stands c = search (rules, placed_nowhere)

pub returns-then-not-opens : goal.returns-then-not-opens
returns-then-not-opens c = search (rules, placed_unopened)

pub returns : goal.returns
returns c = search (rules, placed_well)
