use Rattle.reader.proofs.BookSteps.{next_past, next_unended, next_none, next_other, next_step_lem}
use borrow.Author.Rules.{rules}
use Rattle.reader.proofs.steps.next_step.Goals as goal

pub returns-then-text-at : goal.returns-then-text-at
returns-then-text-at c = search (rules, next_past)

pub returns-then-rest-n : goal.returns-then-rest-n
returns-then-rest-n c = search (rules, next_unended)

pub returns-in_default : goal.returns-in_default
returns-in_default c = search (rules, next_none)

pub returns-in_default-content : goal.returns-in_default-content
returns-in_default-content c = search (rules, next_other)

pub returns : goal.returns
returns c = search (rules, next_step_lem)
