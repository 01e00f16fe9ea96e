use Rattle.book.proofs.Dues.{due_leaf, due_one, due_two, two_small}
use borrow.Author.Rules.{rules}
use Rattle.book.proofs.due.Due.operands.Goals as goal

pub returns-then-op-lt-NOT : goal.returns-then-op-lt-NOT
returns-then-op-lt-NOT c = search (rules, due_leaf)

pub returns-then-op-lt-AND : goal.returns-then-op-lt-AND
returns-then-op-lt-AND c = search (rules, due_one)

pub invariant_of-result-2 : goal.invariant_of-result-2
invariant_of-result-2 c = search (rules, two_small)

pub returns : goal.returns
returns c = search (rules, due_two)
