use borrow.Author.Rules.{rules}
use Rattle.formula.proofs.Signals.{and_left, and_not, or_left, or_right, implies_left, implies_not}
use Rattle.formula.proofs.signal.join.Goals as goal

pub returns-then-left : goal.returns-then-left
returns-then-left c = search (rules, and_left)

pub returns-then-op-lt-OR : goal.returns-then-op-lt-OR
returns-then-op-lt-OR c = search (rules, and_not)

pub returns-then-left-2 : goal.returns-then-left-2
returns-then-left-2 c = search (rules, or_left)

pub returns-then-op-lt-IMPLIES : goal.returns-then-op-lt-IMPLIES
returns-then-op-lt-IMPLIES c = search (rules, or_right)

pub returns-then-left-3 : goal.returns-then-left-3
returns-then-left-3 c = search (rules, implies_left)

pub returns : goal.returns
returns c = search (rules, implies_not)
