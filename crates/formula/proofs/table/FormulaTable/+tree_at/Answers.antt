use borrow.Author.Rules.{rules}
use Rattle.formula.proofs.Walks.{walk_past, walk_flat, at_unknown, at_atom, at_large, at_one, at_left, at_two, falls_past}
use Rattle.formula.proofs.table.FormulaTable.+tree_at.Goals as goal

pub returns-then-end-i : goal.returns-then-end-i
returns-then-end-i t c = search (rules, walk_past)

pub returns-then-room-eq0 : goal.returns-then-room-eq0
returns-then-room-eq0 t c = search (rules, walk_flat)

pub returns-then-op-ge-WORDS : goal.returns-then-op-ge-WORDS
returns-then-op-ge-WORDS t c = search (rules, at_unknown)

pub returns-then-self-i-lt-SIGNALS : goal.returns-then-self-i-lt-SIGNALS
returns-then-self-i-lt-SIGNALS t c = search (rules, at_atom)

pub returns-then-op-lt-NOT : goal.returns-then-op-lt-NOT
returns-then-op-lt-NOT t c = search (rules, at_large)

pub returns-then-op-lt-AND : goal.returns-then-op-lt-AND
returns-then-op-lt-AND t c = search (rules, at_one)

pub returns-in_err-e : goal.returns-in_err-e
returns-in_err-e t c = search (rules, at_left, c.in_err-e.was)

pub tree_at-requires : goal.tree_at-requires
tree_at-requires t c = search (rules, falls_past)

pub returns : goal.returns
returns t c = search (rules, at_two)
