use borrow.Author.Rules.{rules}
use Rattle.formula.proofs.Places.{in_ops, placed_left, fewer_left}
use Rattle.formula.proofs.Signals.{purely_until, purely_leaf, purely_not, purely_temporal, purely_left, purely_two, placed_not, fewer_not, placed_behind, fewer_behind}
use Rattle.formula.proofs.table.FormulaTable.+boolean_over_atoms.Goals as goal

pub bounds-self-i : goal.bounds-self-i
bounds-self-i t c = search (rules, in_ops)

pub returns-then-op-ge-UNTIL : goal.returns-then-op-ge-UNTIL
returns-then-op-ge-UNTIL t c = search (rules, purely_until)

pub returns-then-op-lt-NOT : goal.returns-then-op-lt-NOT
returns-then-op-lt-NOT t c = search (rules, purely_leaf)

pub boolean_over_atoms-requires : goal.boolean_over_atoms-requires
boolean_over_atoms-requires t c = search (rules, placed_not, fewer_not)

pub returns-then-op-lt-NEXT : goal.returns-then-op-lt-NEXT
returns-then-op-lt-NEXT t c = search (rules, purely_not)

pub returns-then-op-lt-AND : goal.returns-then-op-lt-AND
returns-then-op-lt-AND t c = search (rules, purely_temporal)

pub boolean_over_atoms-requires-2 : goal.boolean_over_atoms-requires-2
boolean_over_atoms-requires-2 t c = search (rules, placed_left, fewer_left)

pub returns-in_err-e : goal.returns-in_err-e
returns-in_err-e t c = search (rules, purely_left, c.in_err-e.was)

pub boolean_over_atoms-requires-3 : goal.boolean_over_atoms-requires-3
boolean_over_atoms-requires-3 t c = search (rules, placed_behind, fewer_behind, c.in_ok-e.was)

pub returns : goal.returns
returns t c = search (rules, purely_two)
