use Rattle.liveness.proofs.Judges.{calm_leaf, calm_eventually, calm_until, calm_one, calm_left, calm_two, calm_behind, calm_falls}
use Rattle.liveness.proofs.Words.{placed_next}
use Rattle.formula.proofs.Places.{in_ops, falls_next}
use borrow.Author.Rules.{rules}
use Rattle.liveness.proofs.walk.+calm_at.Goals as goal

pub bounds-table-i : goal.bounds-table-i
bounds-table-i t c = search (rules, in_ops)

pub returns-then-word-lt-NOT : goal.returns-then-word-lt-NOT
returns-then-word-lt-NOT t c = search (rules, calm_leaf)

pub returns-then-word-eq-EVENTUALLY : goal.returns-then-word-eq-EVENTUALLY
returns-then-word-eq-EVENTUALLY t c = search (rules, calm_eventually)

pub returns-then-word-ge-UNTIL : goal.returns-then-word-ge-UNTIL
returns-then-word-ge-UNTIL t c = search (rules, calm_until)

pub calm_at-first-requires : goal.calm_at-first-requires
calm_at-first-requires t c = search (rules, placed_next, falls_next)

pub returns-then-word-lt-AND : goal.returns-then-word-lt-AND
returns-then-word-lt-AND t c = search (rules, calm_one)

pub returns-in_err-e : goal.returns-in_err-e
returns-in_err-e t c = search (rules, calm_left, c.in_err-e.was)

pub calm_at-requires : goal.calm_at-requires
calm_at-requires t c = (search (rules, calm_falls, c.in_ok-e.was), calm_behind _ _ _ c.requires _ _ (search rules) (search rules) c.calm_at-first.ensures c.in_ok-e.was)

pub returns : goal.returns
returns t c = search (rules, calm_two)
