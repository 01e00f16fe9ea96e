use Rattle.std.proofs.lemmas.Result.{err_from_is_err_and}
use Rattle.liveness.proofs.Judges.{judged_leaf, judged_not, judged_eventually, judged_live, judged_calm, judged_left, judged_two, judged_behind, judged_falls, until_left, until_two, until_behind}
use Rattle.liveness.proofs.Words.{placed_next}
use Rattle.formula.proofs.Places.{in_ops, falls_next}
use borrow.Author.Rules.{rules}
use Rattle.liveness.proofs.walk.+judge_top.Goals as goal

pub bounds-table-i : goal.bounds-table-i
bounds-table-i t c = search (rules, in_ops)

pub returns-then-op-lt-NOT : goal.returns-then-op-lt-NOT
returns-then-op-lt-NOT t c = search (rules, judged_leaf)

pub judge_top-requires : goal.judge_top-requires
judge_top-requires t c = (search (rules, falls_next), search (rules, placed_next))

pub returns-then-op-lt-NEXT : goal.returns-then-op-lt-NEXT
returns-then-op-lt-NEXT t c = search (rules, judged_not)

pub operand_at-requires : goal.operand_at-requires
operand_at-requires t c = search (rules, placed_next)

pub returns-then-op-eq-EVENTUALLY : goal.returns-then-op-eq-EVENTUALLY
returns-then-op-eq-EVENTUALLY t c = search (rules, judged_eventually)

pub contains_liveness-requires : goal.contains_liveness-requires
contains_liveness-requires t c = search (rules, placed_next)

pub returns-then-contains_liveness : goal.returns-then-contains_liveness
returns-then-contains_liveness t c = search (rules, judged_live)

pub returns-then-op-lt-AND : goal.returns-then-op-lt-AND
returns-then-op-lt-AND t c = search (rules, judged_calm)

pub judge_top-requires-then-op-lt-UNTIL : goal.judge_top-requires-then-op-lt-UNTIL
judge_top-requires-then-op-lt-UNTIL t c = (search (rules, falls_next), search (rules, placed_next))

pub returns-in_err-right : goal.returns-in_err-right
returns-in_err-right t c =
    let p = err_from_is_err_and c.from_residual.result c.from_residual.ensures.1 in
    rw (p.1, p.2) (search (rules, judged_left, c.in_err-right.was))

pub judge_top-requires-then-op-lt-UNTIL-2 : goal.judge_top-requires-then-op-lt-UNTIL-2
judge_top-requires-then-op-lt-UNTIL-2 t c = (search (rules, judged_falls, c.in_ok-right.was), search (rules, judged_behind, c.in_ok-right.was))

pub returns-then-op-lt-UNTIL : goal.returns-then-op-lt-UNTIL
returns-then-op-lt-UNTIL t c = search (rules, judged_two)

pub operand_at-requires-2 : goal.operand_at-requires-2
operand_at-requires-2 t c = search (rules, placed_next)

pub returns-in_err-m : goal.returns-in_err-m
returns-in_err-m t c =
    let p = err_from_is_err_and c.from_residual-in_err-m.result c.from_residual-in_err-m.ensures.1 in
    rw (p.1, p.2) (search (rules, until_left, c.in_err-m.was))

pub operand_at-requires-3 : goal.operand_at-requires-3
operand_at-requires-3 t c = search (rules, until_behind, c.in_ok-m.was)

pub returns : goal.returns
returns t c = search (rules, until_two, c.in_ok-m.was)
