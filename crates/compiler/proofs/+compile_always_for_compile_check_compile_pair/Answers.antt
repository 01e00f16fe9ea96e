use Rattle.std.proofs.lemmas.Result.{err_from_is_err_and}
use Rattle.compiler.proofs.Compiling.{ready_in_nums, ready_in_ops, ready_room}
use Rattle.compiler.proofs.Joining.{always_for_laid, always_for_under, always_for_zero, always_laid, eventually_refused, falls_from_part, falls_operand, falls_right, join_numbered, pair_laid, pair_refused, ready_always, ready_always_for, ready_left, ready_right, until_refused}
use native.Mathlib.Omega.{arith}
use borrow.Author.Rules.{rules}
use Rattle.compiler.proofs.+compile_always_for_compile_check_compile_pair.Goals as goal

pub compile_always_for-returns-then-scope-clause-compiled : goal.compile_always_for-returns-then-scope-clause-compiled
compile_always_for-returns-then-scope-clause-compiled t c = search (rules, always_for_under)

pub compile_always_for-bounds-table-i : goal.compile_always_for-bounds-table-i
compile_always_for-bounds-table-i t c = search (rules, ready_in_nums)

pub compile_always_for-returns-then-b-eq0 : goal.compile_always_for-returns-then-b-eq0
compile_always_for-returns-then-b-eq0 t c = search (rules, always_for_zero)

pub compile_always_for-compile_check-requires : goal.compile_always_for-compile_check-requires
compile_always_for-compile_check-requires t c = (
  falls_from_part _ _ _ _ _ c.requires.0 t c.decreases,
  ready_always_for _ _ _ _ _ c.requires.0 _ _ c.requires.1 (omega arith) c.if-b-eq0.false c.upto.ensures,
)

pub compile_always_for-returns : goal.compile_always_for-returns
compile_always_for-returns t c = search (rules, always_for_laid)

pub compile_check-bounds-table-i : goal.compile_check-bounds-table-i
compile_check-bounds-table-i t c = search (rules, ready_in_ops)

pub compile_check-compile_check-requires : goal.compile_check-compile_check-requires
compile_check-compile_check-requires t c = search (rules, ready_always, falls_operand)

pub compile_check-returns-in-5 : goal.compile_check-returns-in-5
compile_check-returns-in-5 t c = search (rules, always_laid)

pub compile_check-returns-in_default : goal.compile_check-returns-in_default
compile_check-returns-in_default t c = search (rules, eventually_refused)

pub compile_check-returns-in_default-2 : goal.compile_check-returns-in_default-2
compile_check-returns-in_default-2 t c = search (rules, until_refused)

pub compile_pair-put-requires : goal.compile_pair-put-requires
compile_pair-put-requires t c = search (rules, ready_room, join_numbered)

pub compile_pair-compile_check-requires : goal.compile_pair-compile_check-requires
compile_pair-compile_check-requires t c = search (rules, ready_left, falls_from_part)

pub compile_pair-returns-in_err-right-clause-compiled : goal.compile_pair-returns-in_err-right-clause-compiled
compile_pair-returns-in_err-right-clause-compiled t c =
    let p = err_from_is_err_and c.from_residual.result c.from_residual.ensures.1 in
    rw (p.1, p.2) (search (rules, pair_refused))

pub compile_pair-compile_check-requires-2 : goal.compile_pair-compile_check-requires-2
compile_pair-compile_check-requires-2 t c = (
  falls_right _ _ _ _ c.requires.1 c.requires.2 _ _ _ c.join_node.ensures c.put.ensures.laid _ _ c.compile_check.ensures.compiled _ c.in_ok-right.was t c.requires.0 c.decreases,
  ready_right _ _ _ _ c.requires.1 c.requires.2 _ _ _ c.join_node.ensures c.put.ensures.laid _ _ c.compile_check.ensures.compiled _ c.in_ok-right.was c.requires.0,
)

pub compile_pair-returns : goal.compile_pair-returns
compile_pair-returns t c = search (rules, pair_laid)
