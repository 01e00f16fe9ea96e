use mathlib.Core.Path.{refl}
use native.Mathlib.Omega.{arith}
use Rattle.std.proofs.lemmas.Result.{err_from_is_err_and}
use Rattle.compiler.proofs.Answering.{ready_rule, rule_refused, rule_compiled, seven_fits, inside, front, fronts}
use borrow.Author.Rules.{rules}
use Rattle.compiler.proofs.compile_rule.Goals as goal

pub compile_check-requires : goal.compile_check-requires
compile_check-requires c = search (rules, ready_rule)

pub overflow_mul-cells : goal.overflow_mul-cells
overflow_mul-cells c = seven_fits _ _ _ _ c.requires.0 _ _ _ _ c.all.ensures refl refl c.compile_check.ensures.compiled _ c.in_ok-compile_check.was

pub returns-in_err-compile_check : goal.returns-in_err-compile_check
returns-in_err-compile_check c =
    let p = err_from_is_err_and c.from_residual.result c.from_residual.ensures.1 in
    rw (p.1, p.2) (rule_refused _ _ _ _ c.requires.0 _ _ _ _ c.all.ensures refl refl c.compile_check.ensures.compiled _ _ c.in_err-compile_check.was)

pub slice_bounds-copy_from_slice-end : goal.slice_bounds-copy_from_slice-end
slice_bounds-copy_from_slice-end c = inside _ _ _ _ c.requires.0 _ _ _ _ c.all.ensures refl refl c.compile_check.ensures.compiled _ c.in_ok-compile_check.was _ (omega arith)

pub slice_bounds-copy_from_slice-end-2 : goal.slice_bounds-copy_from_slice-end-2
slice_bounds-copy_from_slice-end-2 c = front _ _ _ _ c.requires.0 _ _ _ _ c.all.ensures refl refl c.compile_check.ensures.compiled _ c.in_ok-compile_check.was _ (omega arith)

pub slice_bounds-copy_from_slice-end-3 : goal.slice_bounds-copy_from_slice-end-3
slice_bounds-copy_from_slice-end-3 c = front _ _ _ _ c.requires.0 _ _ _ _ c.all.ensures refl refl c.compile_check.ensures.compiled _ c.in_ok-compile_check.was _ (omega arith)

pub slice_bounds-aside-end : goal.slice_bounds-aside-end
slice_bounds-aside-end c = inside _ _ _ _ c.requires.0 _ _ _ _ c.all.ensures refl refl c.compile_check.ensures.compiled _ c.in_ok-compile_check.was _ (omega arith)

pub copy_from_slice-requires : goal.copy_from_slice-requires
copy_from_slice-requires c = fronts _ _ _ _ c.requires.0 _ _ _ _ c.all.ensures refl refl c.compile_check.ensures.compiled _ c.in_ok-compile_check.was _ _ (omega arith) (omega arith)

pub returns : goal.returns
returns c = rule_compiled _ _ _ _ c.requires.0 _ _ _ _ c.all.ensures refl refl c.compile_check.ensures.compiled _ c.in_ok-compile_check.was _ _ _ (search rules) (omega arith) (omega arith) c.copy_from_slice.ensures.after
