use Rattle.std.proofs.lemmas.Result.{err_from_is_err_and}
use Rattle.table_step.specs.Over.{part_over}
use Rattle.watch.proofs.Watching.{left_end, fewer, left_refused, left_reported, left_next}
use Rattle.watch.proofs.rule.watch_steps.Goals as goal

pub returns-in_err-a : goal.returns-in_err-a
returns-in_err-a c =
    let p = err_from_is_err_and c.from_residual.result c.from_residual.ensures.1 in
    rw (p.1, p.2) (left_refused _ _ _ _ _ _ _ c.next_step.ensures _ c.in-Some.is c.loop-line.invariant _ c.step_over-a.ensures _ c.in_err-a.was)

pub returns-then-branch : goal.returns-then-branch
returns-then-branch c = rw c.report_of.ensures (left_reported _ _ _ _ _ _ _ c.next_step.ensures _ c.in-Some.is c.loop-line.invariant _ c.step_over-a.ensures _ c.in_ok-a.was c.if-branch.true)

pub loop-line-smaller : goal.loop-line-smaller
loop-line-smaller c =
    fewer (part_over c.args.table c.args.nodes.now c.args.part) c.args.m _ c.args.from c.loop-line.k _ _ c.next_step.ensures _ c.in-Some.is

pub loop-line-preserved : goal.loop-line-preserved
loop-line-preserved c = left_next _ _ _ _ _ _ _ c.next_step.ensures _ c.in-Some.is c.loop-line.invariant _ c.step_over-a.ensures _ c.in_ok-a.was c.if-branch.false

pub returns : goal.returns
returns c = left_end _ _ _ _ _ _ _ c.loop-line.invariant c.next_step.ensures c.in_default.is
