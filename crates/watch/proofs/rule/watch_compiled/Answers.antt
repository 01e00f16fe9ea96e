use Rattle.std.proofs.lemmas.Result.{err_from_is_err_and}
use Rattle.watch.proofs.Watching.{made_watched, made_refused}
use Rattle.watch.proofs.rule.watch_compiled.Goals as goal

pub returns-in_err-started : goal.returns-in_err-started
returns-in_err-started c =
    let p = err_from_is_err_and c.from_residual.result c.from_residual.ensures.1 in
    rw (p.1, p.2) (made_refused _ _ _ _ c.blank_monitor.ensures c.fresh_over-started.ensures _ c.in_err-started.was)

pub returns : goal.returns
returns c = made_watched _ _ _ _ c.blank_monitor.ensures c.fresh_over-started.ensures _ c.in_ok-started.was _ c.watch_steps.ensures
