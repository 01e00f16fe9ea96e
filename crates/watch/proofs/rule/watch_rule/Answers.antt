use Rattle.std.proofs.lemmas.Result.{err_from_is_err_and}
use Rattle.watch.proofs.Watching.{rule_watched_lem, rule_refused}
use Rattle.watch.proofs.rule.watch_rule.Goals as goal

pub returns-in_err-n : goal.returns-in_err-n
returns-in_err-n c =
    let p = err_from_is_err_and c.from_residual.result c.from_residual.ensures.1 in
    rw (p.1, p.2) (rule_refused _ _ _ _ _ _ _ _ c.compile_over.ensures _ c.in_err-n.was)

pub returns : goal.returns
returns c = rule_watched_lem _ _ _ _ _ _ _ _ c.compile_over.ensures _ c.in_ok-n.was _ c.watch_compiled.ensures
