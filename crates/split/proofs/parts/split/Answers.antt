use Rattle.std.proofs.lemmas.Result.{err_from_is_err_and}
use borrow.Author.Tests.{not-true, not-false}
use Rattle.split.proofs.Splits.{split_calm, split_fault, split_parts, ready_rule, placed_rule}
use borrow.Author.Rules.{rules}
use Rattle.split.proofs.parts.split.Goals as goal

pub contains_liveness-lives-requires : goal.contains_liveness-lives-requires
contains_liveness-lives-requires c = placed_rule _ _ _ _ _ c.is_rule.ensures c.if-not-is_rule.false

pub returns-then-not-lives : goal.returns-then-not-lives
returns-then-not-lives c = search (rules, split_calm, not-true, not-false)

pub judge_top-requires : goal.judge_top-requires
judge_top-requires c = placed_rule _ _ _ _ _ c.is_rule.ensures c.if-not-is_rule.false

pub returns-in_err-judge_top : goal.returns-in_err-judge_top
returns-in_err-judge_top c =
    let p = err_from_is_err_and c.from_residual.result c.from_residual.ensures.1 in
    rw (p.1, p.2) (search (rules, split_fault, c.in_err-judge_top.was))

pub decompose_top-filled-requires : goal.decompose_top-filled-requires
decompose_top-filled-requires c = let a = c.args in search (rules, ready_rule a.table.now.ops.now a.table.now.nums.now a.span.first a.span.count a.assumed a.skeleton.now a.owed.now c.is_roomy.result c.is_roomy.ensures c.if-not-is_roomy.false c.if-skeleton-lt-SKELETON_ROOM.false c.if-owed-lt-OWED_ROOM.false c.is_rule.result c.is_rule.ensures c.if-not-is_rule.false c.if-assumed.false c.contains_liveness-lives.result c.contains_liveness-lives.ensures c.if-not-lives.false c.judge_top.result c.judge_top.ensures, c.in_ok-judge_top.was)

pub returns : goal.returns
returns c = search (rules, split_parts, not-true, not-false, c.in_ok-judge_top.was)
