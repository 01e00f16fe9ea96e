use native.Mathlib.Omega.{arith}
use Rattle.listing_steps.proofs.Turns.{turn_refused, turn_walks, turn_low, turn_room, turn_culprit, turn_broken, turn_kept}
use borrow.Author.Rules.{rules}
use Rattle.listing_steps.proofs.report_rule.Goals as goal

pub returns-then-rules-r-ne0 : goal.returns-then-rules-r-ne0
returns-then-rules-r-ne0 c = search (rules, turn_refused)

pub step_rule-broken-requires : goal.step_rule-broken-requires
step_rule-broken-requires c = search (rules, turn_walks)

pub offset_bounds-memory-k : goal.offset_bounds-memory-k
offset_bounds-memory-k c = omega (arith, turn_low _ _ _ _ _ _ _ _ _ _ c.requires c.if-rules-r-ne0.false)

pub bounds-memory-k : goal.bounds-memory-k
bounds-memory-k c = omega (arith, turn_room _ _ _ _ _ _ _ _ _ _ c.requires c.if-rules-r-ne0.false, c.step_rule-broken.ensures.same.culprits.size)

pub put_report-requires : goal.put_report-requires
put_report-requires c =
    search (rules, turn_culprit _ _ _ _ _ _ _ _ _ _ c.requires c.if-rules-r-ne0.false _ _ c.step_rule-broken.ensures.stepped)

pub returns-then-broken : goal.returns-then-broken
returns-then-broken c = search (rules, turn_broken)

pub returns : goal.returns
returns c = search (rules, turn_kept)
