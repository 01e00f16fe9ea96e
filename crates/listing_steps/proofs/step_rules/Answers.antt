use native.Mathlib.Omega.{arith}
use borrow.Author.Rules.{rules}
use Rattle.listing_steps.proofs.Lines.{upto_first, upto_due, upto_next, upto_all}
use Rattle.listing_steps.proofs.step_rules.Goals as goal

pub loop-r-init : goal.loop-r-init
loop-r-init c = search (rules, upto_first)

pub report_rule-count-requires : goal.report_rule-count-requires
report_rule-count-requires c = search (rules, upto_due)

pub overflow_add-count : goal.overflow_add-count
overflow_add-count c = omega (arith, c.report_rule-count.ensures.stepped.few, c.loop-r.invariant.ran.few, c.loop-r.invariant.ran.high, c.requires.rows.few)

pub loop-r-preserved : goal.loop-r-preserved
loop-r-preserved c = search (rules, upto_next)

pub returns : goal.returns
returns c = search (rules, upto_all)
