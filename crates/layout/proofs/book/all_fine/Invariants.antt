use mathlib.Core.Path.{◌≡◌}
use mathlib.Core.Bool.{true}
use Rattle.encoding.specs.Below.{all_below}
use Rattle.layout.specs.Entry.{fine_of, rule_at, mon_at}
use Rattle.layout.proofs.book.all_fine.Given as goal

abbrev pub invariant-loop-r : goal.invariant-loop-r
invariant-loop-r l =
    all_below (fine_of (rule_at l.rules.tables.formulas.ops.now l.rules.tables.formulas.nums.now l.rules.firsts.now l.rules.counts.now) l.rules.refusals.now (mon_at l.rules.tables.formulas.ops.now l.rules.tables.formulas.nums.now l.rules.firsts.now l.rules.counts.now l.rules.tables.nodes.now l.rules.nfirsts.now l.rules.ncounts.now)) l.r ≡ true
