use Rattle.listing_rules.proofs.Likes.{Passed}
use Rattle.listing_rules.proofs.likeness.first_alike.Given as goal

abbrev pub invariant-loop-q : goal.invariant-loop-q
invariant-loop-q l = Passed l.rules.tables.formulas.ops.now l.rules.tables.formulas.nums.now l.rules.firsts.now l.rules.counts.now l.rules.tables.nodes.now l.rules.nfirsts.now l.rules.ncounts.now l.rules.refusals.now l.r l.q
