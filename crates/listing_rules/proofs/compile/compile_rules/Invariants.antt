use Rattle.listing_rules.specs.Lists.{SameRules}
use Rattle.listing_rules.proofs.RuleLoop.{Filling}
use Rattle.listing_rules.proofs.compile.compile_rules.Given as goal

abbrev pub invariant-loop-r : goal.invariant-loop-r
invariant-loop-r l =
    Filling l.book.formulas.ops.now l.book.formulas.nums.now l.book.kinds.now l.book.firsts.now l.book.counts.now l.book.len
    l.initial.compiled.nodes.now l.compiled.nodes.now l.initial.compiled.nfirsts.now l.compiled.nfirsts.now
    l.initial.compiled.ncounts.now l.compiled.ncounts.now l.initial.compiled.refusals.now l.compiled.refusals.now l.at l.r
    × SameRules l.initial.compiled l.compiled
