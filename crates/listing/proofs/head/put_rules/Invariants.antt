use Rattle.text.specs.Lent.{tape_of, SameOut}
use Rattle.listing.proofs.Heads.{Headed}
use Rattle.listing.proofs.head.put_rules.Given as goal

abbrev pub invariant-loop-r : goal.invariant-loop-r
invariant-loop-r l =
    Headed l.placed.rules.tables.formulas.ops.now l.placed.rules.tables.formulas.nums.now l.placed.labels.now l.placed.lens.now
    l.placed.rules.kinds.now l.placed.rules.firsts.now l.placed.rules.counts.now l.placed.rules.tables.nodes.now
    l.placed.rules.nfirsts.now l.placed.rules.ncounts.now l.placed.rules.refusals.now l.placed.starts.now l.placed.bits.now
    l.placed.rules.len l.r (tape_of l.initial.tape) (tape_of l.tape)
    × SameOut l.initial.tape l.tape
