use Rattle.plan.specs.Lists.{SameBits}
use Rattle.plan.proofs.Books.{Arranging}
use Rattle.plan.proofs.layout.RuleList.arrange.Given as goal

abbrev pub invariant-loop-r : goal.invariant-loop-r
invariant-loop-r l =
    Arranging l.self.kinds.now l.self.refusals.now l.self.tables.nodes.now l.self.nfirsts.now l.self.ncounts.now l.base l.self.len l.initial.out.starts.now l.out.starts.now l.initial.out.bits.now l.out.bits.now l.x l.y l.r
    × SameBits l.initial.out l.out
