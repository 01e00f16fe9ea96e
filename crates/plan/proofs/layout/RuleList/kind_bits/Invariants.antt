use Rattle.plan.specs.Book.{of_kind, is_zero, part_bits, Counted}
use Rattle.plan.proofs.layout.RuleList.kind_bits.Given as goal

abbrev pub invariant-loop-r : goal.invariant-loop-r
invariant-loop-r l =
    Counted (of_kind l.property (is_zero l.self.kinds.now) (is_zero l.self.refusals.now)) (part_bits l.self.tables.nodes.now l.self.nfirsts.now l.self.ncounts.now) l.r l.sum
