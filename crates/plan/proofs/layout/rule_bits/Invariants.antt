use Rattle.plan.specs.Rows.{Summed}
use Rattle.plan.proofs.layout.rule_bits.Given as goal

abbrev pub invariant-loop-j : goal.invariant-loop-j
invariant-loop-j l = Summed l.rows.nodes.now l.rows.first l.j l.sum
