use Rattle.lent.proofs.Shaping.{Shaping}
use Rattle.node_step.specs.Lists.{entries_of}
use Rattle.lent.proofs.Frame.is_shaped.Given as goal

abbrev pub invariant-loop-k : goal.invariant-loop-k
invariant-loop-k l = Shaping l.rows.nodes.now l.rows.first l.self.forms.now l.self.bounds.now (entries_of l.entries) l.rows.count l.k
