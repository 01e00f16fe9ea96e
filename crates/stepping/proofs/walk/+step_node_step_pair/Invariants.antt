use Prim.Native.Nat.{◌+◌, ◌*◌}
use Rattle.stepping.specs.Walk.{mon_nodes}
use Rattle.stepping.proofs.walk.+step_node_step_pair.Given as goal

abbrev pub decreases-step_node : goal.decreases-step_node
decreases-step_node l = 2 * mon_nodes l.tables.now.nodes.now (l.nfirst + l.k) + 1

abbrev pub decreases-step_pair : goal.decreases-step_pair
decreases-step_pair l = 2 * mon_nodes l.tables.now.nodes.now (l.nfirst + l.k)
