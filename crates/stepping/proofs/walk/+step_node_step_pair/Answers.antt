use Rattle.stepping.proofs.Walking.{left_falls, left_walk, right_falls, right_walk, finish_ready, pair_stepped, walk_row, no_row, leaf_ready, pair_ready, walk_falls}
use borrow.Author.Rules.{rules}
use Rattle.stepping.proofs.walk.+step_node_step_pair.Goals as goal

pub step_node-row_at-requires : goal.step_node-row_at-requires
step_node-row_at-requires t c = walk_row _ _ _ _ _ _ _ c.requires

pub step_node-returns-in_default-clause-stepped : goal.step_node-returns-in_default-clause-stepped
step_node-returns-in_default-clause-stepped t c = no_row _ _ _ _ _ _ _ c.requires _ _ _ _ c.row_at.ensures (search rules)

pub step_node-step_leaf-requires : goal.step_node-step_leaf-requires
step_node-step_leaf-requires t c = leaf_ready _ _ _ _ _ _ _ c.requires _ _ _ c.row_at.ensures (search rules) c.parts_of.ensures (search rules)

pub step_node-step_pair-requires : goal.step_node-step_pair-requires
step_node-step_pair-requires t c = (walk_falls _ _ _ _ _ _ _ c.requires t c.decreases, pair_ready _ _ _ _ _ _ _ c.requires _ c.in-Some.node _ c.row_at.ensures (search rules) c.parts_of.ensures _ (search rules))

pub step_pair-step_node-left-requires : goal.step_pair-step_node-left-requires
step_pair-step_node-left-requires t c = (left_falls _ _ _ _ _ _ _ _ c.requires t c.decreases, left_walk _ _ _ _ _ _ _ _ c.requires)

pub step_pair-step_node-right-requires : goal.step_pair-step_node-right-requires
step_pair-step_node-right-requires t c = (right_falls _ _ _ _ _ _ _ _ c.requires _ _ _ c.step_node-left.ensures.stepped t c.decreases, right_walk _ _ _ _ _ _ _ _ c.requires _ _ _ c.step_node-left.ensures.stepped)

pub step_pair-finish-requires : goal.step_pair-finish-requires
step_pair-finish-requires t c = finish_ready _ _ _ _ _ _ _ _ c.requires _ _ _ c.step_node-left.ensures.stepped _ _ c.step_node-right.ensures.stepped

pub step_pair-returns-clause-stepped : goal.step_pair-returns-clause-stepped
step_pair-returns-clause-stepped t c = pair_stepped _ _ _ _ _ _ _ _ c.requires _ _ _ c.step_node-left.ensures.stepped _ _ c.step_node-right.ensures.stepped _ c.joined_now-failing.ensures _ c.finish.ensures.stepped
