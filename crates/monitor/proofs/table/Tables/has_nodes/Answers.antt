use mathlib.Core.Path.{◌∙◌}
use native.Mathlib.Omega.{arith}
use Rattle.monitor.proofs.HeldTree.{end_inside, many_nodes, nodes_end, past_nodes, past_nodes_from}
use borrow.Author.Rules.{rules}
use Rattle.monitor.proofs.table.Tables.has_nodes.Goals as goal

pub returns-then-part-gt-RULE_NODES : goal.returns-then-part-gt-RULE_NODES
returns-then-part-gt-RULE_NODES c = search (rules, many_nodes)

pub returns-then-rows-part : goal.returns-then-rows-part
returns-then-rows-part c = search (rules, past_nodes)

pub returns-then-rows-part-2 : goal.returns-then-rows-part-2
returns-then-rows-part-2 c = search (rules, past_nodes_from)

pub nodes_at-requires : goal.nodes_at-requires
nodes_at-requires c = search (rules, end_inside)

pub returns : goal.returns
returns c = c.eq.ensures ∙ nodes_end _ _ _ _ _ _ _ _ c.nodes_at.ensures c.requires (omega arith) (omega arith) (omega arith)
