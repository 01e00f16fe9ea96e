use Rattle.reader.proofs.Fills.{line_none, line_rule_room, line_node_room, line_rule_put, line_node_put, line_kept, line_states, line_slot}
use borrow.Author.Rules.{rules}
use Rattle.reader.proofs.fill.put_line.Goals as goal

pub returns-in_default : goal.returns-in_default
returns-in_default c = search (rules, line_none)

pub put_rule-requires : goal.put_rule-requires
put_rule-requires c = search (rules, line_rule_room)

pub put_node-requires : goal.put_node-requires
put_node-requires c = search (rules, line_node_room)

pub returns-in-Rule : goal.returns-in-Rule
returns-in-Rule c = search (rules, line_rule_put)

pub returns-in-Node : goal.returns-in-Node
returns-in-Node c = search (rules, line_node_put)

pub returns-in-Step : goal.returns-in-Step
returns-in-Step c = search (rules, line_kept)

pub returns-in-States : goal.returns-in-States
returns-in-States c = search (rules, line_states)

pub returns-in-Slot : goal.returns-in-Slot
returns-in-Slot c = search (rules, line_slot)
