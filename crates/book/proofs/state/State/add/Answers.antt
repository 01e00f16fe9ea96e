use Rattle.book.proofs.States.{adds_rule, adds_node, adds_step, adds_states, adds_slot}
use borrow.Author.Rules.{rules}
use Rattle.book.proofs.state.State.add.Goals as goal

pub returns-in-Rule : goal.returns-in-Rule
returns-in-Rule c = search (rules, adds_rule)

pub returns-in-Node : goal.returns-in-Node
returns-in-Node c = search (rules, adds_node)

pub returns-in-Step : goal.returns-in-Step
returns-in-Step c = search (rules, adds_step)

pub returns-in-States : goal.returns-in-States
returns-in-States c = search (rules, adds_states)

pub returns-in-Slot : goal.returns-in-Slot
returns-in-Slot c = search (rules, adds_slot)
