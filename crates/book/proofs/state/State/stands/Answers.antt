use Rattle.book.proofs.States.{rule_stands, node_stands, step_stands}
use borrow.Author.Rules.{rules}
use Rattle.book.proofs.state.State.stands.Goals as goal

pub returns-then-not-self : goal.returns-then-not-self
returns-then-not-self c = search (rules, rule_stands)

pub returns-in-Node : goal.returns-in-Node
returns-in-Node c = search (rules, node_stands)

pub returns-in-Step : goal.returns-in-Step
returns-in-Step c = search (rules, step_stands)
