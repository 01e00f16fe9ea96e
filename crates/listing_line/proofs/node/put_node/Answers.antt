use Rattle.listing_line.proofs.Nodes.{ready_range, ready_delayed, ready_delayed_2, ready_owed, ready_owed_2, node_range, node_delayed, node_owed, node_and, node_or}
use borrow.Author.Rules.{rules}
use Rattle.listing_line.proofs.node.put_node.Goals as goal

pub put_expr-requires : goal.put_expr-requires
put_expr-requires c = search (rules, ready_range)

pub returns-in-RangeCheck : goal.returns-in-RangeCheck
returns-in-RangeCheck c = search (rules, node_range)

pub put_expr-requires-in-DelayedCheck : goal.put_expr-requires-in-DelayedCheck
put_expr-requires-in-DelayedCheck c = search (rules, ready_delayed)

pub put_expr-requires-in-DelayedCheck-2 : goal.put_expr-requires-in-DelayedCheck-2
put_expr-requires-in-DelayedCheck-2 c = search (rules, ready_delayed_2)

pub returns-in-DelayedCheck : goal.returns-in-DelayedCheck
returns-in-DelayedCheck c = search (rules, node_delayed)

pub put_expr-requires-in-Obligation : goal.put_expr-requires-in-Obligation
put_expr-requires-in-Obligation c = search (rules, ready_owed)

pub put_expr-requires-in-Obligation-2 : goal.put_expr-requires-in-Obligation-2
put_expr-requires-in-Obligation-2 c = search (rules, ready_owed_2)

pub returns-in-Obligation : goal.returns-in-Obligation
returns-in-Obligation c = search (rules, node_owed)

pub returns-in-And : goal.returns-in-And
returns-in-And c = search (rules, node_and)

pub returns-in-Or : goal.returns-in-Or
returns-in-Or c = search (rules, node_or)
