use Rattle.formula.proofs.Signals.{valued_leaf, valued_not, valued_two, sig_in_ops, sig_in_nums, sig_small, sig_next, sig_falls, sig_right, sig_falls_right}
use borrow.Author.Rules.{rules}
use Rattle.formula.proofs.table.FormulaTable.+node_at_value_at.Goals as goal

pub node_at-bounds-self-i : goal.node_at-bounds-self-i
node_at-bounds-self-i t c = search (rules, sig_in_ops)

pub node_at-value_at-left-requires : goal.node_at-value_at-left-requires
node_at-value_at-left-requires t c = search (rules, sig_next, sig_falls)

pub node_at-returns-then-op-lt-NEXT : goal.node_at-returns-then-op-lt-NEXT
node_at-returns-then-op-lt-NEXT t c = search (rules, valued_not)

pub node_at-value_at-right-requires : goal.node_at-value_at-right-requires
node_at-value_at-right-requires t c = search (rules, sig_right, sig_falls_right)

pub node_at-returns : goal.node_at-returns
node_at-returns t c = search (rules, valued_two)

pub value_at-bounds-self-i : goal.value_at-bounds-self-i
value_at-bounds-self-i t c = search (rules, sig_in_ops)

pub value_at-bounds-self-i-then-self-i-lt-NOT : goal.value_at-bounds-self-i-then-self-i-lt-NOT
value_at-bounds-self-i-then-self-i-lt-NOT t c = search (rules, sig_in_nums)

pub value_at-truth-requires : goal.value_at-truth-requires
value_at-truth-requires t c = search (rules, sig_small)

pub value_at-returns-then-self-i-lt-NOT : goal.value_at-returns-then-self-i-lt-NOT
value_at-returns-then-self-i-lt-NOT t c = search (rules, valued_leaf)
