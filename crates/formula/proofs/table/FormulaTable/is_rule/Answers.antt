use mathlib.Core.Path.{◌∙◌}
use native.Mathlib.Omega.{arith}
use borrow.Author.Rules.{rules}
use Rattle.formula.proofs.Rules.{too_many, past_table, past_ops, past_nums, ends_there}
use Rattle.formula.proofs.table.FormulaTable.is_rule.Goals as goal

pub returns-then-span-gt-RULE_NODES : goal.returns-then-span-gt-RULE_NODES
returns-then-span-gt-RULE_NODES c = search (rules, too_many)

pub returns-then-span : goal.returns-then-span
returns-then-span c = search (rules, past_table)

pub returns-then-self-end : goal.returns-then-self-end
returns-then-self-end c = search (rules, past_ops)

pub returns-then-self-end-2 : goal.returns-then-self-end-2
returns-then-self-end-2 c = search (rules, past_nums)

pub returns : goal.returns
returns c = c.eq.ensures ∙ ends_there _ _ _ _ _ c.tree_at.ensures (omega arith) (omega arith) (omega arith) (omega arith)
