use borrow.Author.Rules.{rules}
use Rattle.formula.proofs.Rules.{short_ops, short_nums, both_long}
use Rattle.formula.proofs.table.FormulaTable.is_roomy.Goals as goal

pub returns-then-self-lt-BOOK_NODES : goal.returns-then-self-lt-BOOK_NODES
returns-then-self-lt-BOOK_NODES c = search (rules, short_ops)

pub returns-then-self-lt-BOOK_NODES-2 : goal.returns-then-self-lt-BOOK_NODES-2
returns-then-self-lt-BOOK_NODES-2 c = search (rules, short_nums)

pub returns : goal.returns
returns c = search (rules, both_long)
