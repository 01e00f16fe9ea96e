use Rattle.number.proofs.Numbers.{decimal_plain, decimal_wrong}
use borrow.Author.Rules.{rules}
use Rattle.number.proofs.decimal.Goals as goal

pub returns-then-is_plain : goal.returns-then-is_plain
returns-then-is_plain c = search (rules, decimal_plain)

pub returns : goal.returns
returns c = search (rules, decimal_wrong)
