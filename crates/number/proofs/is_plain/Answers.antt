use Rattle.number.proofs.Numbers.{plain_none, plain_one, plain_zero, plain_more}
use borrow.Author.Rules.{rules}
use Rattle.number.proofs.is_plain.Goals as goal

pub returns-then-s-eq0 : goal.returns-then-s-eq0
returns-then-s-eq0 c = search (rules, plain_none)

pub returns-then-s-eq1 : goal.returns-then-s-eq1
returns-then-s-eq1 c = search (rules, plain_one)

pub returns-then-s-eq48 : goal.returns-then-s-eq48
returns-then-s-eq48 c = search (rules, plain_zero)

pub returns : goal.returns
returns c = search (rules, plain_more)
