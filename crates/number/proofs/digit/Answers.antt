use Rattle.number.proofs.Numbers.{digit_low, digit_ten, digit_gap, digit_letter, digit_high}
use borrow.Author.Rules.{rules}
use Rattle.number.proofs.digit.Goals as goal

pub returns-then-b-lt48 : goal.returns-then-b-lt48
returns-then-b-lt48 c = search (rules, digit_low)

pub returns-then-b-lt58 : goal.returns-then-b-lt58
returns-then-b-lt58 c = search (rules, digit_ten)

pub returns-then-b-lt97 : goal.returns-then-b-lt97
returns-then-b-lt97 c = search (rules, digit_gap)

pub returns-then-b-lt103 : goal.returns-then-b-lt103
returns-then-b-lt103 c = search (rules, digit_letter)

pub returns : goal.returns
returns c = search (rules, digit_high)
