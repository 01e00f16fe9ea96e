use Rattle.letters.proofs.Places.{letters_are, no_letter}
use borrow.Author.Rules.{rules}
use Rattle.letters.proofs.letter.Goals as goal

pub returns-in-0 : goal.returns-in-0
returns-in-0 c = search (rules, letters_are 0)

pub returns-in-1 : goal.returns-in-1
returns-in-1 c = search (rules, letters_are 1)

pub returns-in-2 : goal.returns-in-2
returns-in-2 c = search (rules, letters_are 2)

pub returns-in-3 : goal.returns-in-3
returns-in-3 c = search (rules, letters_are 3)

pub returns-in-4 : goal.returns-in-4
returns-in-4 c = search (rules, letters_are 4)

pub returns-in-5 : goal.returns-in-5
returns-in-5 c = search (rules, letters_are 5)

pub returns-in-6 : goal.returns-in-6
returns-in-6 c = search (rules, letters_are 6)

pub returns-in-7 : goal.returns-in-7
returns-in-7 c = search (rules, letters_are 7)

pub returns-in-8 : goal.returns-in-8
returns-in-8 c = search (rules, letters_are 8)

pub returns-in-9 : goal.returns-in-9
returns-in-9 c = search (rules, letters_are 9)

pub returns-in-10 : goal.returns-in-10
returns-in-10 c = search (rules, letters_are 10)

pub returns-in-11 : goal.returns-in-11
returns-in-11 c = search (rules, letters_are 11)

pub returns-in-12 : goal.returns-in-12
returns-in-12 c = search (rules, letters_are 12)

pub returns-in-13 : goal.returns-in-13
returns-in-13 c = search (rules, letters_are 13)

pub returns-in-14 : goal.returns-in-14
returns-in-14 c = search (rules, letters_are 14)

pub returns-in-15 : goal.returns-in-15
returns-in-15 c = search (rules, letters_are 15)

pub returns-in-16 : goal.returns-in-16
returns-in-16 c = search (rules, letters_are 16)

pub returns-in_default : goal.returns-in_default
returns-in_default c = no_letter _ _ c.in_default.in_default-own.rest
