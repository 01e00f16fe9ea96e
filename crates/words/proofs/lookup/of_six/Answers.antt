use Rattle.words.proofs.Lookups.{found, passed, none_left}
use borrow.Author.Rules.{rules}
use Rattle.words.proofs.lookup.of_six.Goals as goal

pub returns-then-w-as_one : goal.returns-then-w-as_one
returns-then-w-as_one c = search (rules, found 6 2)

pub returns-then-w-as_one-2 : goal.returns-then-w-as_one-2
returns-then-w-as_one-2 c = search (rules, found 6 2, passed 6 2)

pub returns-then-w-as_one-3 : goal.returns-then-w-as_one-3
returns-then-w-as_one-3 c = search (rules, found 6 2, passed 6 2)

pub returns : goal.returns
returns c = search (rules, passed 6 2, none_left)
