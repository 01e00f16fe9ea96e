use Rattle.words.proofs.Lookups.{found, passed, none_left}
use borrow.Author.Rules.{rules}
use Rattle.words.proofs.lookup.of_two.Goals as goal

pub returns-then-w-as_one : goal.returns-then-w-as_one
returns-then-w-as_one c = search (rules, found 2 6)

pub returns-then-w-as_one-2 : goal.returns-then-w-as_one-2
returns-then-w-as_one-2 c = search (rules, found 2 6, passed 2 6)

pub returns : goal.returns
returns c = search (rules, passed 2 6, none_left)
