use Rattle.words.proofs.Lookups.{found, passed, none_left}
use borrow.Author.Rules.{rules}
use Rattle.words.proofs.lookup.of_five.Goals as goal

pub returns-then-w-as_one : goal.returns-then-w-as_one
returns-then-w-as_one c = search (rules, found 5 3)

pub returns : goal.returns
returns c = search (rules, passed 5 3, none_left)
