use Rattle.words.proofs.Lookups.{found, passed, none_left}
use borrow.Author.Rules.{rules}
use Rattle.words.proofs.lookup.of_seven.Goals as goal

pub returns-then-w-as_one : goal.returns-then-w-as_one
returns-then-w-as_one c = search (rules, found 7 1)

pub returns : goal.returns
returns c = search (rules, passed 7 1, none_left)
