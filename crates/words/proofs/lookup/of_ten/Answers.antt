use Rattle.words.proofs.Lookups.{found_so, passed_so, none_left}
use borrow.Author.Rules.{rules}
use Rattle.words.proofs.lookup.of_ten.Goals as goal

pub returns-then-ten : goal.returns-then-ten
returns-then-ten c = search (rules, found_so)

pub returns-then-ten-2 : goal.returns-then-ten-2
returns-then-ten-2 c = search (rules, found_so, passed_so)

pub returns : goal.returns
returns c = search (rules, passed_so, none_left)
