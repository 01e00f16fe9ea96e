use Rattle.words.proofs.Lookups.{by_size, no_size}
use borrow.Author.Rules.{rules}
use Rattle.words.proofs.lookup.look_up.Goals as goal

pub returns-then-n-eq2 : goal.returns-then-n-eq2
returns-then-n-eq2 c = search (rules, by_size)

pub returns-then-n-eq3 : goal.returns-then-n-eq3
returns-then-n-eq3 c = search (rules, by_size)

pub returns-then-n-eq4 : goal.returns-then-n-eq4
returns-then-n-eq4 c = search (rules, by_size)

pub returns-then-n-eq5 : goal.returns-then-n-eq5
returns-then-n-eq5 c = search (rules, by_size)

pub returns-then-n-eq6 : goal.returns-then-n-eq6
returns-then-n-eq6 c = search (rules, by_size)

pub returns-then-n-eq7 : goal.returns-then-n-eq7
returns-then-n-eq7 c = search (rules, by_size)

pub returns-then-n-ne10 : goal.returns-then-n-ne10
returns-then-n-ne10 c = search (rules, no_size)

pub returns : goal.returns
returns c = search (rules, by_size)
