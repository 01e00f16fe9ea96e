use Rattle.words.proofs.Codes.{first_differ, others_decide}
use borrow.Author.Rules.{rules}
use Rattle.words.proofs.lookup.ten.Goals as goal

pub returns-then-w-as_one : goal.returns-then-w-as_one
returns-then-w-as_one c = search (rules, others_decide 8 2 6)

pub returns : goal.returns
returns c = search (rules, first_differ 8 2 6)
