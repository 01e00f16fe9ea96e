use Rattle.line.proofs.Texts.{found_first}
use borrow.Author.Rules.{rules}
use Rattle.line.proofs.text.find.Goals as goal

pub returns : goal.returns
returns c = search (rules, found_first)
