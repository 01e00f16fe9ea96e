use Rattle.alike.proofs.Spellings.{both_texts}
use borrow.Author.Rules.{rules}
use Rattle.alike.proofs.text.same_at.Goals as goal

pub returns : goal.returns
returns c = search (rules, both_texts)
