use Rattle.words.specs.Coded.{Bytes}
use borrow.Author.Rules.{rules}
use Rattle.words.proofs.lookup.as_one.Goals as goal

pub returns : goal.returns
unfolding Bytes
returns c = search rules
