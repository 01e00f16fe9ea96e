use Rattle.listing_rules.proofs.Entries.{made}
use borrow.Author.Rules.{rules}
use Rattle.listing_rules.proofs.compile.compile_at.Goals as goal

pub returns : goal.returns
returns c = search (rules, made)
