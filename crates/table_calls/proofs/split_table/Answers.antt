use Rattle.table_calls.proofs.Own.{split_own}
use borrow.Author.Rules.{rules}
use Rattle.table_calls.proofs.split_table.Goals as goal

pub returns : goal.returns
returns c = search (rules, split_own)
