use Rattle.table_calls.proofs.Own.{compile_own}
use borrow.Author.Rules.{rules}
use Rattle.table_calls.proofs.compile_table.Goals as goal

pub returns : goal.returns
returns c = search (rules, compile_own)
