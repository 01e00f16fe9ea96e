use Rattle.stepping.proofs.Filling.{column_next, column_start}
use borrow.Author.Rules.{rules}
use Rattle.stepping.proofs.fresh.copy_column.Goals as goal

pub loop-k-init : goal.loop-k-init
loop-k-init c = search (rules, column_start)

pub loop-k-preserved : goal.loop-k-preserved
loop-k-preserved c = search (rules, column_next)
