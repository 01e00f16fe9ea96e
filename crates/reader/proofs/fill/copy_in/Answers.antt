use Rattle.reader.proofs.Fills.{copy_first, copy_in_dst, copy_next, copy_end}
use borrow.Author.Rules.{rules}
use Rattle.reader.proofs.fill.copy_in.Goals as goal

pub loop-k-init : goal.loop-k-init
loop-k-init c = search (rules, copy_first)

pub bounds-dst-at : goal.bounds-dst-at
bounds-dst-at c = search (rules, copy_in_dst)

pub loop-k-preserved : goal.loop-k-preserved
loop-k-preserved c = search (rules, copy_next)

pub returns : goal.returns
returns c = search (rules, copy_end)
