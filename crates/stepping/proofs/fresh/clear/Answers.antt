use Rattle.stepping.proofs.Filling.{clear_start, clear_inside, clear_next, clear_all}
use borrow.Author.Rules.{rules}
use Rattle.stepping.proofs.fresh.clear.Goals as goal

pub loop-k-init : goal.loop-k-init
loop-k-init c = search (rules, clear_start)

pub store-requires : goal.store-requires
store-requires c = search (rules, clear_inside)

pub loop-k-preserved : goal.loop-k-preserved
loop-k-preserved c = search (rules, clear_next)

pub returns : goal.returns
returns c = search (rules, clear_all)
