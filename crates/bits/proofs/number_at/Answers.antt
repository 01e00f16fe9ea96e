use Rattle.bits.proofs.Loops.{reading_none, reading_next}
use borrow.Author.Rules.{rules}
use Rattle.bits.proofs.number_at.Goals as goal

pub loop-i-init : goal.loop-i-init
loop-i-init c = search (rules, reading_none)

pub loop-i-preserved : goal.loop-i-preserved
loop-i-preserved c = search (rules, reading_next)
