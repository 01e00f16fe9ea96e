use Rattle.text.proofs.Tapes.{begun_first, begun_next}
use borrow.Author.Rules.{rules}
use Rattle.text.proofs.write.Tape.put_bytes.Goals as goal

pub loop-b-init : goal.loop-b-init
loop-b-init c = search (rules, begun_first)

pub loop-b-preserved : goal.loop-b-preserved
loop-b-preserved c = search (rules, begun_next)
