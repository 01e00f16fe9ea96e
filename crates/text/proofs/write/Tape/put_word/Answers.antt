use Rattle.text.proofs.Tapes.{begun_first, word_next, word_all}
use native.Mathlib.Omega.{arith}
use borrow.Author.Rules.{rules}
use Rattle.text.proofs.write.Tape.put_word.Goals as goal

pub loop-i-init : goal.loop-i-init
loop-i-init c = search (rules, begun_first)

pub loop-i-preserved : goal.loop-i-preserved
loop-i-preserved c = (
  word_next _ _ _ _ _ _ _ c.length-n.ensures c.letter.ensures c.loop-i.invariant.0 (omega arith) c.put_byte.ensures.wrote,
  search rules,
)

pub returns : goal.returns
returns c = search (rules, word_all)
