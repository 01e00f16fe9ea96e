use Rattle.text.proofs.Tapes.{signed_none, signed_cast, signed_step}
use borrow.Author.Rules.{rules}
use Rattle.text.proofs.write.Tape.put_signed.Goals as goal

pub returns-then-z-lt0 : goal.returns-then-z-lt0
returns-then-z-lt0 c = search (rules, signed_none)

pub overflow_cast-z : goal.overflow_cast-z
overflow_cast-z c = signed_cast _ c.ranges.z c.if-z-lt0.false

pub returns : goal.returns
returns c = search (rules, signed_step)
