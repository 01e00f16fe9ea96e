use Rattle.text.proofs.Tapes.{byte_in, byte_out}
use borrow.Author.Rules.{rules}
use Rattle.text.proofs.write.Tape.put_byte.Goals as goal

pub returns-then-self-clause-wrote : goal.returns-then-self-clause-wrote
returns-then-self-clause-wrote c = search (rules, byte_in)

pub returns-else-self-clause-wrote : goal.returns-else-self-clause-wrote
returns-else-self-clause-wrote c = search (rules, byte_out)
