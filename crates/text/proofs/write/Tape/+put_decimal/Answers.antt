use Rattle.text.proofs.Tapes.{decimal_small, decimal_large}
use borrow.Author.Rules.{rules}
use Rattle.text.proofs.write.Tape.+put_decimal.Goals as goal

pub returns-then-n-lt10 : goal.returns-then-n-lt10
returns-then-n-lt10 t c = search (rules, decimal_small)

pub returns : goal.returns
returns t c = search (rules, decimal_large)
