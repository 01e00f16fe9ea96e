use Rattle.number.proofs.Numbers.{hex_value, hex_wrong}
use borrow.Author.Rules.{rules}
use Rattle.number.proofs.hex.Goals as goal

pub returns-then-s-eq16 : goal.returns-then-s-eq16
returns-then-s-eq16 c = search (rules, hex_value)

pub returns : goal.returns
returns c = search (rules, hex_wrong)
