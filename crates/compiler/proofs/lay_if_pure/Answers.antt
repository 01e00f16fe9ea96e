use Rattle.compiler.proofs.Compiling.{pure_row}
use borrow.Author.Rules.{rules}
use Rattle.compiler.proofs.lay_if_pure.Goals as goal

pub returns : goal.returns
returns c = search (rules, pure_row, c.in_ok-e.ensures.ok_part)
