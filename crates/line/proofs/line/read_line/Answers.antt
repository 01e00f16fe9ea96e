use Rattle.line.proofs.Lines.{line_read, line_unworded}
use borrow.Author.Rules.{rules}
use Rattle.line.proofs.line.read_line.Goals as goal

pub returns-in_default : goal.returns-in_default
returns-in_default c = search (rules, line_unworded)

pub returns : goal.returns
returns c = search (rules, line_read)
