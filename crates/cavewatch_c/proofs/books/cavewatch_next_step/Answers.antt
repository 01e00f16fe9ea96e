use Rattle.cavewatch_c.proofs.Exported.{line_told_lem}
use borrow.Author.Rules.{rules}
use Rattle.cavewatch_c.proofs.books.cavewatch_next_step.Goals as goal

pub returns : goal.returns
returns c = search (rules, line_told_lem)
