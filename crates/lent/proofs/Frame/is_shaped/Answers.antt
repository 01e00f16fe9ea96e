use Rattle.lent.proofs.Shaping.{shaping_end, shaping_next, shaping_no}
use borrow.Author.Rules.{rules}
use Rattle.lent.proofs.Frame.is_shaped.Goals as goal

pub loop-k-preserved : goal.loop-k-preserved
loop-k-preserved c = search (rules, shaping_next)

pub returns-then-not-fits_row : goal.returns-then-not-fits_row
returns-then-not-fits_row c = search (rules, shaping_no)

pub returns : goal.returns
returns c = search (rules, shaping_end)
