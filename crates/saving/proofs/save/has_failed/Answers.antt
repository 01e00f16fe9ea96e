use Rattle.saving.proofs.Going.{marking_all, marking_found, marking_more}
use borrow.Author.Rules.{rules}
use Rattle.saving.proofs.save.has_failed.Goals as goal

pub returns-then-is_spent : goal.returns-then-is_spent
returns-then-is_spent c = search (rules, marking_found)

pub loop-k-preserved : goal.loop-k-preserved
loop-k-preserved c = search (rules, marking_more)

pub returns : goal.returns
returns c = search (rules, marking_all)
