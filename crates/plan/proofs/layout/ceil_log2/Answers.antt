use Rattle.plan.proofs.Widths.{log_none}
use borrow.Author.Rules.{rules}
use Rattle.plan.proofs.layout.ceil_log2.Goals as goal

pub returns-then-n-eq0 : goal.returns-then-n-eq0
returns-then-n-eq0 c = search (rules, log_none)
