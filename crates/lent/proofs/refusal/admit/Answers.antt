use Rattle.lent.proofs.Refusals.{compiled, not_compiled, not_lent}
use borrow.Author.Rules.{rules}
use Rattle.lent.proofs.refusal.admit.Goals as goal

pub returns-then-not-is_lent : goal.returns-then-not-is_lent
returns-then-not-is_lent c = search (rules, not_lent)

pub returns-then-not-is_compiled : goal.returns-then-not-is_compiled
returns-then-not-is_compiled c = search (rules, not_compiled)

pub returns : goal.returns
returns c = search (rules, compiled)
