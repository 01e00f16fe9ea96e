use Rattle.book.proofs.Dues.{climb_none, lowest}
use borrow.Author.Rules.{rules}
use native.Mathlib.Omega.{arith}
use Rattle.book.proofs.due.Due.climb.Goals as goal

pub returns-then-self-eq0 : goal.returns-then-self-eq0
returns-then-self-eq0 c = search (rules, climb_none)

pub overflow_sub-result : goal.overflow_sub-result
overflow_sub-result c = omega (arith, (lowest _ _ c.args.self.small c.if-self-eq0.false).up)

pub overflow_sub-result-2 : goal.overflow_sub-result-2
overflow_sub-result-2 c = (lowest _ _ c.args.self.small c.if-self-eq0.false).pos

pub invariant_of-result-2 : goal.invariant_of-result-2
invariant_of-result-2 c = record { small = (lowest _ _ c.args.self.small c.if-self-eq0.false).small }

pub returns : goal.returns
returns c = (lowest _ _ c.args.self.small c.if-self-eq0.false).same
