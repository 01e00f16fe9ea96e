use native.Mathlib.Omega.{arith}
use Rattle.stepping.proofs.Memories.{count_pos}
use Rattle.listing_steps.proofs.HeldState.{stepped_before, stepped_after}
use borrow.Author.Rules.{rules}
use Rattle.listing_steps.proofs.step_rule.Goals as goal

pub bounds-memory-k : goal.bounds-memory-k
bounds-memory-k c = omega (arith, count_pos c.requires.mon)

pub returns-else-not-before : goal.returns-else-not-before
returns-else-not-before c = search (rules, stepped_before)

pub bounds-memory-k-then-not-before : goal.bounds-memory-k-then-not-before
bounds-memory-k-then-not-before c = omega (arith, count_pos c.requires.mon, c.step_node.ensures.same.failed.size)

pub returns-then-not-before : goal.returns-then-not-before
returns-then-not-before c = search (rules, stepped_after)
