use borrow.Author.Rules.{rules}
use Rattle.runs.proofs.Running.{no_words, late_start, enough_steps}
use Rattle.runs.proofs.in_time.Goals as goal

pub returns-then-is_empty : goal.returns-then-is_empty
returns-then-is_empty c = search (rules, no_words)

pub returns-then-s-lt-STEPS : goal.returns-then-s-lt-STEPS
returns-then-s-lt-STEPS c = search (rules, enough_steps)

pub returns-else-s-lt-STEPS : goal.returns-else-s-lt-STEPS
returns-else-s-lt-STEPS c = search (rules, late_start)
