use Rattle.book.proofs.Checks.{turn_fault, turn_next, run_unfinished, run_done}
use borrow.Author.Rules.{rules}
use Rattle.book.proofs.check.check_lines.Goals as goal

pub returns-in-Err : goal.returns-in-Err
returns-in-Err c = search (rules, turn_fault)

pub loop-at-preserved : goal.loop-at-preserved
loop-at-preserved c = search (rules, turn_next)

pub returns-then-s-gt0 : goal.returns-then-s-gt0
returns-then-s-gt0 c = search (rules, run_unfinished)

pub returns : goal.returns
returns c = search (rules, run_done)
