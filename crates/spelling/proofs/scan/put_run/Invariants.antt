use Rattle.text.specs.Lent.{tape_of, SameOut}
use Rattle.spelling.proofs.Scans.{Scanned}
use Rattle.spelling.proofs.scan.put_run.Given as goal

abbrev pub invariant-loop-j : goal.invariant-loop-j
invariant-loop-j l =
    Scanned l.owing l.table.ops.now l.table.nums.now l.i l.e l.j (tape_of l.initial.tape) (tape_of l.tape) × SameOut l.initial.tape l.tape
