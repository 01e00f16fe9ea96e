use Rattle.alike.specs.Signs.{rest}
use Rattle.alike.specs.Text.{agree}
use lib.ListN.{length}
use mathlib.Core.Path.{◌≡◌}
use Rattle.alike.proofs.text.same_text.Given as goal

abbrev pub invariant-loop-s : goal.invariant-loop-s
invariant-loop-s l =
    agree (rest l.table.ops.now l.table.nums.now l.c l.m) (rest l.table.ops.now l.table.nums.now l.d l.n) ≡ agree (rest l.table.ops.now l.table.nums.now l.initial.c l.m) (rest l.table.ops.now l.table.nums.now l.initial.d l.n)

abbrev pub decreases-loop-s : goal.decreases-loop-s
decreases-loop-s l = length (rest l.table.ops.now l.table.nums.now l.c l.m)
