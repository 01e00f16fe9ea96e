use Rattle.std.proofs.Common.{◌≤◌}
use Rattle.replay.proofs.main.Given as goal

abbrev pub invariant-loop-k : goal.invariant-loop-k
invariant-loop-k l = (l.count ≤ l.k) × (l.differences ≤ l.k)
