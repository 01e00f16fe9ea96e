use Prim.Native.Nat.{◌+◌, ◌*◌, ◌-◌}
use lib.ListN.{length}
use Rattle.compiler.proofs.+compile_always_for_compile_check_compile_pair.Given as goal

abbrev pub decreases-compile_always_for : goal.decreases-compile_always_for
decreases-compile_always_for l = 2 * (length l.table.now.ops.now - l.i)

abbrev pub decreases-compile_check : goal.decreases-compile_check
decreases-compile_check l = 2 * (length l.table.now.ops.now - l.i) + 1

abbrev pub decreases-compile_pair : goal.decreases-compile_pair
decreases-compile_pair l = 2 * (length l.table.now.ops.now - l.i)
