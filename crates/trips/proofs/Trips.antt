-- Every row of the table is kept: by computing it, and the largest bound by the law of an obligation's bits.
use mathlib.Core.Path.{◌≡◌, refl}
use mathlib.Core.Bool.{true, ◌&&◌}
use Prim.Native.Nat.{◌+◌}
use native.Mathlib.Omega.{arith}
use lib.Dec.{eqb}
use Rattle.formula.specs.Tree.{size}
use Rattle.formula.specs.Pure.{pure, value}
use Rattle.monitor.specs.Compile.{faults, consequent, node, implication}
use Rattle.meaning.specs.Alarm.{truth}
use Rattle.meaning.specs.State.{step, check_step, joined_step, obligation_step, unfailed_step}
use Rattle.meaning.specs.Calls.{first_report}
use Rattle.meaning.specs.Trips as stepped
use Rattle.plan.specs.Width.{first_power, ceil_log2}
use Rattle.plan.specs.Layout.{pieces, total}
use Rattle.plan.proofs.Facts.{owing_bits}
use Rattle.liveness.specs.Split as split
use Rattle.liveness.specs.Text.{skeleton_text}
use Rattle.trips.specs.Table.{computed, largest, trips, kept, all_kept, same_text}

computed_kept : all_kept computed ≡ true
unfolding all_kept kept stepped.kept same_text faults consequent node implication pure value truth first_report step check_step joined_step obligation_step unfailed_step size pieces total ceil_log2 first_power split.live split.faults split.skeleton_of split.obligations_of skeleton_text
computed_kept = refl

largest_kept : kept largest ≡ true
unfolding kept faults node pure pieces total
largest_kept = λ i. eqb (owing_bits 18446744073709551615 63 (omega arith) (omega arith) i + 0) 65

pub all_trips : all_kept trips ≡ true
unfolding all_kept
all_trips = λ i. largest_kept i && computed_kept i
