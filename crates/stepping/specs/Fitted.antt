-- A monitor that fits a rule, said apart, and what an accepted call does to its windows.
--     Fitted     forms and bounds are the nodes' own; range and delayed checks blame no step; the state in the memory is well-shaped
--     Windows    each obligation's window ticks, closes, opens or stays, from one state to the next
--     StepTaken  what every accepted call is (`accepted_windows`, proofs/Staying.antt)
use Rattle.std.specs.Prelude.{Bool, true, false, List, ◌≡◌, ℕ, ◌+◌, ◌≤◌, get_or}
use Rattle.std.proofs.Math.Option.{some}
use Rattle.terms.specs.Forms.{range_form, delayed_form, obligation_form, and_form, or_form}
use Rattle.monitor.specs.declared.range.AnchorRange.{AnchorRange}
use Rattle.monitor.specs.declared.node.MonNode.{MonNode}
use Rattle.monitor.specs.declared.node.MonNode.TheVariants.{RangeCheck, DelayedCheck, Obligation, And as AndNode, Or as OrNode}
use Rattle.monitor.specs.Range.{contains_of}
use Rattle.monitor.specs.Mon.{Signal, range_check, delayed_check, obligation, Mon, check, And, Or, count, node_of}
use Rattle.meaning.specs.Alarm.{truth}
use Rattle.meaning.specs.State.{ObligationState, State, WellShaped, step, newly_failed}
use Rattle.meaning.specs.Meaning.{Ticks, Closes, Opens}
use Rattle.node_step.specs.Memory.{Memory}
use Rattle.lent.specs.Lent.{LentTables, LentMonitor, rule_mon}
use Rattle.stepping.specs.Walk.{read_mon, Blameless}
use Rattle.stepping.specs.Call.{step_call}

-- ---- a monitor that fits
abbrev pub OwnNode : MonNode → ℕ → ℕ → Type 0
OwnNode (RangeCheck s r) form bound = form ≡ range_form
OwnNode (DelayedCheck s t r) form bound = form ≡ delayed_form
OwnNode (Obligation b s t r) form bound = (form ≡ obligation_form) × (bound ≡ b)
OwnNode AndNode form bound = form ≡ and_form
OwnNode OrNode form bound = form ≡ or_form

-- the forms of the nodes, and the bounds of the obligations, are the nodes' own
unfoldable pub OwnForms : Mon → List ℕ → List ℕ → ℕ → Type 0
OwnForms (check c) forms bounds i = OwnNode (node_of c) (get_or forms i 0) (get_or bounds i 0)
OwnForms (And m n) forms bounds i =
    OwnNode AndNode (get_or forms i 0) (get_or bounds i 0) × OwnForms m forms bounds (i + 1) × OwnForms n forms bounds (i + 1 + count m)
OwnForms (Or m n) forms bounds i =
    OwnNode OrNode (get_or forms i 0) (get_or bounds i 0) × OwnForms m forms bounds (i + 1) × OwnForms n forms bounds (i + 1 + count m)

pub record Fitted (m : Mon) (forms bounds : List ℕ) (mem : Memory) (i : ℕ) : Type 0 where
  pub own : OwnForms m forms bounds i
  pub blameless : Blameless m mem i
  pub kept : WellShaped m (read_mon m mem i)

-- ---- windows
-- one call at step s with truths w, from an obligation's state to the next
pub record Window (b : ℕ) (p q : Signal) (r : AnchorRange) (s w : ℕ) (before after : ObligationState) : Type 0 where
  pub ticks : before.failed ≡ false → before.pending ≡ true → truth q w ≡ false → Ticks before after
  pub closes : before.failed ≡ false → before.pending ≡ true → truth q w ≡ true → Closes before after
  pub opens : 1 ≤ b → before.failed ≡ false → before.pending ≡ false → contains_of r s ≡ true → truth p w ≡ true → Opens b s (truth q w) after
  pub stays_failed : before.failed ≡ true → after.failed ≡ true

unfoldable pub Windows : (m : Mon) → (s w : ℕ) → State m → State m → Type 0
Windows (check (range_check p r)) s w before after = Unit {0}
Windows (check (delayed_check p q r)) s w before after = Unit {0}
Windows (check (obligation b p q r)) s w before after = Window b p q r s w before after
Windows (And m n) s w before after = Windows m s w before.left after.left × Windows n s w before.right after.right
Windows (Or m n) s w before after = Windows m s w before.left after.left × Windows n s w before.right after.right

-- ---- an accepted call: the rule that the tables hold, the step of its state, and what became of its windows
pub record StepTaken (t : LentTables) (k : LentMonitor) (s w : ℕ) (broken : Bool) : Type 0 where
  pub mon : Mon
  pub rule : rule_mon t ≡ some mon
  pub before : WellShaped mon (read_mon mon k.memory 0)
  pub steps : read_mon mon (step_call t k s w).memory 0 ≡ (step mon (read_mon mon k.memory 0) s w).state
  pub reports : broken ≡ newly_failed mon (read_mon mon k.memory 0) s w
  pub after : WellShaped mon (read_mon mon (step_call t k s w).memory 0)
  pub windows : Windows mon s w (read_mon mon k.memory 0) (read_mon mon (step_call t k s w).memory 0)
