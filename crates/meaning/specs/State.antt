-- A monitor's state, shaped like its node (`MonState` of src/codegen/monitor.rs), and its steps (`initial_state`, `step_node`, `min_trigger_at`).
--     initial_state    nothing pending, failed or remembered, every culprit minus 1
--     step m st s w   one call at step s with truths w: the state afterwards, and whether the node is failing now
--     newly_failed     what the call reports of the root
--     after m rec k   the state after the steps 0 to k-1 over a record
--     WellShaped      what is asked of a state that is handed in
use Rattle.std.specs.Prelude.{Bool, true, false, ◌&&◌, ◌||◌, ◌≡◌, ℕ, zero, suc, ◌-◌, ◌≤◌, min, eqb, ℤ, pos, negsuc}
use Rattle.std.proofs.Math.Bool as bool
use Rattle.terms.specs.Choice.{pick}
use Rattle.monitor.specs.declared.range.AnchorRange.{AnchorRange}
use Rattle.monitor.specs.Range.{contains_of}
use Rattle.monitor.specs.Mon.{Signal, Check, range_check, delayed_check, obligation, Mon, check, And, Or}
use Rattle.meaning.specs.Alarm.{Record, truth}
use Rattle.meaning.specs.Culprit.{minus_one}

pub record RangeState : Type 0 where
  pub failed : Bool

pub record DelayedState : Type 0 where
  pub prev_antecedent : Bool
  pub failed : Bool

pub record ObligationState : Type 0 where
  pub pending : Bool
  pub remaining : ℕ
  pub failed : Bool
  pub culprit : ℤ

pub record JoinedState (L R : Type 0) : Type 0 where
  pub left : L
  pub right : R
  pub failed : Bool
  pub culprit : ℤ

abbrev pub CheckState : Check → Type 0
CheckState (range_check p r) = RangeState
CheckState (delayed_check p q r) = DelayedState
CheckState (obligation b p q r) = ObligationState

abbrev pub State : Mon → Type 0
State (check c) = CheckState c
State (And m n) = JoinedState (State m) (State n)
State (Or m n) = JoinedState (State m) (State n)

-- ---- what a state says
abbrev pub check_failed : (c : Check) → CheckState c → Bool
check_failed (range_check p r) st = st.failed
check_failed (delayed_check p q r) st = st.failed
check_failed (obligation b p q r) st = st.failed

abbrev pub failed : (m : Mon) → State m → Bool
failed (check c) st = check_failed c st
failed (And m n) st = st.failed
failed (Or m n) st = st.failed

abbrev pub check_culprit : (c : Check) → CheckState c → ℤ
check_culprit (range_check p r) st = minus_one
check_culprit (delayed_check p q r) st = minus_one
check_culprit (obligation b p q r) st = st.culprit

abbrev pub culprit : (m : Mon) → State m → ℤ
culprit (check c) st = check_culprit c st
culprit (And m n) st = st.culprit
culprit (Or m n) st = st.culprit

-- ---- the state of a fresh monitor (`initial_state`)
abbrev pub initial_obligation : ObligationState
initial_obligation = record { pending = false; remaining = 0; failed = false; culprit = minus_one }

abbrev pub initial_check : (c : Check) → CheckState c
initial_check (range_check p r) = record { failed = false }
initial_check (delayed_check p q r) = record { prev_antecedent = false; failed = false }
initial_check (obligation b p q r) = initial_obligation

abbrev pub initial_state : (m : Mon) → State m
initial_state (check c) = initial_check c
initial_state (And m n) = record { left = initial_state m; right = initial_state n; failed = false; culprit = minus_one }
initial_state (Or m n) = record { left = initial_state m; right = initial_state n; failed = false; culprit = minus_one }

-- ---- one step of an obligation at step s; `due`: its trigger holds and s is in range; `body`: its body holds
-- a window opens at a trigger when none is open
abbrev pub opened : (pending due : Bool) (b s : ℕ) → ObligationState → ObligationState
opened true due b s o = o
opened false true b s o = record { pending = true; remaining = b; failed = o.failed; culprit = pos s }
opened false false b s o = o

-- an open window is closed by its body; without it one is taken from remaining, and at zero it has failed
abbrev pub ticked : (pending body : Bool) → ObligationState → ObligationState
ticked true true o = record { pending = false; remaining = o.remaining; failed = o.failed; culprit = o.culprit }
ticked true false o =
    record { pending = true; remaining = o.remaining - 1; failed = eqb (o.remaining - 1) 0; culprit = o.culprit }
ticked false body o = o

-- bound 0: the body must hold at the trigger's own step
abbrev pub at_once : (due body : Bool) (s : ℕ) → ObligationState → ObligationState
at_once true true s o = o
at_once true false s o = record { pending = o.pending; remaining = o.remaining; failed = true; culprit = pos s }
at_once false body s o = o

unfoldable pub unfailed_step : (b s : ℕ) (due body : Bool) → ObligationState → ObligationState
unfailed_step zero s due body o = at_once due body s o
unfailed_step (suc b) s due body o =
    let p = opened o.pending due (suc b) s o in
    ticked p.pending body p

-- a failed obligation is left as it is
unfoldable pub obligation_step : (b s : ℕ) (due body : Bool) → ObligationState → ObligationState
obligation_step b s due body o = pick o.failed o (unfailed_step b s due body o)

-- ---- the culprit of a joined node at its first alarm (`min_trigger_at`)
-- a part that is not failing now offers none
abbrev pub offered : Bool → ℤ → ℤ
offered true c = c
offered false c = minus_one

-- the least from 0 up, else minus 1
abbrev pub least : ℤ → ℤ → ℤ
least (pos a) (pos b) = pos (min a b)
least (pos a) (negsuc b) = pos a
least (negsuc a) (pos b) = pos b
least (negsuc a) (negsuc b) = minus_one

abbrev pub min_trigger_at : Bool → ℤ → Bool → ℤ → ℤ
min_trigger_at left a right b = least (offered left a) (offered right b)

-- ---- one step
pub record Stepped (S : Type 0) : Type 0 where
  pub state : S
  pub now : Bool

unfoldable pub check_step : (c : Check) → CheckState c → (s w : ℕ) → Stepped (CheckState c)
check_step (range_check p r) st s w =
    let now = contains_of r s && bool.not (truth p w) in
    record { state = record { failed = st.failed || now }; now = now }
check_step (delayed_check p q r) st s w =
    let now = st.failed || (contains_of r s && (st.prev_antecedent && bool.not (truth q w))) in
    record { state = record { prev_antecedent = truth p w; failed = now }; now = now }
check_step (obligation b p q r) st s w =
    let next = obligation_step b s (contains_of r s && truth p w) (truth q w) st in
    record { state = next; now = next.failed }

-- a joined node after its parts have stepped; `now`: it is failing now
unfoldable pub joined_step : (m n : Mon) → Bool → Stepped (State m) → Stepped (State n) → JoinedState (State m) (State n) →
    Stepped (JoinedState (State m) (State n))
joined_step m n now l r st = record {
  state = record {
    left = l.state;
    right = r.state;
    failed = st.failed || now;
    culprit = pick (bool.not st.failed && now) (min_trigger_at l.now (culprit m l.state) r.now (culprit n r.state)) st.culprit;
  };
  now = now;
}

unfoldable pub step : (m : Mon) → State m → (s w : ℕ) → Stepped (State m)
step (check c) st s w = check_step c st s w
step (And m n) st s w =
    let l = step m st.left s w in
    let r = step n st.right s w in
    joined_step m n (l.now || r.now) l r st
step (Or m n) st s w =
    let l = step m st.left s w in
    let r = step n st.right s w in
    joined_step m n (l.now && r.now) l r st

-- a call reports where the root is marked failed by it
abbrev pub newly_failed : (m : Mon) → State m → (s w : ℕ) → Bool
newly_failed m st s w = failed m (step m st s w).state && bool.not (failed m st)

-- the state after the steps 0 to k-1 over a record
unfoldable pub after : (m : Mon) → Record → ℕ → State m
after m rec zero = initial_state m
after m rec (suc k) = (step m (after m rec k) k (rec k)).state

-- ---- states that may be handed in
abbrev pub FromMinusOne : ℤ → Type 0
FromMinusOne (pos n) = Unit {0}
FromMinusOne (negsuc zero) = Unit {0}
FromMinusOne (negsuc (suc n)) = ⊥

-- a pending, unfailed obligation has remaining from 1 to its bound
pub record WellKept (b : ℕ) (o : ObligationState) : Type 0 where
  pub window : o.pending ≡ true → o.failed ≡ false → (1 ≤ o.remaining) × (o.remaining ≤ b)
  pub culprit : FromMinusOne o.culprit

unfoldable pub CheckShaped : (c : Check) → CheckState c → Type 0
CheckShaped (range_check p r) st = Unit {0}
CheckShaped (delayed_check p q r) st = Unit {0}
CheckShaped (obligation b p q r) st = WellKept b st

unfoldable pub WellShaped : (m : Mon) → State m → Type 0
WellShaped (check c) st = CheckShaped c st
WellShaped (And m n) st = WellShaped m st.left × WellShaped n st.right × FromMinusOne st.culprit
WellShaped (Or m n) st = WellShaped m st.left × WellShaped n st.right × FromMinusOne st.culprit

-- ---- each node of a tree
-- P holds of every node in the tree, with its state
unfoldable pub EachNode : ((m : Mon) → State m → Type 0) → (m : Mon) → State m → Type 0
EachNode P (check c) st = P (check c) st
EachNode P (And m n) st = P (And m n) st × EachNode P m st.left × EachNode P n st.right
EachNode P (Or m n) st = P (Or m n) st × EachNode P m st.left × EachNode P n st.right

abbrev pub IfObligation : ((b : ℕ) (p q : Signal) (r : AnchorRange) → ObligationState → Type 0) → (m : Mon) → State m → Type 0
IfObligation P (check (range_check p r)) st = Unit {0}
IfObligation P (check (delayed_check p q r)) st = Unit {0}
IfObligation P (check (obligation b p q r)) st = P b p q r st
IfObligation P (And m n) st = Unit {0}
IfObligation P (Or m n) st = Unit {0}

abbrev pub EachObligation : ((b : ℕ) (p q : Signal) (r : AnchorRange) → ObligationState → Type 0) → (m : Mon) → State m → Type 0
EachObligation P m st = EachNode (IfObligation P) m st
