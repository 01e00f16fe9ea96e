-- A monitor that goes on from a given state, as one that was switched off and on again: where its nodes' alarms hold and what they name, read from
-- that state's windows and remembered antecedents and from the calls since, with no monitor in between. Calls are numbered 0, 1, 2 and on;
-- ranges and culprits go by the step that a call is at.
--     Since           the calls: the step and the truths of each
--     AlarmSince      the alarm of a node holds at a call
--     CulpritSince    what a node names after so many calls, from minus 1: the latest opening since, minus 1 where there is none
--     Unblamed        a state in which nothing is marked failed and no step is to blame
--     going           the state after so many calls
--     SaysSince       what a node's state then says
--     calls_since      the accepted calls of a list
use Rattle.std.specs.Prelude.{Bool, true, false, ◌&&◌, List, [], ◌∷◌, ◌⊎◌, ◌↔◌, ◌≡◌, ℕ, zero, suc, ◌≤◌, ◌<◌, ℤ, pos, get_or}
use Rattle.monitor.specs.declared.range.AnchorRange.{AnchorRange}
use Rattle.monitor.specs.Range.{contains_of}
use Rattle.monitor.specs.Mon.{Signal, Check, range_check, delayed_check, obligation, Mon, check, And, Or}
use Rattle.meaning.specs.Alarm.{truth, window_end, Missed, NoneBelow}
use Rattle.meaning.specs.Culprit.{minus_one, Waits, LatestAt, Joined}
use Rattle.meaning.specs.State.{DelayedState, ObligationState, CheckState, State, failed, culprit, step}
use Rattle.meaning.specs.Calls.{Call, refused, accepted, words_of}

pub record Since : Type 0 where
  pub step : ℕ → ℕ
  pub word : ℕ → ℕ

-- the calls where a signal holds, and those in a range where it does
abbrev pub during : Signal → Since → ℕ → Bool
during p c i = truth p (c.word i)

abbrev pub triggers : AnchorRange → Signal → Since → ℕ → Bool
triggers r p c i = contains_of r (c.step i) && truth p (c.word i)

-- ---- an obligation's windows
-- the window that was open at the start is still without its body when call i begins
pub record StillOpen (start : ObligationState) (body : ℕ → Bool) (i : ℕ) : Type 0 where
  pub open_then : start.pending ≡ true
  pub bodiless : (u : ℕ) → u < i → body u ≡ false

-- what remained of it has run without its body before call i
pub record RanOut (start : ObligationState) (body : ℕ → Bool) (i : ℕ) : Type 0 where
  pub open_then : start.pending ≡ true
  pub ended : start.remaining ≤ i
  pub bodiless : (u : ℕ) → u < start.remaining → body u ≡ false

-- a window is open when call i begins: that one, or one of a trigger since
abbrev pub OpenBefore : ObligationState → (ℕ → Bool) → (ℕ → Bool) → ℕ → Type 0
OpenBefore start trigger body i = StillOpen start body i ⊎ ((o : ℕ) × Waits trigger body o i)

-- the obligation has failed when call i begins
abbrev pub FailedBefore : ℕ → ObligationState → (ℕ → Bool) → (ℕ → Bool) → ℕ → Type 0
FailedBefore b start trigger body i = RanOut start body i ⊎ ((o : ℕ) × (window_end b o < i) × Missed b trigger body o)

-- a window opens at call i: a trigger when none is open and the obligation has not failed
pub record OpensSince (b : ℕ) (start : ObligationState) (trigger body : ℕ → Bool) (i : ℕ) : Type 0 where
  pub triggered : trigger i ≡ true
  pub none_open : OpenBefore start trigger body i → ⊥
  pub not_failed : FailedBefore b start trigger body i → ⊥

-- the calls that an obligation puts down as its culprit: each opening, but with bound 0 only one that fails
unfoldable pub BlamedSince : ℕ → ObligationState → (ℕ → Bool) → (ℕ → Bool) → ℕ → Type 0
BlamedSince zero start trigger body i = OpensSince zero start trigger body i × (body i ≡ false)
BlamedSince (suc b) start trigger body i = OpensSince (suc b) start trigger body i

-- c is the step of the latest call below k where P holds, else minus 1
abbrev pub LatestSince : (ℕ → ℕ) → (ℕ → Type 0) → ℕ → ℤ → Type 0
LatestSince at P k c = (NoneBelow P k × (c ≡ minus_one)) ⊎ ((i : ℕ) × LatestAt P k i × (c ≡ pos (at i)))

-- ---- a delayed check
-- the antecedent of the call before call i: of call 0 the one that the start remembers
abbrev pub before : Bool → (ℕ → Bool) → ℕ → Bool
before first antecedent zero = first
before first antecedent (suc i) = antecedent i

pub record BrokenSince (p q : Signal) (r : AnchorRange) (start : DelayedState) (c : Since) (i u : ℕ) : Type 0 where
  pub by_now : u ≤ i
  pub in_range : contains_of r (c.step u) ≡ true
  pub antecedent : before start.prev_antecedent (during p c) u ≡ true
  pub consequent : truth q (c.word u) ≡ false

-- ---- alarms and culprits
unfoldable pub CheckAlarmSince : (h : Check) → CheckState h → Since → ℕ → Type 0
CheckAlarmSince (range_check p r) start c i = (contains_of r (c.step i) ≡ true) × (truth p (c.word i) ≡ false)
CheckAlarmSince (delayed_check p q r) start c i = (u : ℕ) × BrokenSince p q r start c i u
CheckAlarmSince (obligation b p q r) start c i = FailedBefore b start (triggers r p c) (during q c) (suc i)

unfoldable pub AlarmSince : (m : Mon) → State m → Since → ℕ → Type 0
AlarmSince (check h) start c i = CheckAlarmSince h start c i
AlarmSince (And m n) start c i = AlarmSince m start.left c i ⊎ AlarmSince n start.right c i
AlarmSince (Or m n) start c i = AlarmSince m start.left c i × AlarmSince n start.right c i

unfoldable pub CheckCulpritSince : (h : Check) → CheckState h → Since → ℕ → ℤ → Type 0
CheckCulpritSince (range_check p r) start c k x = x ≡ minus_one
CheckCulpritSince (delayed_check p q r) start c k x = x ≡ minus_one
CheckCulpritSince (obligation b p q r) start c k x = LatestSince c.step (BlamedSince b start (triggers r p c) (during q c)) k x

-- a joined node takes, at its first alarm since, the least that the parts alarming then name, else minus 1
unfoldable pub CulpritSince : (m : Mon) → State m → Since → ℕ → ℤ → Type 0
CulpritSince (check h) start c k x = CheckCulpritSince h start c k x
CulpritSince (And m n) start c k x =
    Joined (AlarmSince (And m n) start c)
    (λ i t. (AlarmSince m start.left c i × CulpritSince m start.left c (suc i) (pos t))
    ⊎ (AlarmSince n start.right c i × CulpritSince n start.right c (suc i) (pos t))) k x
CulpritSince (Or m n) start c k x =
    Joined (AlarmSince (Or m n) start c)
    (λ i t. (AlarmSince m start.left c i × CulpritSince m start.left c (suc i) (pos t))
    ⊎ (AlarmSince n start.right c i × CulpritSince n start.right c (suc i) (pos t))) k x

-- ---- the monitor
-- nothing is marked failed, and every culprit is minus 1
abbrev pub UnblamedCheck : (h : Check) → CheckState h → Type 0
UnblamedCheck (range_check p r) st = st.failed ≡ false
UnblamedCheck (delayed_check p q r) st = st.failed ≡ false
UnblamedCheck (obligation b p q r) st = (st.failed ≡ false) × (st.culprit ≡ minus_one)

unfoldable pub Unblamed : (m : Mon) → State m → Type 0
Unblamed (check h) st = UnblamedCheck h st
Unblamed (And m n) st = (st.failed ≡ false) × (st.culprit ≡ minus_one) × Unblamed m st.left × Unblamed n st.right
Unblamed (Or m n) st = (st.failed ≡ false) × (st.culprit ≡ minus_one) × Unblamed m st.left × Unblamed n st.right

-- the state after the first k calls
unfoldable pub going : (m : Mon) → State m → Since → ℕ → State m
going m start c zero = start
going m start c (suc k) = (step m (going m start c k) (c.step k) (c.word k)).state

-- what a node's state says after k calls: marked failed exactly where its alarm has held since, and its culprit
pub record SaysSince (m : Mon) (start : State m) (c : Since) (k : ℕ) (st : State m) : Type 0 where
  pub marked : (failed m st ≡ true) ↔ ((i : ℕ) × (i < k) × AlarmSince m start c i)
  pub named : CulpritSince m start c k (culprit m st)

-- so of every node of a tree
unfoldable pub EachSince : (m : Mon) → State m → Since → ℕ → State m → Type 0
EachSince (check h) start c k st = SaysSince (check h) start c k st
EachSince (And m n) start c k st = SaysSince (And m n) start c k st × EachSince m start.left c k st.left × EachSince n start.right c k st.right
EachSince (Or m n) start c k st = SaysSince (Or m n) start c k st × EachSince m start.left c k st.left × EachSince n start.right c k st.right

-- ---- lists of calls
-- the steps of the accepted calls in their order
unfoldable pub steps_of : List Call → List ℕ
steps_of [] = []
steps_of (refused ∷ cs) = steps_of cs
steps_of (accepted s w ∷ cs) = s ∷ steps_of cs

-- the accepted calls of a list
abbrev pub calls_since : List Call → Since
calls_since cs = record { step = λ i. get_or (steps_of cs) i 0; word = λ i. get_or (words_of cs) i 0 }
