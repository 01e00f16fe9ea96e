-- What a monitor's state says of the steps so far, and what a plain rule means.
--     Sound     what an obligation's state says after the first k steps of a record
--     Judged    many words at once
--     PlainMeans   a plain rule over an endless record
--     Ticks, Closes, Opens   what one call leaves of an obligation's window, from any well-shaped state
use Rattle.std.specs.Prelude.{Bool, true, false, [], ◌↔◌, ◌≡◌, ℕ, ◌+◌, ◌≤◌, ◌<◌, ℤ, pos}
use Rattle.std.proofs.Math.Bool as bool
use Rattle.std.proofs.Math.Option.{Option, none, some}
use Rattle.monitor.specs.declared.range.AnchorRange.{AnchorRange}
use Rattle.formula.specs.Formula.{Formula}
use Rattle.monitor.specs.Mon.{Signal, obligation, Mon}
use Rattle.monitor.specs.Compile.{rule_faults, rule_node}
use Rattle.meaning.specs.Alarm.{Record, during, triggers, window_end, Missed, CheckAlarm, Alarm, First}
use Rattle.meaning.specs.Culprit.{Culprit, Report}
use Rattle.meaning.specs.State.{ObligationState, State, failed, culprit, newly_failed, after}
use Rattle.meaning.specs.Logic.{Holds, Fails}

-- the whole window of max(b, 1) steps from the trigger at t lies among the first k steps, and ran without the body
abbrev pub RanOut : ℕ → (ℕ → Bool) → (ℕ → Bool) → ℕ → ℕ → Type 0
RanOut b trigger body k t = (window_end b t < k) × Missed b trigger body t

pub record Sound (rec : Record) (k b : ℕ) (p q : Signal) (r : AnchorRange) (o : ObligationState) : Type 0 where
  -- marked failed: it names the least in-range trigger whose whole window was stepped without its body
  pub names : o.failed ≡ true → (t : ℕ) × (o.culprit ≡ pos t) × First (RanOut b (triggers r p rec) (during q rec) k) t
  -- marked failed: its own alarm held at some step
  pub alarmed : o.failed ≡ true → (s : ℕ) × (s < k) × CheckAlarm (obligation b p q r) rec s
  -- it is marked as soon as its alarm holds
  pub marked : (s : ℕ) → s < k → CheckAlarm (obligation b p q r) rec s → o.failed ≡ true

-- what any node's state says: marked failed exactly where its alarm has held, and its culprit
pub record NodeSound (rec : Record) (k : ℕ) (m : Mon) (st : State m) : Type 0 where
  pub marked : (failed m st ≡ true) ↔ ((s : ℕ) × (s < k) × Alarm m rec s)
  pub named : Culprit m rec k (culprit m st)

-- what stepping over n words from step s on answers: the report of the record if it falls among these steps, else nothing
abbrev pub Judged : Mon → Record → ℕ → ℕ → Option (ℕ × ℤ) → Type 0
Judged m rec s n none = (t : ℕ) → s ≤ t → t < s + n → First (Alarm m rec) t → ⊥
Judged m rec s n (some x) = (s ≤ x.0) × (x.0 < s + n) × Report m rec x.0 x.1

-- ---- plain rules
-- over an endless record: false at step 0 exactly where the alarm ever holds, and then reported at the first alarm
pub record PlainMeans (f : Formula) (i : ℕ) (rec : Record) : Type 0 where
  pub compiles : rule_faults f ≡ []
  pub false_at_0 : Fails f rec 0 ↔ ((s : ℕ) × Alarm (rule_node f i) rec s)
  pub true_at_0 : Holds f rec 0 ↔ ((s : ℕ) → Alarm (rule_node f i) rec s → ⊥)
  pub reported : Fails f rec 0 ↔ ((s : ℕ) × (newly_failed (rule_node f i) (after (rule_node f i) rec s) s (rec s) ≡ true))
  pub at_first : (s : ℕ) → (newly_failed (rule_node f i) (after (rule_node f i) rec s) s (rec s) ≡ true) ↔ First (Alarm (rule_node f i) rec) s

-- ---- one call from any well-shaped state
-- an open window without its body: one is taken from remaining, and at zero it has failed
pub record Ticks (before after : ObligationState) : Type 0 where
  pub counts : after.remaining + 1 ≡ before.remaining
  pub fails : (after.failed ≡ true) ↔ (after.remaining ≡ 0)
  pub open_still : after.pending ≡ true
  pub same_culprit : after.culprit ≡ before.culprit

-- an open window with its body
pub record Closes (before after : ObligationState) : Type 0 where
  pub closed : after.pending ≡ false
  pub unfailed : after.failed ≡ false
  pub same_culprit : after.culprit ≡ before.culprit

-- a window of bound b that opens at step s, which is also its first step: with its body there it closes, without it one is taken from b
pub record Opens (b s : ℕ) (body : Bool) (after : ObligationState) : Type 0 where
  pub blames : after.culprit ≡ pos s
  pub open_still : after.pending ≡ bool.not body
  pub counts : body ≡ false → after.remaining + 1 ≡ b
  pub full : body ≡ true → after.remaining ≡ b
  pub fails : (after.failed ≡ true) ↔ ((body ≡ false) × (b ≡ 1))
