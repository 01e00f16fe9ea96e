-- Document 01, "Nodes and alarms": where a node's alarm holds, read from a record of truths alone.
--     Alarm m rec s     the alarm of node m holds at step s of the record
--     First P s         s is the least step where P holds
-- "Some" is a pair, "all" a function.
use Rattle.std.specs.Prelude.{Bool, true, false, ◌&&◌, ◌⊎◌, ◌≡◌, ℕ, ◌+◌, ◌-◌, ◌≤◌, ◌<◌, max}
use Rattle.formula.specs.Pure.{value}
use Rattle.monitor.specs.declared.range.AnchorRange.{AnchorRange}
use Rattle.monitor.specs.Range.{contains_of}
use Rattle.monitor.specs.Mon.{Signal, always_true, at, Check, range_check, delayed_check, obligation, Mon, check, And, Or}

-- a record: for each step its word of truths
abbrev pub Record : Type 0
Record = ℕ → ℕ

-- a signal's value under a word of truths
unfoldable pub truth : Signal → ℕ → Bool
truth always_true w = true
truth (at p f) w = value f w

-- the steps where a signal holds, and those of a range where it does
abbrev pub during : Signal → Record → ℕ → Bool
during p rec s = truth p (rec s)

abbrev pub triggers : AnchorRange → Signal → Record → ℕ → Bool
triggers r p rec s = contains_of r s && truth p (rec s)

-- the last step of the window of max(b, 1) steps that begins at t
abbrev pub window_end : ℕ → ℕ → ℕ
window_end b t = t + max b 1 - 1

-- the body is false at all steps of the window from a trigger at t
pub record Missed (b : ℕ) (trigger body : ℕ → Bool) (t : ℕ) : Type 0 where
  pub triggered : trigger t ≡ true
  pub bodiless : (u : ℕ) → t ≤ u → u ≤ window_end b t → body u ≡ false

-- such a window has run by step s
pub record MissedBy (b : ℕ) (trigger body : ℕ → Bool) (s t : ℕ) : Type 0 where
  pub missed : Missed b trigger body t
  pub ended : window_end b t ≤ s

-- at u the consequent is false, and at the step before it the antecedent was true
pub record Broken (p q : Signal) (r : AnchorRange) (rec : Record) (s u : ℕ) : Type 0 where
  pub from_one : 1 ≤ u
  pub by_now : u ≤ s
  pub in_range : contains_of r u ≡ true
  pub antecedent : truth p (rec (u - 1)) ≡ true
  pub consequent : truth q (rec u) ≡ false

unfoldable pub CheckAlarm : Check → Record → ℕ → Type 0
CheckAlarm (range_check p r) rec s = (contains_of r s ≡ true) × (truth p (rec s) ≡ false)
CheckAlarm (delayed_check p q r) rec s = (u : ℕ) × Broken p q r rec s u
CheckAlarm (obligation b p q r) rec s = (t : ℕ) × MissedBy b (triggers r p rec) (during q rec) s t

unfoldable pub Alarm : Mon → Record → ℕ → Type 0
Alarm (check c) rec s = CheckAlarm c rec s
Alarm (And m n) rec s = Alarm m rec s ⊎ Alarm n rec s
Alarm (Or m n) rec s = Alarm m rec s × Alarm n rec s

-- ---- the first of something
-- P holds at no step below k
abbrev pub NoneBelow : (ℕ → Type 0) → ℕ → Type 0
NoneBelow P k = (u : ℕ) → u < k → P u → ⊥

-- P holds at s and at no earlier step
pub record First (P : ℕ → Type 0) (s : ℕ) : Type 0 where
  pub here : P s
  pub not_before : NoneBelow P s
