-- Document 01, "Nodes and alarms": where an obligation's window opens, the culprit of a node, and the report of a record.
--     Opens             a window opens at t
--     Culprit m rec k   what node m names after the first k steps of the record, minus 1 where no step is to blame
--     Report m rec      the step of the first alarm, and the culprit then
-- All are read from nodes and truths; no monitor is in them.
use Rattle.std.specs.Prelude.{Bool, true, false, ◌⊎◌, ◌≡◌, ℕ, zero, suc, ◌≤◌, ◌<◌, ℤ, pos, negsuc}
use Rattle.monitor.specs.Mon.{Check, range_check, delayed_check, obligation, Mon, check, And, Or}
use Rattle.meaning.specs.Alarm.{Record, during, triggers, window_end, Missed, Alarm, First, NoneBelow}

abbrev pub minus_one : ℤ
minus_one = negsuc zero

-- the trigger at o is still without its body when step t begins: an open window is one of a trigger that waits
pub record Waits (trigger body : ℕ → Bool) (o t : ℕ) : Type 0 where
  pub earlier : o < t
  pub triggered : trigger o ≡ true
  pub bodiless : (u : ℕ) → o ≤ u → u < t → body u ≡ false

-- a window opens at t: a trigger when none is open and the obligation has not failed
pub record Opens (b : ℕ) (trigger body : ℕ → Bool) (t : ℕ) : Type 0 where
  pub triggered : trigger t ≡ true
  pub none_open : (o : ℕ) → Waits trigger body o t → ⊥
  pub not_failed : (o : ℕ) → window_end b o < t → Missed b trigger body o → ⊥

-- the steps that an obligation puts down as its culprit: each opening, but with bound 0 only one that fails
unfoldable pub Blamed : ℕ → (ℕ → Bool) → (ℕ → Bool) → ℕ → Type 0
Blamed zero trigger body t = Opens zero trigger body t × (body t ≡ false)
Blamed (suc b) trigger body t = Opens (suc b) trigger body t

-- the latest step below k where P holds
pub record LatestAt (P : ℕ → Type 0) (k t : ℕ) : Type 0 where
  pub below : t < k
  pub here : P t
  pub not_after : (u : ℕ) → t < u → u < k → P u → ⊥

-- c is the latest step below k where P holds, else minus 1
abbrev pub Latest : (ℕ → Type 0) → ℕ → ℤ → Type 0
Latest P k (pos t) = LatestAt P k t
Latest P k (negsuc zero) = NoneBelow P k
Latest P k (negsuc (suc n)) = ⊥

-- c is the least number with P, else minus 1
abbrev pub Least : (ℕ → Type 0) → ℤ → Type 0
Least P (pos t) = First P t
Least P (negsuc zero) = (u : ℕ) → P u → ⊥
Least P (negsuc (suc n)) = ⊥

-- what a joined node names: minus 1 before its first alarm; from it on, the least number that the parts alarming then name, else minus 1
abbrev pub Joined : (ℕ → Type 0) → (ℕ → ℕ → Type 0) → ℕ → ℤ → Type 0
Joined Rings Named k c =
    (NoneBelow Rings k × (c ≡ minus_one)) ⊎ ((s : ℕ) × (s < k) × First Rings s × Least (Named s) c)

unfoldable pub CheckCulprit : Check → Record → ℕ → ℤ → Type 0
CheckCulprit (range_check p r) rec k c = c ≡ minus_one
CheckCulprit (delayed_check p q r) rec k c = c ≡ minus_one
CheckCulprit (obligation b p q r) rec k c = Latest (Blamed b (triggers r p rec) (during q rec)) k c

unfoldable pub Culprit : Mon → Record → ℕ → ℤ → Type 0
Culprit (check h) rec k c = CheckCulprit h rec k c
Culprit (And m n) rec k c =
    Joined (Alarm (And m n) rec)
    (λ s t. (Alarm m rec s × Culprit m rec (suc s) (pos t)) ⊎ (Alarm n rec s × Culprit n rec (suc s) (pos t))) k c
Culprit (Or m n) rec k c =
    Joined (Alarm (Or m n) rec)
    (λ s t. (Alarm m rec s × Culprit m rec (suc s) (pos t)) ⊎ (Alarm n rec s × Culprit n rec (suc s) (pos t))) k c

-- the report of a record: its step, and the culprit then
pub record Report (m : Mon) (rec : Record) (s : ℕ) (c : ℤ) : Type 0 where
  pub first : First (Alarm m rec) s
  pub culprit : Culprit m rec (suc s) c
