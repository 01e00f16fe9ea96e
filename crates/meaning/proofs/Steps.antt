-- A monitor stepped from fresh over a record: its answers are the alarms, and its marks say which alarms have been.
use mathlib.Core.Path.{◌≡◌, refl, sym, ap, ap₂, subst, ◌∙◌}
use mathlib.Core.Bool.{Bool, true, false, ◌&&◌, ◌||◌}
use mathlib.Core.Bool as bool
use mathlib.Core.Logic.{◌⊎◌, inl, inr, ⊎_elim, ◌↔◌}
use Prim.Native.Nat.{ℕ, zero, suc, ◌-◌, ◌≤◌, ◌<◌}
use native.Mathlib.Omega.{arith}
use borrow.Author.Tests.{not-true}
use Rattle.formula.proofs.Cases.{below_or, true_or, true_false}
use Rattle.monitor.specs.declared.range.AnchorRange.{AnchorRange}
use Rattle.monitor.specs.Range.{contains_of}
use Rattle.monitor.specs.Mon.{Signal, Check, range_check, delayed_check, obligation, Mon, check, And, Or}
use Rattle.meaning.specs.Alarm.{Record, truth, during, triggers, Broken, CheckAlarm, Alarm, First, NoneBelow}
use Rattle.meaning.specs.State.{RangeState, DelayedState, ObligationState, CheckState, State, check_failed, failed, initial_check, initial_state, check_step, joined_step, step, newly_failed, after}
use Rattle.meaning.proofs.Truths.{and_true, true_and, or_true, true_or_left, true_or_right, or_same, false_not, untrue}
use Rattle.meaning.proofs.Windows.{obligation_failed, Kept, kept_fresh, kept_step, kept_marked, kept_names}

-- ---- a joined node's parts run as they would alone
module _ (m n : Mon) (rec : Record) where
  pub and_left : (k : ℕ) → (after (And m n) rec k).left ≡ after m rec k
  unfolding after step joined_step
  and_left zero = refl
  and_left (suc k) = ap (λ (st : State m). (step m st k (rec k)).state) (and_left k)

  pub and_right : (k : ℕ) → (after (And m n) rec k).right ≡ after n rec k
  unfolding after step joined_step
  and_right zero = refl
  and_right (suc k) = ap (λ (st : State n). (step n st k (rec k)).state) (and_right k)

  pub or_left : (k : ℕ) → (after (Or m n) rec k).left ≡ after m rec k
  unfolding after step joined_step
  or_left zero = refl
  or_left (suc k) = ap (λ (st : State m). (step m st k (rec k)).state) (or_left k)

  pub or_right : (k : ℕ) → (after (Or m n) rec k).right ≡ after n rec k
  unfolding after step joined_step
  or_right zero = refl
  or_right (suc k) = ap (λ (st : State n). (step n st k (rec k)).state) (or_right k)

-- ---- marks: a step marks a node where it is failing now
check_marks : (c : Check) (st : CheckState c) (s w : ℕ) → check_failed c (check_step c st s w).state ≡ (check_failed c st || (check_step c st s w).now)
unfolding check_step
check_marks (range_check p r) st s w = refl
check_marks (delayed_check p q r) st s w = or_same st.failed _
check_marks (obligation b p q r) st s w = stays _ _ (λ f. ap (λ (o : ObligationState). o.failed) (obligation_failed b s _ _ st f) ∙ f)
  where
    stays : (a b : Bool) → (a ≡ true → b ≡ true) → b ≡ (a || b)
    stays true b h = h refl
    stays false b h = refl

pub step_marks : (m : Mon) (st : State m) (s w : ℕ) → failed m (step m st s w).state ≡ (failed m st || (step m st s w).now)
unfolding step joined_step
step_marks (check c) st s w = check_marks c st s w
step_marks (And m n) st s w = refl
step_marks (Or m n) st s w = refl

check_fresh : (c : Check) → check_failed c (initial_check c) ≡ false
check_fresh (range_check p r) = refl
check_fresh (delayed_check p q r) = refl
check_fresh (obligation b p q r) = refl

pub fresh_unmarked : (m : Mon) → failed m (initial_state m) ≡ false
fresh_unmarked (check c) = check_fresh c
fresh_unmarked (And m n) = refl
fresh_unmarked (Or m n) = refl

-- ---- the answer of each check
module _ (p : Signal) (r : AnchorRange) (rec : Record) (s : ℕ) where
  pub range_answers : (st : RangeState) → ((check_step (range_check p r) st s (rec s)).now ≡ true) ↔ CheckAlarm (range_check p r) rec s
  unfolding check_step CheckAlarm
  range_answers st = (
    λ e. let h = and_true (contains_of r s) (bool.not (truth p (rec s))) e in (h.0, not-true _ h.1),
    λ h. true_and h.0 (false_not h.1),
  )

module _ (p q : Signal) (r : AnchorRange) (rec : Record) where
  delayed : ℕ → DelayedState
  delayed k = after (check (delayed_check p q r)) rec k

  delayed_before : (s u : ℕ) → Broken p q r rec s u → Broken p q r rec (suc s) u
  delayed_before s u h = record { from_one = h.from_one; by_now = omega (arith, h.by_now); in_range = h.in_range; antecedent = h.antecedent; consequent = h.consequent }

  delayed_marked : (s : ℕ) → ((delayed (suc s)).failed ≡ true) ↔ ((u : ℕ) × Broken p q r rec s u)
  unfolding delayed after step check_step
  delayed_marked zero = (
    λ e. let h = and_true (contains_of r 0) false e in true_false h.1 refl,
    λ (u, h). absurd (omega (arith, h.from_one, h.by_now)),
  )
  delayed_marked (suc s) = (
    λ e. ⊎_elim
        (λ f. let (u, h) = (delayed_marked s).0 f in (u, delayed_before s u h))
        (λ f.
        let (i, g) = and_true (contains_of r (suc s)) (truth p (rec s) && bool.not (truth q (rec (suc s)))) f in
        let (a, c) = and_true (truth p (rec s)) (bool.not (truth q (rec (suc s)))) g in
        (suc s, record { from_one = omega arith; by_now = omega arith; in_range = i; antecedent = subst (λ (v : ℕ). truth p (rec v) ≡ true) (omega arith) a; consequent = not-true _ c }))
        (or_true (delayed (suc s)).failed _ e),
    λ (u, h). ⊎_elim
        (λ z. true_or_left _ _ ((delayed_marked s).1 (u, record { from_one = h.from_one; by_now = omega arith; in_range = h.in_range; antecedent = h.antecedent; consequent = h.consequent })))
        (λ z.
        let e : u ≡ suc s = omega (arith, h.by_now) in
        let f : u - 1 ≡ s = omega arith in
        true_or_right (delayed (suc s)).failed _ (true_and
        (subst (λ (v : ℕ). contains_of r v ≡ true) e h.in_range)
        (true_and (subst (λ (v : ℕ). truth p (rec v) ≡ true) f h.antecedent) (false_not (subst (λ (v : ℕ). truth q (rec v) ≡ false) e h.consequent)))))
        (below_or u (suc s)),
  )

-- the invariant of an obligation in a record
module _ (b : ℕ) (p q : Signal) (r : AnchorRange) (rec : Record) where
  pub obligation_kept : (k : ℕ) → Kept b (triggers r p rec) (during q rec) k (after (check (obligation b p q r)) rec k)
  unfolding after step check_step
  obligation_kept zero = kept_fresh b (triggers r p rec) (during q rec)
  obligation_kept (suc k) = kept_step b (triggers r p rec) (during q rec) k _ (obligation_kept k)

check_answers : (c : Check) (rec : Record) (s : ℕ) → ((check_step c (after (check c) rec s) s (rec s)).now ≡ true) ↔ CheckAlarm c rec s
unfolding check_step CheckAlarm step after delayed
check_answers (range_check p r) rec s = range_answers p r rec s (after (check (range_check p r)) rec s)
check_answers (delayed_check p q r) rec s = delayed_marked p q r rec s
check_answers (obligation b p q r) rec s = (
  λ e. let (t, h) = kept_names b (triggers r p rec) (during q rec) (suc s) _ (obligation_kept b p q r rec (suc s)) e in
      (t, record { missed = h.first.here; ended = omega (arith, h.ended) }),
  λ (t, h). kept_marked b (triggers r p rec) (during q rec) (suc s) _ (obligation_kept b p q r rec (suc s)) t (omega (arith, h.ended)) h.missed,
)

-- ---- the answer at s is the alarm at s
abbrev Answers : (m : Mon) (rec : Record) (s : ℕ) → State m → Type 0
Answers m rec s st = ((step m st s (rec s)).now ≡ true) ↔ Alarm m rec s

pub both_parts : {A B : Type 0} (x y : Bool) → (x ≡ true) ↔ A → (y ≡ true) ↔ B → ((x && y) ≡ true) ↔ (A × B)
both_parts x y f g = (λ e. let h = and_true x y e in (f.0 h.0, g.0 h.1), λ h. true_and (f.1 h.0) (g.1 h.1))

pub some_part : {A B : Type 0} (x y : Bool) → (x ≡ true) ↔ A → (y ≡ true) ↔ B → ((x || y) ≡ true) ↔ (A ⊎ B)
some_part x y f g = (λ e. ⊎_elim (λ h. inl (f.0 h)) (λ h. inr (g.0 h)) (or_true x y e), ⊎_elim (λ h. true_or_left x y (f.1 h)) (λ h. true_or_right x y (g.1 h)))

pub answers : (m : Mon) (rec : Record) (s : ℕ) → ((step m (after m rec s) s (rec s)).now ≡ true) ↔ Alarm m rec s
unfolding step Alarm joined_step
answers (check c) rec s = check_answers c rec s
answers (And m n) rec s = some_part _ _
    (subst (Answers m rec s) (sym (and_left m n rec s)) (answers m rec s))
    (subst (Answers n rec s) (sym (and_right m n rec s)) (answers n rec s))
answers (Or m n) rec s = both_parts _ _
    (subst (Answers m rec s) (sym (or_left m n rec s)) (answers m rec s))
    (subst (Answers n rec s) (sym (or_right m n rec s)) (answers n rec s))

-- ---- the monitor decides the alarm
pub decides : (m : Mon) (rec : Record) (s : ℕ) → Dec (Alarm m rec s)
decides m rec s = ⊎_elim
    (λ e. yes ((answers m rec s).0 e))
    (λ e. no (λ a. true_false ((answers m rec s).1 a) e))
    (true_or (step m (after m rec s) s (rec s)).now)

-- ---- marked exactly where an alarm has been
module _ (m : Mon) (rec : Record) where
  one_more : (k : ℕ) → failed m (after m rec (suc k)) ≡ (failed m (after m rec k) || (step m (after m rec k) k (rec k)).now)
  unfolding after
  one_more k = step_marks m (after m rec k) k (rec k)

  pub marked : (k : ℕ) → (failed m (after m rec k) ≡ true) ↔ ((s : ℕ) × (s < k) × Alarm m rec s)
  unfolding after
  marked zero = (λ e. true_false e (fresh_unmarked m), λ (s, z, a). absurd (omega arith))
  marked (suc k) = (
    λ e. ⊎_elim
        (λ f. let (s, z, a) = (marked k).0 f in (s, omega arith, a))
        (λ f. (k, omega arith, (answers m rec k).0 f))
        (or_true (failed m (after m rec k)) _ (sym (one_more k) ∙ e)),
    λ (s, z, a). one_more k ∙ ⊎_elim
        (λ q. true_or_left _ _ ((marked k).1 (s, q, a)))
        (λ q. true_or_right (failed m (after m rec k)) _ ((answers m rec k).1 (subst (Alarm m rec) (omega arith) a)))
        (below_or s k),
  )

  pub unmarked : (k : ℕ) → NoneBelow (Alarm m rec) k → failed m (after m rec k) ≡ false
  unmarked k h = untrue _ (λ e. let (s, z, a) = (marked k).0 e in h s z a)

  pub none_before : (k : ℕ) → failed m (after m rec k) ≡ false → NoneBelow (Alarm m rec) k
  none_before k e s z a = true_false ((marked k).1 (s, z, a)) e

  -- ---- a call reports the first alarm and no other
  pub reports : (s : ℕ) → (newly_failed m (after m rec s) s (rec s) ≡ true) ↔ First (Alarm m rec) s
  unfolding after
  reports s = (
    λ e.
        let (f, g) = and_true (failed m (after m rec (suc s))) (bool.not (failed m (after m rec s))) e in
        let n : failed m (after m rec s) ≡ false = not-true _ g in
        record {
          here = ⊎_elim (λ h. true_false h n) (λ h. (answers m rec s).0 h) (or_true (failed m (after m rec s)) _ (sym (one_more s) ∙ f));
          not_before = none_before s n;
        },
    λ h. true_and (one_more s ∙ true_or_right (failed m (after m rec s)) _ ((answers m rec s).1 h.here)) (false_not (unmarked s h.not_before)),
  )

  -- ---- where an alarm is, a first one is
  first_below : (k : ℕ) → ((s : ℕ) × First (Alarm m rec) s) ⊎ NoneBelow (Alarm m rec) k
  first_below zero = inr (λ u z. absurd (omega arith))
  first_below (suc k) = ⊎_elim inl (λ h. more h (decides m rec k)) (first_below k)
    where
      more : NoneBelow (Alarm m rec) k → Dec (Alarm m rec k) → ((s : ℕ) × First (Alarm m rec) s) ⊎ NoneBelow (Alarm m rec) (suc k)
      more h (yes a) = inl (k, record { here = a; not_before = h })
      more h (no f) = inr (λ u z a. ⊎_elim (λ q. h u q a) (λ q. f (subst (Alarm m rec) (omega arith) a)) (below_or u k))

  pub first_alarm : (s : ℕ) → Alarm m rec s → (t : ℕ) × First (Alarm m rec) t
  first_alarm s a = ⊎_elim (λ h. h) (λ h. absurd (h s (omega arith) a)) (first_below (suc s))

-- ---- states and alarms read the record only up to their step
module _ (m : Mon) (rec other : Record) where
  pub after_local : (k : ℕ) → ((i : ℕ) → i < k → rec i ≡ other i) → after m rec k ≡ after m other k
  unfolding after
  after_local zero h = refl
  after_local (suc k) h = ap₂ (λ (st : State m) (w : ℕ). (step m st k w).state) (after_local k (λ i z. h i (omega arith))) (h k (omega arith))

  pub alarm_local : (s : ℕ) → ((i : ℕ) → i ≤ s → rec i ≡ other i) → Alarm m rec s → Alarm m other s
  alarm_local s h a = (answers m other s).0
      (sym (ap₂ (λ (st : State m) (w : ℕ). (step m st s w).now) (after_local s (λ i z. h i (omega arith))) (h s (omega arith))) ∙ (answers m rec s).1 a)
