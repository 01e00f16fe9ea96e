-- The states of a monitor that goes on: its answers are the alarms since, its marks say which alarms have been, and it reports the first.
--     Resumed    states, each the step of the one before, from a well-shaped one with nothing to blame
use mathlib.Core.Path.{◌≡◌, refl, sym, ap, subst, ◌∙◌}
use mathlib.Core.Bool.{Bool, true, false, ◌&&◌, ◌||◌}
use mathlib.Core.Bool as bool
use mathlib.Core.Logic.{⊎_elim, ◌↔◌}
use Prim.Native.Nat.{ℕ, zero, suc, ◌≤◌, ◌<◌}
use native.Mathlib.Omega.{arith}
use borrow.Author.Tests.{not-true}
use Rattle.formula.proofs.Cases.{below_or, true_false}
use Rattle.monitor.specs.declared.range.AnchorRange.{AnchorRange}
use Rattle.monitor.specs.Range.{contains_of}
use Rattle.monitor.specs.Mon.{Signal, Check, range_check, delayed_check, obligation, Mon, check, And, Or}
use Rattle.meaning.specs.Alarm.{truth, CheckAlarm, First}
use Rattle.meaning.specs.Culprit.{minus_one}
use Rattle.meaning.specs.State.{DelayedState, ObligationState, JoinedState, CheckState, State, check_failed, failed, check_step, joined_step, step, newly_failed, CheckShaped, WellShaped}
use Rattle.meaning.proofs.Truths.{and_true, true_and, or_true, true_or_left, true_or_right, false_not, untrue}
use Rattle.meaning.proofs.Steps.{step_marks, range_answers, both_parts, some_part}
use Rattle.resumed.specs.Since.{Since, during, triggers, before, BrokenSince, CheckAlarmSince, AlarmSince, UnblamedCheck, Unblamed, going}
use Rattle.resumed.proofs.Windows.{Kept, phase_failed, kept_start, kept_step}

pub record Resumed (m : Mon) (c : Since) (st : ℕ → State m) : Type 0 where
  pub runs : (k : ℕ) → st (suc k) ≡ (step m (st k) (c.step k) (c.word k)).state
  pub shaped : WellShaped m (st 0)
  pub unblamed : Unblamed m (st 0)

pub going_resumed : (m : Mon) (start : State m) (c : Since) → WellShaped m start → Unblamed m start → Resumed m c (going m start c)
unfolding going
going_resumed m start c h u = record { runs = λ k. refl; shaped = h; unblamed = u }

-- ---- a joined node's parts go on as they would alone; `now`: it is failing at a call
module _ (m n : Mon) (c : Since) (st : ℕ → JoinedState (State m) (State n)) where
  abbrev PartsRun : (ℕ → Bool) → Type 0
  PartsRun now = (k : ℕ) → st (suc k) ≡ (joined_step m n (now k) (step m (st k).left (c.step k) (c.word k)) (step n (st k).right (c.step k) (c.word k)) (st k)).state

  pub record ResumedParts (now : ℕ → Bool) : Type 0 where
    pub runs : PartsRun now
    pub unnamed : (st 0).culprit ≡ minus_one
    pub left : Resumed m c (λ k. (st k).left)
    pub right : Resumed n c (λ k. (st k).right)

  parts : (now : ℕ → Bool) → PartsRun now → WellShaped (And m n) (st 0) → Unblamed (And m n) (st 0) → ResumedParts now
  unfolding WellShaped Unblamed joined_step
  parts now h s u = record {
    runs = h;
    unnamed = u.1;
    left = record { runs = λ k. ap (λ (x : JoinedState (State m) (State n)). x.left) (h k); shaped = s.0; unblamed = u.2 };
    right = record { runs = λ k. ap (λ (x : JoinedState (State m) (State n)). x.right) (h k); shaped = s.1; unblamed = u.3 };
  }

  pub and_parts : Resumed (And m n) c st → ResumedParts (λ k. (step (And m n) (st k) (c.step k) (c.word k)).now)
  unfolding step joined_step
  and_parts h = parts _ h.runs h.shaped h.unblamed

  pub or_parts : Resumed (Or m n) c st → ResumedParts (λ k. (step (Or m n) (st k) (c.step k) (c.word k)).now)
  unfolding step joined_step WellShaped Unblamed
  or_parts h = parts _ h.runs h.shaped h.unblamed

-- ---- a mark that is put by x and stays: x has held
module _ (f x : ℕ → Bool) (P : ℕ → Type 0) (start : f 0 ≡ false) (next : (k : ℕ) → f (suc k) ≡ (f k || x k)) (here : (k : ℕ) → (x k ≡ true) ↔ P k) where
  marks : (k : ℕ) → (f k ≡ true) ↔ ((i : ℕ) × (i < k) × P i)
  marks zero = (λ e. true_false e start, λ (i, z, p). absurd (omega arith))
  marks (suc k) = (
    λ e. ⊎_elim
        (λ h. let (i, z, p) = (marks k).0 h in (i, omega arith, p))
        (λ h. (k, omega arith, (here k).0 h))
        (or_true (f k) (x k) (sym (next k) ∙ e)),
    λ (i, z, p). next k ∙ ⊎_elim
        (λ q. true_or_left (f k) (x k) ((marks k).1 (i, q, p)))
        (λ q. true_or_right (f k) (x k) ((here k).1 (subst P (omega arith) p)))
        (below_or i k),
  )

-- ---- the answer of each check
module _ (p q : Signal) (r : AnchorRange) (c : Since) (st : ℕ → DelayedState) (h : Resumed (check (delayed_check p q r)) c st) where
  remembers : (k : ℕ) → (st k).prev_antecedent ≡ before (st 0).prev_antecedent (during p c) k
  unfolding step check_step
  remembers zero = refl
  remembers (suc k) = ap (λ (s : DelayedState). s.prev_antecedent) (h.runs k)

  breaks : ℕ → Bool
  breaks k = contains_of r (c.step k) && ((st k).prev_antecedent && bool.not (truth q (c.word k)))

  broken_here : (k : ℕ) → (breaks k ≡ true) ↔ BrokenSince p q r (st 0) c k k
  unfolding breaks
  broken_here k = (
    λ e.
        let (i, g) = and_true (contains_of r (c.step k)) ((st k).prev_antecedent && bool.not (truth q (c.word k))) e in
        let (a, b) = and_true (st k).prev_antecedent (bool.not (truth q (c.word k))) g in
        record { by_now = omega arith; in_range = i; antecedent = sym (remembers k) ∙ a; consequent = not-true _ b },
    λ b. true_and b.in_range (true_and (remembers k ∙ b.antecedent) (false_not b.consequent)),
  )

  broken_by : (i j u : ℕ) → u ≤ j → BrokenSince p q r (st 0) c i u → BrokenSince p q r (st 0) c j u
  broken_by i j u z b = record { by_now = z; in_range = b.in_range; antecedent = b.antecedent; consequent = b.consequent }

  delayed_answers : (k : ℕ) → ((check_step (delayed_check p q r) (st k) (c.step k) (c.word k)).now ≡ true) ↔ ((u : ℕ) × BrokenSince p q r (st 0) c k u)
  unfolding step check_step breaks Unblamed
  delayed_answers k =
      let next : (i : ℕ) → (st (suc i)).failed ≡ ((st i).failed || breaks i) = λ i. ap (λ (s : DelayedState). s.failed) (h.runs i) in
      let a = marks (λ i. (st i).failed) breaks (λ u. BrokenSince p q r (st 0) c u u) h.unblamed next broken_here (suc k) in (
        λ e. let (u, z, b) = a.0 (next k ∙ e) in (u, broken_by u k u (omega arith) b),
        λ (u, b). sym (next k) ∙ a.1 (u, omega (arith, b.by_now), broken_by k u u (omega arith) b),
      )

module _ (b : ℕ) (p q : Signal) (r : AnchorRange) (c : Since) (st : ℕ → ObligationState) (h : Resumed (check (obligation b p q r)) c st) where
  pub obligation_kept : (k : ℕ) → Kept b (st 0) (triggers r p c) (during q c) c.step k (st k)
  unfolding step check_step WellShaped CheckShaped Unblamed
  obligation_kept zero = kept_start b (st 0) (triggers r p c) (during q c) c.step h.shaped h.unblamed.0 h.unblamed.1
  obligation_kept (suc k) = rw (h.runs k) (kept_step b (st 0) (triggers r p c) (during q c) c.step k (st k) (obligation_kept k))

check_answers : (h : Check) (c : Since) (st : ℕ → CheckState h) → Resumed (check h) c st → (k : ℕ) → ((check_step h (st k) (c.step k) (c.word k)).now ≡ true) ↔ CheckAlarmSince h (st 0) c k
unfolding check_step CheckAlarmSince CheckAlarm
check_answers (range_check p r) c st h k = range_answers p r (λ i. c.word k) (c.step k) (st k)
check_answers (delayed_check p q r) c st h k = delayed_answers p q r c st h k
check_answers (obligation b p q r) c st h k = phase_failed b (st 0) (triggers r p c) (during q c) (suc k) _
    (kept_step b (st 0) (triggers r p c) (during q c) c.step k (st k) (obligation_kept b p q r c st h k)).phase

-- ---- the answer at a call is the alarm at it
pub answers : (m : Mon) (c : Since) (st : ℕ → State m) → Resumed m c st → (k : ℕ) → ((step m (st k) (c.step k) (c.word k)).now ≡ true) ↔ AlarmSince m (st 0) c k
unfolding step joined_step AlarmSince
answers (check h) c st r k = check_answers h c st r k
answers (And m n) c st r k =
    let p = and_parts m n c st r in
    some_part _ _ (answers m c _ p.left k) (answers n c _ p.right k)
answers (Or m n) c st r k =
    let p = or_parts m n c st r in
    both_parts _ _ (answers m c _ p.left k) (answers n c _ p.right k)

-- ---- marked exactly where an alarm has been
check_unfailed : (h : Check) (st : CheckState h) → UnblamedCheck h st → check_failed h st ≡ false
check_unfailed (range_check p r) st u = u
check_unfailed (delayed_check p q r) st u = u
check_unfailed (obligation b p q r) st u = u.0

unfailed : (m : Mon) (st : State m) → Unblamed m st → failed m st ≡ false
unfolding Unblamed
unfailed (check h) st u = check_unfailed h st u
unfailed (And m n) st u = u.0
unfailed (Or m n) st u = u.0

module _ (m : Mon) (c : Since) (st : ℕ → State m) (r : Resumed m c st) where
  pub marked : (k : ℕ) → (failed m (st k) ≡ true) ↔ ((i : ℕ) × (i < k) × AlarmSince m (st 0) c i)
  marked = marks (λ k. failed m (st k)) (λ k. (step m (st k) (c.step k) (c.word k)).now) (AlarmSince m (st 0) c)
      (unfailed m (st 0) r.unblamed) (λ k. ap (failed m) (r.runs k) ∙ step_marks m (st k) (c.step k) (c.word k)) (answers m c st r)

  -- a call reports the first alarm and no other
  pub reports : (k : ℕ) → (newly_failed m (st k) (c.step k) (c.word k) ≡ true) ↔ First (AlarmSince m (st 0) c) k
  reports k =
      let s = step_marks m (st k) (c.step k) (c.word k) in (
        λ e.
            let (f, g) = and_true (failed m (step m (st k) (c.step k) (c.word k)).state) (bool.not (failed m (st k))) e in
            let n : failed m (st k) ≡ false = not-true _ g in
            record {
              here = ⊎_elim (λ h. true_false h n) (answers m c st r k).0 (or_true (failed m (st k)) _ (sym s ∙ f));
              not_before = λ i z a. true_false ((marked k).1 (i, z, a)) n;
            },
        λ h. true_and
            (s ∙ true_or_right (failed m (st k)) _ ((answers m c st r k).1 h.here))
            (false_not (untrue _ (λ e. let (i, z, a) = (marked k).0 e in h.not_before i z a))),
      )

-- ---- the first of the calls, and those behind it
abbrev later : Since → Since
later c = record { step = λ i. c.step (suc i); word = λ i. c.word (suc i) }

pub going_first : (m : Mon) (start : State m) (c : Since) (k : ℕ) → going m start c (suc k) ≡ going m (step m start (c.step 0) (c.word 0)).state (later c) k
unfolding going
going_first m start c zero = refl
going_first m start c (suc k) = ap (λ (st : State m). (step m st (c.step (suc k)) (c.word (suc k))).state) (going_first m start c k)
