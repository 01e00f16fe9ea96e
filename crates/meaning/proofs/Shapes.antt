-- One call from any well-shaped state: what it does to each check, and that it leaves a well-shaped state.
use mathlib.Core.Path.{◌≡◌, refl, sym, ap, subst, ◌∙◌}
use mathlib.Core.Bool.{Bool, true, false, ◌&&◌, ◌||◌}
use mathlib.Core.Bool as bool
use mathlib.Core.Logic.{◌⊎◌, inl, inr, ⊎_elim, ◌↔◌}
use Prim.Native.Nat.{ℕ, zero, suc, ◌-◌, ◌≤◌}
use native.Mathlib.Omega.{arith}
use lib.IntN.{ℤ, pos, negsuc}
use borrow.Author.Tests.{eqb-true, eqb-false, eq-eqb, not-true}
use Rattle.terms.specs.Choice.{pick}
use Rattle.formula.proofs.Cases.{below_or, true_false}
use Rattle.monitor.specs.declared.range.AnchorRange.{AnchorRange}
use Rattle.monitor.specs.Range.{contains_of}
use Rattle.monitor.specs.Mon.{Signal, Check, range_check, delayed_check, obligation, Mon, check, And, Or}
use Rattle.meaning.specs.Alarm.{truth}
use Rattle.meaning.specs.State.{DelayedState, ObligationState, JoinedState, CheckState, State, failed, culprit, initial_obligation, initial_check, initial_state, opened, ticked, at_once, unfailed_step, obligation_step, offered, least, Stepped, check_step, joined_step, step, newly_failed, FromMinusOne, WellKept, CheckShaped, WellShaped}
use Rattle.meaning.specs.Meaning.{Ticks, Closes, Opens}
use Rattle.meaning.proofs.Truths.{and_true, true_and, true_or_left, true_or_right, false_not}
use Rattle.meaning.proofs.Windows.{obligation_failed, obligation_open_body, obligation_open_without, obligation_opens, obligation_opens_body, obligation_zero_fails, obligation_zero_body, obligation_zero_idle}
use Rattle.meaning.proofs.Steps.{step_marks}

-- ---- culprits from minus 1 up
least_from : (c d : ℤ) → FromMinusOne (least c d)
least_from (pos a) (pos b) = tt
least_from (pos a) (negsuc b) = tt
least_from (negsuc a) (pos b) = tt
least_from (negsuc a) (negsuc b) = tt

pick_from : (x : Bool) (c d : ℤ) → FromMinusOne c → FromMinusOne d → FromMinusOne (pick x c d)
pick_from true c d f g = f
pick_from false c d f g = g

-- ---- an obligation
module _ (b : ℕ) (o : ObligationState) (h : WellKept b o) where
  at_once_kept : (due body : Bool) (s : ℕ) → WellKept b (at_once due body s o)
  at_once_kept true true s = h
  at_once_kept true false s = record { window = λ p f. true_false refl f; culprit = tt }
  at_once_kept false body s = h

  opened_kept : (pending due : Bool) (s : ℕ) → 1 ≤ b → WellKept b (opened pending due b s o)
  opened_kept true due s z = h
  opened_kept false true s z = record { window = λ p f. (z, omega arith); culprit = tt }
  opened_kept false false s z = h

  ticked_kept : (pending body : Bool) → o.failed ≡ false → o.pending ≡ pending → WellKept b (ticked pending body o)
  ticked_kept true true f e = record { window = λ p g. true_false p refl; culprit = h.culprit }
  ticked_kept true false f e = record {
    window = λ p g.
        let n : o.remaining - 1 ≡ 0 → ⊥ = eqb-false _ _ g in
        let w : (1 ≤ o.remaining) × (o.remaining ≤ b) = h.window e f in
        (⊎_elim (λ q. absurd (n (omega arith))) (λ q. q) (below_or (o.remaining - 1) 1), omega arith);
    culprit = h.culprit;
  }
  ticked_kept false body f e = h

opened_unfailed : (pending due : Bool) (b s : ℕ) (o : ObligationState) → o.failed ≡ false → (opened pending due b s o).failed ≡ false
opened_unfailed true due b s o f = f
opened_unfailed false true b s o f = f
opened_unfailed false false b s o f = f

unfailed_kept : (b s : ℕ) (due body : Bool) (o : ObligationState) → WellKept b o → o.failed ≡ false → WellKept b (unfailed_step b s due body o)
unfolding unfailed_step
unfailed_kept zero s due body o h f = at_once_kept zero o h due body s
unfailed_kept (suc b) s due body o h f =
    ticked_kept (suc b) _ (opened_kept (suc b) o h o.pending due s (omega arith)) _ body (opened_unfailed o.pending due (suc b) s o f) refl

pick_kept : (b : ℕ) (x : Bool) (o p : ObligationState) → o.failed ≡ x → WellKept b o → (o.failed ≡ false → WellKept b p) → WellKept b (pick x o p)
pick_kept b true o p e h k = h
pick_kept b false o p e h k = k e

-- ---- a step leaves a well-shaped state
check_shaped : (c : Check) (st : CheckState c) (s w : ℕ) → CheckShaped c st → CheckShaped c (check_step c st s w).state
unfolding CheckShaped check_step obligation_step
check_shaped (range_check p r) st s w h = tt
check_shaped (delayed_check p q r) st s w h = tt
check_shaped (obligation b p q r) st s w h = pick_kept b _ st _ refl h (λ f. unfailed_kept b s _ _ st h f)

joined_from : (m n : Mon) (now : Bool) (l : Stepped (State m)) (r : Stepped (State n)) (st : JoinedState (State m) (State n)) → FromMinusOne st.culprit → FromMinusOne (joined_step m n now l r st).state.culprit
unfolding joined_step
joined_from m n now l r st h = pick_from (bool.not st.failed && now) (least (offered l.now (culprit m l.state)) (offered r.now (culprit n r.state))) st.culprit (least_from (offered l.now (culprit m l.state)) (offered r.now (culprit n r.state))) h

pub step_shaped : (m : Mon) (st : State m) (s w : ℕ) → WellShaped m st → WellShaped m (step m st s w).state
unfolding WellShaped step joined_step
step_shaped (check c) st s w h = check_shaped c st s w h
step_shaped (And m n) st s w h =
    let l = step m st.left s w in
    let r = step n st.right s w in
    (step_shaped m st.left s w h.0, step_shaped n st.right s w h.1, joined_from m n (l.now || r.now) l r st h.2)
step_shaped (Or m n) st s w h =
    let l = step m st.left s w in
    let r = step n st.right s w in
    (step_shaped m st.left s w h.0, step_shaped n st.right s w h.1, joined_from m n (l.now && r.now) l r st h.2)

fresh_kept : (b : ℕ) → WellKept b initial_obligation
fresh_kept b = record { window = λ p f. true_false p refl; culprit = tt }

fresh_check : (c : Check) → CheckShaped c (initial_check c)
unfolding CheckShaped
fresh_check (range_check p r) = tt
fresh_check (delayed_check p q r) = tt
fresh_check (obligation b p q r) = fresh_kept b

pub fresh_shaped : (m : Mon) → WellShaped m (initial_state m)
unfolding WellShaped
fresh_shaped (check c) = fresh_check c
fresh_shaped (And m n) = (fresh_shaped m, fresh_shaped n, tt)
fresh_shaped (Or m n) = (fresh_shaped m, fresh_shaped n, tt)

-- ---- a failed root reports no more
pub reports_once : (m : Mon) (st : State m) (s w : ℕ) → failed m st ≡ true → newly_failed m st s w ≡ false
reports_once m st s w f = none (failed m (step m st s w).state) (failed m st) f
  where
    none : (a b : Bool) → b ≡ true → (a && bool.not b) ≡ false
    none true b e = rw e refl
    none false b e = refl

pub stays_marked : (m : Mon) (st : State m) (s w : ℕ) → failed m st ≡ true → failed m (step m st s w).state ≡ true
stays_marked m st s w f = step_marks m st s w ∙ true_or_left _ _ f

-- ---- a delayed check
module _ (p q : Signal) (r : AnchorRange) (st : DelayedState) (s w : ℕ) where
  pub delayed_stays : st.failed ≡ true → (step (check (delayed_check p q r)) st s w).now ≡ true
  unfolding step check_step
  delayed_stays f = rw f refl

  pub delayed_remembers : (step (check (delayed_check p q r)) st s w).state.prev_antecedent ≡ truth p w
  unfolding step check_step
  delayed_remembers = refl

  pub delayed_looks_back : st.failed ≡ false
      → ((step (check (delayed_check p q r)) st s w).now ≡ true) ↔ ((contains_of r s ≡ true) × (st.prev_antecedent ≡ true) × (truth q w ≡ false))
  unfolding step check_step
  delayed_looks_back f = (
    λ e.
        let g : (contains_of r s && (st.prev_antecedent && bool.not (truth q w))) ≡ true = sym (ap (λ (x : Bool). x || (contains_of r s && (st.prev_antecedent && bool.not (truth q w)))) f) ∙ e in
        let (i, h) = and_true (contains_of r s) (st.prev_antecedent && bool.not (truth q w)) g in
        let (a, c) = and_true st.prev_antecedent (bool.not (truth q w)) h in
        (i, a, not-true _ c),
    λ h. true_or_right st.failed _ (true_and h.0 (true_and h.1 (false_not h.2))),
  )

-- ---- an obligation
module _ (b : ℕ) (p q : Signal) (r : AnchorRange) (st : ObligationState) (s w : ℕ) where
  pub obligation_stays : st.failed ≡ true → (step (check (obligation b p q r)) st s w).now ≡ true
  unfolding step check_step
  obligation_stays f = ap (λ (o : ObligationState). o.failed) (obligation_failed b s _ _ st f) ∙ f

-- an open window
window_ticks' : (b s : ℕ) (due body : Bool) (o : ObligationState) → WellKept b o → o.failed ≡ false → o.pending ≡ true → body ≡ false → Ticks o (obligation_step b s due body o)
window_ticks' zero s due body o h f p e =
    let z : (1 ≤ o.remaining) × (o.remaining ≤ 0) = h.window p f in
    absurd (omega arith)
window_ticks' (suc b) s due body o h f p e =
    let z : (1 ≤ o.remaining) × (o.remaining ≤ suc b) = h.window p f in
    subst (Ticks o) (sym (obligation_open_without b s due body o f p e)) (record {
      counts = omega arith;
      fails = (eqb-true (o.remaining - 1) 0, eq-eqb (o.remaining - 1) 0);
      open_still = refl;
      same_culprit = refl;
    })

window_closes' : (b s : ℕ) (due body : Bool) (o : ObligationState) → WellKept b o → o.failed ≡ false → o.pending ≡ true → body ≡ true → Closes o (obligation_step b s due body o)
window_closes' zero s due body o h f p e =
    let z : (1 ≤ o.remaining) × (o.remaining ≤ 0) = h.window p f in
    absurd (omega arith)
window_closes' (suc b) s due body o h f p e =
    subst (Closes o) (sym (obligation_open_body b s due body o f p e)) (record { closed = refl; unfailed = f; same_culprit = refl })

-- a window opens at an in-range trigger when none is open and it has not failed
window_opens' : (b s : ℕ) (due body : Bool) (o : ObligationState) → 1 ≤ b → o.failed ≡ false → o.pending ≡ false → due ≡ true → Opens b s body (obligation_step b s due body o)
window_opens' zero s due body o z f p d = absurd (omega arith)
window_opens' (suc b) s due true o z f p d = subst (Opens (suc b) s true) (sym (obligation_opens_body b s due true o f p d refl)) (record {
  blames = refl;
  open_still = refl;
  counts = λ e. true_false refl e;
  full = λ e. refl;
  fails = (λ e. true_false e f, λ h. true_false refl h.0);
})
window_opens' (suc b) s due false o z f p d = subst (Opens (suc b) s false) (sym (obligation_opens b s due false o f p d refl)) (record {
  blames = refl;
  open_still = refl;
  counts = λ e. omega arith;
  full = λ e. true_false e refl;
  fails = (λ e. let g = eqb-true (suc b - 1) 0 e in (refl, omega arith), λ h. eq-eqb (suc b - 1) 0 (omega arith));
})

module _ (b : ℕ) (p q : Signal) (r : AnchorRange) (st : ObligationState) (s w : ℕ) where
  pub window_ticks : WellShaped (check (obligation b p q r)) st → st.failed ≡ false → st.pending ≡ true → truth q w ≡ false
      → Ticks st (step (check (obligation b p q r)) st s w).state
  unfolding step check_step WellShaped CheckShaped
  window_ticks h f o e = window_ticks' b s _ _ st h f o e

  pub window_closes : WellShaped (check (obligation b p q r)) st → st.failed ≡ false → st.pending ≡ true → truth q w ≡ true
      → Closes st (step (check (obligation b p q r)) st s w).state
  unfolding step check_step WellShaped CheckShaped
  window_closes h f o e = window_closes' b s _ _ st h f o e

  pub window_opens : 1 ≤ b → st.failed ≡ false → st.pending ≡ false → contains_of r s ≡ true → truth p w ≡ true
      → Opens b s (truth q w) (step (check (obligation b p q r)) st s w).state
  unfolding step check_step
  window_opens z f o i e = window_opens' b s _ _ st z f o (true_and i e)

-- bound 0: it fails at the trigger's own step or stays as it is, and names a step only on failing
module _ (p q : Signal) (r : AnchorRange) (st : ObligationState) (s w : ℕ) where
  zero_quiet : (x y : Bool) → st.failed ≡ false → (x ≡ false) ⊎ (y ≡ true) → obligation_step zero s x y st ≡ st
  zero_quiet true y f (inl e) = true_false refl e
  zero_quiet true y f (inr e) = obligation_zero_body s true y st f refl e
  zero_quiet false y f h = obligation_zero_idle s false y st f refl

  pub zero_fails : st.failed ≡ false → contains_of r s ≡ true → truth p w ≡ true → truth q w ≡ false
      → ((step (check (obligation 0 p q r)) st s w).now ≡ true) × ((step (check (obligation 0 p q r)) st s w).state.culprit ≡ pos s)
  unfolding step check_step
  zero_fails f i d e =
      let z = obligation_zero_fails s (contains_of r s && truth p w) (truth q w) st f (true_and i d) e in
      (ap (λ (o : ObligationState). o.failed) z, ap (λ (o : ObligationState). o.culprit) z)

  pub zero_stays : st.failed ≡ false → ((contains_of r s && truth p w) ≡ false) ⊎ (truth q w ≡ true) → (step (check (obligation 0 p q r)) st s w).state ≡ st
  unfolding step check_step
  zero_stays f h = zero_quiet _ _ f h
