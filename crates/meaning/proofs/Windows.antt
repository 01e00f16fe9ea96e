-- One obligation over two streams: the steps with an in-range trigger, and the steps with its body.
--     obligation-…    what one step makes of a state, case by case
--     Kept            the invariant after k steps: failed, open since a step, or idle; and the culprit is the latest opening
use mathlib.Core.Path.{◌≡◌, refl, sym, subst}
use mathlib.Core.Bool.{Bool, true, false}
use mathlib.Core.Logic.{⊎_elim}
use Prim.Native.Nat.{ℕ, zero, suc, ◌+◌, ◌-◌, ◌≤◌, ◌<◌, max}
use native.Mathlib.Omega.{arith}
use lib.Dec.{eqb}
use lib.IntN.{ℤ, pos, negsuc}
use borrow.Author.Tests.{eqb-true, eqb-false}
use Rattle.formula.proofs.Cases.{below_or, true_false}
use Rattle.meaning.specs.Alarm.{window_end, Missed, First}
use Rattle.meaning.specs.Culprit.{Waits, Opens, Blamed, Latest}
use Rattle.meaning.specs.State.{ObligationState, initial_obligation, unfailed_step, obligation_step}

-- ---- one step, case by case
module _ (b s : ℕ) (due body : Bool) (o : ObligationState) where
  pub obligation_failed : o.failed ≡ true → obligation_step b s due body o ≡ o
  unfolding obligation_step
  obligation_failed f = rw f refl

  pub obligation_open_body : o.failed ≡ false → o.pending ≡ true → body ≡ true
      → obligation_step (suc b) s due body o ≡ record { pending = false; remaining = o.remaining; failed = o.failed; culprit = o.culprit }
  unfolding obligation_step unfailed_step
  obligation_open_body f p q = rw (f, p, q) refl

  pub obligation_open_without : o.failed ≡ false → o.pending ≡ true → body ≡ false
      → obligation_step (suc b) s due body o ≡ record { pending = true; remaining = o.remaining - 1; failed = eqb (o.remaining - 1) 0; culprit = o.culprit }
  unfolding obligation_step unfailed_step
  obligation_open_without f p q = rw (f, p, q) refl

  pub obligation_idle : o.failed ≡ false → o.pending ≡ false → due ≡ false → obligation_step (suc b) s due body o ≡ o
  unfolding obligation_step unfailed_step
  obligation_idle f p d = rw (f, p, d) refl

  pub obligation_opens_body : o.failed ≡ false → o.pending ≡ false → due ≡ true → body ≡ true
      → obligation_step (suc b) s due body o ≡ record { pending = false; remaining = suc b; failed = o.failed; culprit = pos s }
  unfolding obligation_step unfailed_step
  obligation_opens_body f p d q = rw (f, p, d, q) refl

  pub obligation_opens : o.failed ≡ false → o.pending ≡ false → due ≡ true → body ≡ false
      → obligation_step (suc b) s due body o ≡ record { pending = true; remaining = suc b - 1; failed = eqb (suc b - 1) 0; culprit = pos s }
  unfolding obligation_step unfailed_step
  obligation_opens f p d q = rw (f, p, d, q) refl

module _ (s : ℕ) (due body : Bool) (o : ObligationState) where
  pub obligation_zero_fails : o.failed ≡ false → due ≡ true → body ≡ false
      → obligation_step zero s due body o ≡ record { pending = o.pending; remaining = o.remaining; failed = true; culprit = pos s }
  unfolding obligation_step unfailed_step
  obligation_zero_fails f d q = rw (f, d, q) refl

  pub obligation_zero_body : o.failed ≡ false → due ≡ true → body ≡ true → obligation_step zero s due body o ≡ o
  unfolding obligation_step unfailed_step
  obligation_zero_body f d q = rw (f, d, q) refl

  pub obligation_zero_idle : o.failed ≡ false → due ≡ false → obligation_step zero s due body o ≡ o
  unfolding obligation_step unfailed_step
  obligation_zero_idle f d = rw (f, d) refl

-- ---- the invariant
-- the trigger at u has found its body in its window, before step k
pub record Answered (b : ℕ) (body : ℕ → Bool) (u k : ℕ) : Type 0 where
  pub at_step : ℕ
  pub from : u ≤ at_step
  pub in_window : at_step ≤ window_end b u
  pub below : at_step < k
  pub found : body at_step ≡ true

abbrev pub AllAnswered : ℕ → (ℕ → Bool) → (ℕ → Bool) → ℕ → ℕ → Type 0
AllAnswered b trigger body t k = (u : ℕ) → u < t → trigger u ≡ true → Answered b body u k

-- it has failed at the window that began at t, the least that was missed
pub record HasFailed (b : ℕ) (trigger body : ℕ → Bool) (k : ℕ) (o : ObligationState) (t : ℕ) : Type 0 where
  pub marked : o.failed ≡ true
  pub names : o.culprit ≡ pos t
  pub ended : window_end b t < k
  pub first : First (Missed b trigger body) t

-- a window is open since t
pub record IsOpen (b : ℕ) (trigger body : ℕ → Bool) (k : ℕ) (o : ObligationState) (t : ℕ) : Type 0 where
  pub unmarked : o.failed ≡ false
  pub pending : o.pending ≡ true
  pub names : o.culprit ≡ pos t
  pub opened : t < k
  pub triggered : trigger t ≡ true
  pub bodiless : (u : ℕ) → t ≤ u → u < k → body u ≡ false
  pub left : 1 ≤ o.remaining
  pub runs : o.remaining + k ≡ t + b
  pub before : AllAnswered b trigger body t k

pub record IsIdle (b : ℕ) (trigger body : ℕ → Bool) (k : ℕ) (o : ObligationState) : Type 0 where
  pub unmarked : o.failed ≡ false
  pub closed : o.pending ≡ false
  pub before : AllAnswered b trigger body k k

pub data Phase (b : ℕ) (trigger body : ℕ → Bool) (k : ℕ) (o : ObligationState) : Type 0 where
  has_failed : (t : ℕ) → HasFailed b trigger body k o t → Phase b trigger body k o
  is_open : (t : ℕ) → IsOpen b trigger body k o t → Phase b trigger body k o
  is_idle : IsIdle b trigger body k o → Phase b trigger body k o

pub record Kept (b : ℕ) (trigger body : ℕ → Bool) (k : ℕ) (o : ObligationState) : Type 0 where
  pub phase : Phase b trigger body k o
  pub latest : Latest (Blamed b trigger body) k o.culprit

-- ---- one more step
module _ (P : ℕ → Type 0) (k : ℕ) where
  -- a step that is not one of P leaves the latest one
  pub latest_same : (c : ℤ) → Latest P k c → (P k → ⊥) → Latest P (suc k) c
  latest_same (pos t) l h = record {
    below = omega (arith, l.below);
    here = l.here;
    not_after = λ u a z p. ⊎_elim (λ q. l.not_after u a q p) (λ q. h (subst P (omega arith) p)) (below_or u k);
  }
  latest_same (negsuc zero) l h = λ u z p. ⊎_elim (λ q. l u q p) (λ q. h (subst P (omega arith) p)) (below_or u k)
  latest_same (negsuc (suc n)) l h = l

  pub latest_here : P k → Latest P (suc k) (pos k)
  latest_here p = record { below = omega arith; here = p; not_after = λ u a z q. absurd (omega arith) }

blamed_opens : (b : ℕ) (trigger body : ℕ → Bool) (k : ℕ) → Blamed b trigger body k → Opens b trigger body k
unfolding Blamed
blamed_opens zero trigger body k p = p.0
blamed_opens (suc b) trigger body k p = p

module _ (b : ℕ) (trigger body : ℕ → Bool) where
  -- an answered trigger's window is not missed
  not_missed : (u k : ℕ) → Answered b body u k → Missed b trigger body u → ⊥
  not_missed u k a m = true_false a.found (m.bodiless a.at_step a.from a.in_window)

  later : (t k : ℕ) → AllAnswered b trigger body t k → AllAnswered b trigger body t (suc k)
  later t k h u z e =
      let a = h u z e in
      record { at_step = a.at_step; from = a.from; in_window = a.in_window; below = omega (arith, a.below); found = a.found }

  one_more : (k : ℕ) → AllAnswered b trigger body k k → (trigger k ≡ true → Answered b body k (suc k)) → AllAnswered b trigger body (suc k) (suc k)
  one_more k h a u z e = ⊎_elim (λ q. later k k h u q e)
      (λ q. let i : k ≡ u = omega arith in subst (λ (v : ℕ). Answered b body v (suc k)) i (a (subst (λ (v : ℕ). trigger v ≡ true) (sym i) e)))
      (below_or u k)

  -- where all are answered nothing waits and nothing has failed
  opens_idle : (k : ℕ) → AllAnswered b trigger body k k → trigger k ≡ true → Opens b trigger body k
  opens_idle k h e = record {
    triggered = e;
    none_open = λ o w.
        let a = h o w.earlier w.triggered in
        true_false a.found (w.bodiless a.at_step a.from a.below);
    not_failed = λ o z m. not_missed o k (h o (omega arith) m.triggered) m;
  }

  Inv : ℕ → ObligationState → Type 0
  Inv k o = Kept b trigger body k o

  Blame : ℕ → Type 0
  Blame t = Blamed b trigger body t

  -- a window that has run out is the least that was missed
  runs_out : (k t : ℕ) (o : ObligationState) → trigger t ≡ true → ((u : ℕ) → t ≤ u → u < suc k → body u ≡ false) → suc k ≡ t + max b 1 → AllAnswered b trigger body t k → o.failed ≡ true → o.culprit ≡ pos t → HasFailed b trigger body (suc k) o t
  runs_out k t o e h z a f c = record {
    marked = f;
    names = c;
    ended = omega arith;
    first = record { here = record { triggered = e; bodiless = λ u p q. h u p (omega arith) }; not_before = λ u p m. not_missed u k (a u p m.triggered) m };
  }

  -- one more step without the body since t
  since : (k t : ℕ) → ((u : ℕ) → t ≤ u → u < k → body u ≡ false) → body k ≡ false → (u : ℕ) → t ≤ u → u < suc k → body u ≡ false
  since k t h e u p q = ⊎_elim (λ z. h u p z) (λ z. subst (λ (v : ℕ). body v ≡ false) (omega arith) e) (below_or u k)

  blames_not_failed : (k t : ℕ) → window_end b t < k → Missed b trigger body t → Blame k → ⊥
  unfolding Blame
  blames_not_failed k t z m p = (blamed_opens b trigger body k p).not_failed t z m

  blames_not_open : (k t : ℕ) → Waits trigger body t k → Blame k → ⊥
  unfolding Blame
  blames_not_open k t w p = (blamed_opens b trigger body k p).none_open t w

  blames_not_idle : (k : ℕ) → trigger k ≡ false → Blame k → ⊥
  unfolding Blame
  blames_not_idle k e p = true_false (blamed_opens b trigger body k p).triggered e

  open_waits : (k t : ℕ) (o : ObligationState) → IsOpen b trigger body k o t → Waits trigger body t k
  open_waits k t o h = record { earlier = h.opened; triggered = h.triggered; bodiless = h.bodiless }

  kept_failed : (k t : ℕ) (o : ObligationState) → HasFailed b trigger body k o t → Latest Blame k o.culprit → Inv (suc k) o
  unfolding Inv Blame
  kept_failed k t o h l = record {
    phase = has_failed t (record { marked = h.marked; names = h.names; ended = omega (arith, h.ended); first = h.first });
    latest = latest_same Blame k o.culprit l (blames_not_failed k t h.ended h.first.here);
  }

  kept_idle : (k : ℕ) (o : ObligationState) → IsIdle b trigger body k o → trigger k ≡ false → Latest Blame k o.culprit → Inv (suc k) o
  unfolding Inv Blame
  kept_idle k o h e l = record {
    phase = is_idle (record { unmarked = h.unmarked; closed = h.closed; before = one_more k h.before (λ d. true_false d e) });
    latest = latest_same Blame k o.culprit l (blames_not_idle k e);
  }

module _ (trigger body : ℕ → Bool) (k : ℕ) (o : ObligationState) where
  kept_zero : (x y : Bool) → trigger k ≡ x → body k ≡ y → IsIdle zero trigger body k o → Latest (Blamed zero trigger body) k o.culprit → Kept zero trigger body (suc k) (obligation_step zero k (trigger k) (body k) o)
  unfolding Blamed Inv Blame
  kept_zero true true d e h l = subst (Kept zero trigger body (suc k)) (sym (obligation_zero_body k (trigger k) (body k) o h.unmarked d e)) (record {
    phase = is_idle (record { unmarked = h.unmarked; closed = h.closed; before = one_more zero trigger body k h.before (λ z. record { at_step = k; from = omega arith; in_window = omega arith; below = omega arith; found = e }) });
    latest = latest_same (Blamed zero trigger body) k o.culprit l (λ p. true_false e p.1);
  })
  kept_zero true false d e h l = subst (Kept zero trigger body (suc k)) (sym (obligation_zero_fails k (trigger k) (body k) o h.unmarked d e)) (record {
    phase = has_failed k (runs_out zero trigger body k k _ d (since zero trigger body k k (λ u p q. absurd (omega arith)) e) (omega arith) h.before refl refl);
    latest = latest_here (Blamed zero trigger body) k (opens_idle zero trigger body k h.before d, e);
  })
  kept_zero false y d e h l = subst (Kept zero trigger body (suc k)) (sym (obligation_zero_idle k (trigger k) (body k) o h.unmarked d)) (kept_idle zero trigger body k o h d l)

module _ (b : ℕ) (trigger body : ℕ → Bool) (k : ℕ) (o : ObligationState) where
  Next : ObligationState → Type 0
  Next n = Kept (suc b) trigger body (suc k) n

  kept_tick : (t : ℕ) → IsOpen (suc b) trigger body k o t → Latest (Blamed (suc b) trigger body) k o.culprit → body k ≡ false → (z : Bool) → eqb (o.remaining - 1) 0 ≡ z → Next (record { pending = true; remaining = o.remaining - 1; failed = eqb (o.remaining - 1) 0; culprit = o.culprit })
  unfolding Next Blame
  kept_tick t h l e true z = record {
    phase = has_failed t (runs_out (suc b) trigger body k t _ h.triggered (since (suc b) trigger body k t h.bodiless e) (omega (arith, h.runs, h.left, eqb-true (o.remaining - 1) 0 z)) h.before z h.names);
    latest = latest_same (Blamed (suc b) trigger body) k o.culprit l (blames_not_open (suc b) trigger body k t (open_waits (suc b) trigger body k t o h));
  }
  kept_tick t h l e false z =
      let n : o.remaining - 1 ≡ 0 → ⊥ = eqb-false _ _ z in
      let m : 1 ≤ o.remaining - 1 = ⊎_elim (λ q. absurd (n (omega arith))) (λ q. q) (below_or (o.remaining - 1) 1) in
      record {
        phase = is_open t (record {
          unmarked = z;
          pending = refl;
          names = h.names;
          opened = omega (arith, h.opened);
          triggered = h.triggered;
          bodiless = since (suc b) trigger body k t h.bodiless e;
          left = m;
          runs = omega (arith, h.runs);
          before = later (suc b) trigger body t k h.before;
        });
        latest = latest_same (Blamed (suc b) trigger body) k o.culprit l (blames_not_open (suc b) trigger body k t (open_waits (suc b) trigger body k t o h));
      }

  kept_open : (t : ℕ) → IsOpen (suc b) trigger body k o t → Latest (Blamed (suc b) trigger body) k o.culprit → (y : Bool) → body k ≡ y → Next (obligation_step (suc b) k (trigger k) (body k) o)
  unfolding Next Blame
  kept_open t h l true e = subst Next (sym (obligation_open_body b k (trigger k) (body k) o h.unmarked h.pending e)) (record {
    phase = is_idle (record {
      unmarked = h.unmarked;
      closed = refl;
      before = λ u z d. ⊎_elim
          (λ q. later (suc b) trigger body t k h.before u q d)
          (λ q. record { at_step = k; from = omega arith; in_window = omega (arith, h.runs, h.left); below = omega arith; found = e })
          (below_or u t);
    });
    latest = latest_same (Blamed (suc b) trigger body) k o.culprit l (blames_not_open (suc b) trigger body k t (open_waits (suc b) trigger body k t o h));
  })
  kept_open t h l false e = subst Next (sym (obligation_open_without b k (trigger k) (body k) o h.unmarked h.pending e)) (kept_tick t h l e _ refl)

  kept_new : IsIdle (suc b) trigger body k o → trigger k ≡ true → body k ≡ false → (z : Bool) → eqb (suc b - 1) 0 ≡ z → Next (record { pending = true; remaining = suc b - 1; failed = eqb (suc b - 1) 0; culprit = pos k })
  unfolding Next Blamed
  kept_new h d e true z = record {
    phase = has_failed k (runs_out (suc b) trigger body k k _ d (since (suc b) trigger body k k (λ u p q. absurd (omega arith)) e) (omega (arith, eqb-true (suc b - 1) 0 z)) h.before z refl);
    latest = latest_here (Blamed (suc b) trigger body) k (opens_idle (suc b) trigger body k h.before d);
  }
  kept_new h d e false z =
      let n : suc b - 1 ≡ 0 → ⊥ = eqb-false _ _ z in
      let m : 1 ≤ suc b - 1 = ⊎_elim (λ q. absurd (n (omega arith))) (λ q. q) (below_or (suc b - 1) 1) in
      record {
        phase = is_open k (record {
          unmarked = z;
          pending = refl;
          names = refl;
          opened = omega arith;
          triggered = d;
          bodiless = since (suc b) trigger body k k (λ u p q. absurd (omega arith)) e;
          left = m;
          runs = omega arith;
          before = later (suc b) trigger body k k h.before;
        });
        latest = latest_here (Blamed (suc b) trigger body) k (opens_idle (suc b) trigger body k h.before d);
      }

  kept_suc : (x y : Bool) → trigger k ≡ x → body k ≡ y → IsIdle (suc b) trigger body k o → Latest (Blamed (suc b) trigger body) k o.culprit → Next (obligation_step (suc b) k (trigger k) (body k) o)
  unfolding Next Inv Blame Blamed
  kept_suc true true d e h l = subst Next (sym (obligation_opens_body b k (trigger k) (body k) o h.unmarked h.closed d e)) (record {
    phase = is_idle (record {
      unmarked = h.unmarked;
      closed = refl;
      before = one_more (suc b) trigger body k h.before (λ z. record { at_step = k; from = omega arith; in_window = omega arith; below = omega arith; found = e });
    });
    latest = latest_here (Blamed (suc b) trigger body) k (opens_idle (suc b) trigger body k h.before d);
  })
  kept_suc true false d e h l = subst Next (sym (obligation_opens b k (trigger k) (body k) o h.unmarked h.closed d e)) (kept_new h d e _ refl)
  kept_suc false y d e h l = subst Next (sym (obligation_idle b k (trigger k) (body k) o h.unmarked h.closed d)) (kept_idle (suc b) trigger body k o h d l)

kept_phase : (b : ℕ) (trigger body : ℕ → Bool) (k : ℕ) (o : ObligationState) → Phase b trigger body k o → Latest (Blamed b trigger body) k o.culprit → Kept b trigger body (suc k) (obligation_step b k (trigger k) (body k) o)
unfolding Inv Next Blame
kept_phase zero trigger body k o (has_failed t h) l = subst (Kept zero trigger body (suc k)) (sym (obligation_failed zero k (trigger k) (body k) o h.marked)) (kept_failed zero trigger body k t o h l)
kept_phase zero trigger body k o (is_open t h) l = absurd (omega (arith, h.runs, h.left, h.opened))
kept_phase zero trigger body k o (is_idle h) l = kept_zero trigger body k o _ _ refl refl h l
kept_phase (suc b) trigger body k o (has_failed t h) l = subst (Kept (suc b) trigger body (suc k)) (sym (obligation_failed (suc b) k (trigger k) (body k) o h.marked)) (kept_failed (suc b) trigger body k t o h l)
kept_phase (suc b) trigger body k o (is_open t h) l = kept_open b trigger body k o t h l _ refl
kept_phase (suc b) trigger body k o (is_idle h) l = kept_suc b trigger body k o _ _ refl refl h l

-- ---- the invariant holds at the start, and each step keeps it
module _ (b : ℕ) (trigger body : ℕ → Bool) where
  pub kept_fresh : Kept b trigger body 0 initial_obligation
  kept_fresh = record { phase = is_idle (record { unmarked = refl; closed = refl; before = λ u z. absurd (omega arith) }); latest = λ u z. absurd (omega arith) }

  pub kept_step : (k : ℕ) (o : ObligationState) → Kept b trigger body k o → Kept b trigger body (suc k) (obligation_step b k (trigger k) (body k) o)
  kept_step k o h = kept_phase b trigger body k o h.phase h.latest

  module _ (k : ℕ) (o : ObligationState) where
    no_miss : AllAnswered b trigger body k k → (t : ℕ) → window_end b t < k → Missed b trigger body t → ⊥
    no_miss h t z m = not_missed b trigger body t k (h t (omega arith) m.triggered) m

    phase_marked : Phase b trigger body k o → (t : ℕ) → window_end b t < k → Missed b trigger body t → o.failed ≡ true
    phase_marked (has_failed u h) t z m = h.marked
    phase_marked (is_open u h) t z m = ⊎_elim
        (λ q. absurd (not_missed b trigger body t k (h.before t q m.triggered) m))
        (λ q. absurd (omega (arith, h.runs, h.left)))
        (below_or t u)
    phase_marked (is_idle h) t z m = absurd (no_miss h.before t z m)

    phase_names : Phase b trigger body k o → o.failed ≡ true → (t : ℕ) × HasFailed b trigger body k o t
    phase_names (has_failed t h) e = (t, h)
    phase_names (is_open t h) e = true_false e h.unmarked
    phase_names (is_idle h) e = true_false e h.unmarked

    -- a window that was missed is marked
    pub kept_marked : Kept b trigger body k o → (t : ℕ) → window_end b t < k → Missed b trigger body t → o.failed ≡ true
    kept_marked h = phase_marked h.phase

    -- what is marked names the least window that was missed
    pub kept_names : Kept b trigger body k o → o.failed ≡ true → (t : ℕ) × HasFailed b trigger body k o t
    kept_names h = phase_names h.phase
