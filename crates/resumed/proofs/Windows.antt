-- One obligation that goes on from a start, over two streams: the calls with an in-range trigger, and the calls with its body.
--     Kept    the invariant after k calls: failed, open or idle; and the culprit is the step of the latest opening since
use mathlib.Core.Path.{◌≡◌, refl, sym, ap, subst, ◌∙◌}
use mathlib.Core.Bool.{Bool, true, false}
use mathlib.Core.Logic.{inl, inr, ⊎_elim, ◌↔◌}
use Prim.Native.Nat.{ℕ, zero, suc, ◌+◌, ◌-◌, ◌≤◌, ◌<◌, max}
use native.Mathlib.Omega.{arith}
use lib.Dec.{eqb}
use lib.IntN.{ℤ, pos}
use borrow.Author.Tests.{eqb-true, eqb-false}
use Rattle.formula.proofs.Cases.{below_or, true_false}
use Rattle.meaning.specs.Alarm.{window_end}
use Rattle.meaning.specs.Culprit.{minus_one}
use Rattle.meaning.specs.State.{ObligationState, obligation_step, WellKept}
use Rattle.meaning.proofs.Windows.{obligation_failed, obligation_open_body, obligation_open_without, obligation_idle, obligation_opens_body, obligation_opens, obligation_zero_fails, obligation_zero_body, obligation_zero_idle, latest_same, latest_here}
use Rattle.meaning.proofs.Culprits.{latest_unique, pos_inj}
use Rattle.resumed.specs.Since.{OpenBefore, FailedBefore, OpensSince, BlamedSince, LatestSince}

-- ---- the step of the latest call
module _ (at : ℕ → ℕ) (P : ℕ → Type 0) (k : ℕ) where
  since_same : (c : ℤ) → LatestSince at P k c → (P k → ⊥) → LatestSince at P (suc k) c
  since_same c (inl (h, e)) n = inl (latest_same P k minus_one h n, e)
  since_same c (inr (i, h, e)) n = inr (i, latest_same P k (pos i) h n, e)

  since_here : P k → LatestSince at P (suc k) (pos (at k))
  since_here p = inr (k, latest_here P k p, refl)

  pub since_unique : (x y : ℤ) → LatestSince at P k x → LatestSince at P k y → x ≡ y
  since_unique x y (inl f) (inl g) = f.1 ∙ sym g.1
  since_unique x y (inl f) (inr (i, h, e)) = absurd (f.0 i h.below h.here)
  since_unique x y (inr (i, h, e)) (inl f) = absurd (f.0 i h.below h.here)
  since_unique x y (inr (i, g, d)) (inr (j, h, e)) = d ∙ ap (λ (n : ℕ). pos (at n)) (pos_inj (latest_unique P k (pos i) (pos j) g h)) ∙ sym e

blamed_opens : (b : ℕ) (start : ObligationState) (trigger body : ℕ → Bool) (i : ℕ) → BlamedSince b start trigger body i → OpensSince b start trigger body i
unfolding BlamedSince
blamed_opens zero start trigger body i h = h.0
blamed_opens (suc b) start trigger body i h = h

-- no call is blamed while the start's window is open, nor after it ran out
pub open_blames_none : (b : ℕ) (start : ObligationState) (trigger body : ℕ → Bool) → start.pending ≡ true → ((u : ℕ) → u < start.remaining → body u ≡ false)
    → (i : ℕ) → BlamedSince b start trigger body i → ⊥
open_blames_none b start trigger body p h i x =
    let o = blamed_opens b start trigger body i x in
    ⊎_elim
    (λ z. o.none_open (inl (record { open_then = p; bodiless = λ u y. h u (omega arith) })))
    (λ z. o.not_failed (inl (record { open_then = p; ended = z; bodiless = h })))
    (below_or i start.remaining)

module _ (b : ℕ) (start : ObligationState) (trigger body : ℕ → Bool) where
  abbrev Open : ℕ → Type 0
  Open i = OpenBefore start trigger body i

  abbrev Failed : ℕ → Type 0
  Failed i = FailedBefore b start trigger body i

  -- ---- the invariant
  -- from call k on a window has r calls left: nothing fails before they are over, and then it does if they run without the body
  pub record Running (k r : ℕ) : Type 0 where
    pub left : 1 ≤ r
    pub soonest : (i : ℕ) → Failed i → r + k ≤ i
    pub ends : (i : ℕ) → r + k ≤ i → ((u : ℕ) → k ≤ u → u < r + k → body u ≡ false) → Failed i

  pub data Phase (k : ℕ) (o : ObligationState) : Type 0 where
    has_failed : o.failed ≡ true → Failed k → Phase k o
    is_open : o.failed ≡ false → o.pending ≡ true → 1 ≤ b → Open k → Running k o.remaining → Phase k o
    is_idle : o.failed ≡ false → o.pending ≡ false → (Open k → ⊥) → (Failed k → ⊥) → Phase k o

  pub record Kept (at : ℕ → ℕ) (k : ℕ) (o : ObligationState) : Type 0 where
    pub phase : Phase k o
    pub latest : LatestSince at (BlamedSince b start trigger body) k o.culprit

  -- failed exactly where a window has run out
  pub phase_failed : (k : ℕ) (o : ObligationState) → Phase k o → (o.failed ≡ true) ↔ Failed k
  phase_failed k o (has_failed f w) = (λ e. w, λ h. f)
  phase_failed k o (is_open f p z h w) = (λ e. true_false e f, λ g. absurd (omega (arith, w.soonest k g, w.left)))
  phase_failed k o (is_idle f p n g) = (λ e. true_false e f, λ h. absurd (g h))

  -- ---- at the start
  module _ (at : ℕ → ℕ) (h : WellKept b start) (f : start.failed ≡ false) where
    phase_start : (x : Bool) → start.pending ≡ x → Phase 0 start
    phase_start true p =
        let w : (1 ≤ start.remaining) × (start.remaining ≤ b) = h.window p f in
        is_open f p (omega arith) (inl (record { open_then = p; bodiless = λ u z. absurd (omega arith) })) (record {
          left = w.0;
          soonest = λ i. ⊎_elim (λ r. omega (arith, r.ended)) (λ (o, z, m). omega arith);
          ends = λ i z e. inl (record { open_then = p; ended = omega arith; bodiless = λ u q. e u (omega arith) (omega arith) });
        })
    phase_start false p = is_idle f p
        (⊎_elim (λ r. true_false r.open_then p) (λ (o, w). omega (arith, w.earlier)))
        (⊎_elim (λ r. true_false r.open_then p) (λ (o, z, m). omega arith))

    pub kept_start : start.culprit ≡ minus_one → Kept at 0 start
    kept_start e = record { phase = phase_start _ refl; latest = inl (λ u z. absurd (omega arith), e) }

  -- ---- open and failed, from one call to the next
  module _ (k : ℕ) where
    without : (u : ℕ) → body k ≡ false → (u < k → body u ≡ false) → u < suc k → body u ≡ false
    without u e h z = ⊎_elim h (λ q. subst (λ (v : ℕ). body v ≡ false) (omega arith) e) (below_or u k)

    -- what is open stays so without the body, and a trigger without it is open
    open_on : body k ≡ false → Open k → Open (suc k)
    open_on e (inl h) = inl (record { open_then = h.open_then; bodiless = λ u. without u e (h.bodiless u) })
    open_on e (inr (o, w)) = inr (o, record { earlier = omega (arith, w.earlier); triggered = w.triggered; bodiless = λ u p. without u e (w.bodiless u p) })

    open_new : trigger k ≡ true → body k ≡ false → Open (suc k)
    open_new d e = inr (k, record { earlier = omega arith; triggered = d; bodiless = λ u p. without u e (λ z. absurd (omega arith)) })

    -- the body closes all, and with no trigger nothing opens
    closed_body : body k ≡ true → Open (suc k) → ⊥
    closed_body e (inl h) = true_false e (h.bodiless k (omega arith))
    closed_body e (inr (o, w)) = true_false e (w.bodiless k (omega (arith, w.earlier)) (omega arith))

    closed_idle : trigger k ≡ false → (Open k → ⊥) → Open (suc k) → ⊥
    closed_idle d n (inl h) = n (inl (record { open_then = h.open_then; bodiless = λ u z. h.bodiless u (omega arith) }))
    closed_idle d n (inr (o, w)) = ⊎_elim
        (λ z. n (inr (o, record { earlier = z; triggered = w.triggered; bodiless = λ u p q. w.bodiless u p (omega arith) })))
        (λ z. true_false (subst (λ (v : ℕ). trigger v ≡ true) (omega (arith, w.earlier)) w.triggered) d)
        (below_or o k)

    failed_on : Failed k → Failed (suc k)
    failed_on (inl h) = inl (record { open_then = h.open_then; ended = omega (arith, h.ended); bodiless = h.bodiless })
    failed_on (inr (o, z, m)) = inr (o, omega arith, m)

    -- what has not failed by now and is not open at j, now or next, fails only by a trigger from j on
    fails_from : (j : ℕ) → j ≤ suc k → (Failed k → ⊥) → (Open j → ⊥) → (i : ℕ) → Failed i → max b 1 + j ≤ i
    fails_from j y g n i (inl h) = ⊎_elim
        (λ z. absurd (n (inl (record { open_then = h.open_then; bodiless = λ u q. h.bodiless u (omega arith) }))))
        (λ z. absurd (g (inl (record { open_then = h.open_then; ended = z; bodiless = h.bodiless }))))
        (below_or k start.remaining)
    fails_from j y g n i (inr (o, z, m)) = ⊎_elim
        (λ p. absurd (g (inr (o, p, m))))
        (λ p. ⊎_elim
        (λ q. absurd (n (inr (o, record { earlier = q; triggered = m.triggered; bodiless = λ u v w. m.bodiless u v (omega arith) }))))
        (λ q. omega arith)
        (below_or o j))
        (below_or (window_end b o) k)

    -- ---- what one call makes of a phase
    closes : (o : ObligationState) → o.failed ≡ false → o.pending ≡ false → (Failed k → ⊥) → (Open (suc k) → ⊥) → Phase (suc k) o
    closes o f p g n = is_idle f p n (λ h. omega (arith, fails_from (suc k) (omega arith) g n (suc k) h))

    -- a window that opens has its whole bound left
    opens : (r : ℕ) → r ≡ max b 1 → (Open k → ⊥) → (Failed k → ⊥) → trigger k ≡ true → Running k r
    opens r s n g d = record {
      left = omega arith;
      soonest = λ i f. omega (arith, fails_from k (omega arith) g n i f);
      ends = λ i z h. inr (k, omega arith, record { triggered = d; bodiless = λ u p q. h u p (omega arith) });
    }

    -- without the body its last call fails, and one before it takes one from what is left
    ends_here : Running k 1 → body k ≡ false → Failed (suc k)
    ends_here w e = w.ends (suc k) (omega arith) (λ u p q. without u e (λ v. absurd (omega arith)) (omega arith))

    ticks : (r : ℕ) (c : ℤ) → 1 ≤ b → Running k r → Open (suc k) → body k ≡ false → (x : Bool) → eqb (r - 1) 0 ≡ x
        → Phase (suc k) (record { pending = true; remaining = r - 1; failed = eqb (r - 1) 0; culprit = c })
    ticks r c z w h e true x = has_failed x (ends_here (subst (Running k) (omega (arith, w.left, eqb-true (r - 1) 0 x)) w) e)
    ticks r c z w h e false x =
        let n : r - 1 ≡ 0 → ⊥ = eqb-false _ _ x in
        is_open x refl z h (record {
          left = omega arith;
          soonest = λ i f. omega (arith, w.soonest i f, w.left);
          ends = λ i y g. w.ends i (omega (arith, w.left)) (λ u p q. ⊎_elim
              (λ v. g u v (omega (arith, w.left)))
              (λ v. subst (λ (j : ℕ). body j ≡ false) (omega arith) e)
              (below_or k u));
        })

-- ---- one more call
module _ (at : ℕ → ℕ) (start : ObligationState) (trigger body : ℕ → Bool) (k : ℕ) (o : ObligationState) where
  kept_next : (b : ℕ) (x y : Bool) → trigger k ≡ x → body k ≡ y → Phase b start trigger body k o → LatestSince at (BlamedSince b start trigger body) k o.culprit
      → Kept b start trigger body at (suc k) (obligation_step b (at k) (trigger k) (body k) o)
  unfolding BlamedSince
  kept_next b x y d e (has_failed f w) l = rw obligation_failed (record {
    phase = has_failed f (failed_on b start trigger body k w);
    latest = since_same at _ k _ l (λ p. (blamed_opens b start trigger body k p).not_failed w);
  })
  kept_next zero x y d e (is_open f p z h w) l = absurd (omega arith)
  kept_next (suc b) x true d e (is_open f p z h w) l = rw obligation_open_body (record {
    phase = closes (suc b) start trigger body k _ f refl (λ i. omega (arith, w.soonest k i, w.left)) (closed_body (suc b) start trigger body k e);
    latest = since_same at _ k _ l (λ p. p.none_open h);
  })
  kept_next (suc b) x false d e (is_open f p z h w) l = rw obligation_open_without (record {
    phase = ticks (suc b) start trigger body k _ _ z w (open_on (suc b) start trigger body k e h) e _ refl;
    latest = since_same at _ k _ l (λ p. p.none_open h);
  })
  kept_next zero true true d e (is_idle f p n g) l = rw obligation_zero_body (record {
    phase = closes zero start trigger body k o f p g (closed_body zero start trigger body k e);
    latest = since_same at _ k _ l (λ p. true_false e p.1);
  })
  kept_next zero true false d e (is_idle f p n g) l = rw obligation_zero_fails (record {
    phase = has_failed refl (ends_here zero start trigger body k (opens zero start trigger body k 1 refl n g d) e);
    latest = since_here at _ k (record { triggered = d; none_open = n; not_failed = g }, e);
  })
  kept_next zero false y d e (is_idle f p n g) l = rw obligation_zero_idle (record {
    phase = closes zero start trigger body k o f p g (closed_idle zero start trigger body k d n);
    latest = since_same at _ k _ l (λ p. true_false p.0.triggered d);
  })
  kept_next (suc b) true true d e (is_idle f p n g) l = rw obligation_opens_body (record {
    phase = closes (suc b) start trigger body k _ f refl g (closed_body (suc b) start trigger body k e);
    latest = since_here at _ k (record { triggered = d; none_open = n; not_failed = g });
  })
  kept_next (suc b) true false d e (is_idle f p n g) l = rw obligation_opens (record {
    phase = ticks (suc b) start trigger body k _ _ (omega arith) (opens (suc b) start trigger body k (suc b) (omega arith) n g d) (open_new (suc b) start trigger body k d e) e _ refl;
    latest = since_here at _ k (record { triggered = d; none_open = n; not_failed = g });
  })
  kept_next (suc b) false y d e (is_idle f p n g) l = rw obligation_idle (record {
    phase = closes (suc b) start trigger body k o f p g (closed_idle (suc b) start trigger body k d n);
    latest = since_same at _ k _ l (λ p. true_false p.triggered d);
  })

pub kept_step : (b : ℕ) (start : ObligationState) (trigger body : ℕ → Bool) (at : ℕ → ℕ) (k : ℕ) (o : ObligationState) → Kept b start trigger body at k o
    → Kept b start trigger body at (suc k) (obligation_step b (at k) (trigger k) (body k) o)
kept_step b start trigger body at k o h = kept_next at start trigger body k o b _ _ refl refl h.phase h.latest
