-- Culprits: a node names at most one, and the monitor stepped from fresh over a record holds it.
use mathlib.Core.Path.{◌≡◌, refl, sym, ap, subst, ◌∙◌}
use mathlib.Core.Bool.{Bool, true, false, ◌&&◌}
use mathlib.Core.Bool as bool
use mathlib.Core.Logic.{◌⊎◌, inl, inr, ⊎_elim, ◌↔◌}
use Prim.Native.Nat.{ℕ, zero, suc, ◌<◌, min}
use native.Mathlib.Omega.{arith}
use lib.IntN.{ℤ, pos, negsuc}
use Rattle.terms.specs.Choice.{pick}
use Rattle.formula.proofs.Cases.{below_or, true_false}
use Rattle.monitor.specs.Mon.{Check, range_check, delayed_check, obligation, Mon, check, And, Or}
use Rattle.meaning.specs.Alarm.{Record, during, triggers, Alarm, First, NoneBelow}
use Rattle.meaning.specs.Culprit.{minus_one, Blamed, Latest, Least, Joined, CheckCulprit, Culprit}
use Rattle.meaning.specs.State.{State, check_culprit, culprit, offered, least, joined_step, step, after}
use Rattle.meaning.proofs.Steps.{and_left, and_right, or_left, or_right, answers, marked, obligation_kept}

-- ---- at most one
module _ (P : ℕ → Type 0) where
  pub first_unique : (s t : ℕ) → First P s → First P t → s ≡ t
  first_unique s t f g = ⊎_elim
      (λ z. absurd (g.not_before s z f.here))
      (λ z. ⊎_elim (λ y. absurd (f.not_before t y g.here)) (λ y. omega arith) (below_or t s))
      (below_or s t)

  pub latest_unique : (k : ℕ) (c d : ℤ) → Latest P k c → Latest P k d → c ≡ d
  latest_unique k (pos s) (pos t) f g = ⊎_elim
      (λ z. absurd (f.not_after t z g.below g.here))
      (λ z. ⊎_elim (λ y. absurd (g.not_after s y f.below f.here)) (λ y. ap pos (omega arith)) (below_or t s))
      (below_or s t)
  latest_unique k (pos s) (negsuc zero) f g = absurd (g s f.below f.here)
  latest_unique k (negsuc zero) (pos t) f g = absurd (f t g.below g.here)
  latest_unique k (negsuc zero) (negsuc zero) f g = refl
  latest_unique k (pos s) (negsuc (suc n)) f g = absurd g
  latest_unique k (negsuc zero) (negsuc (suc n)) f g = absurd g
  latest_unique k (negsuc (suc n)) d f g = absurd f

  least_unique : (c d : ℤ) → Least P c → Least P d → c ≡ d
  least_unique (pos s) (pos t) f g = ap pos (first_unique s t f g)
  least_unique (pos s) (negsuc zero) f g = absurd (g s f.here)
  least_unique (negsuc zero) (pos t) f g = absurd (f t g.here)
  least_unique (negsuc zero) (negsuc zero) f g = refl
  least_unique (pos s) (negsuc (suc n)) f g = absurd g
  least_unique (negsuc zero) (negsuc (suc n)) f g = absurd g
  least_unique (negsuc (suc n)) d f g = absurd f

pub joined_unique : (Rings : ℕ → Type 0) (Named : ℕ → ℕ → Type 0) (k : ℕ) (c d : ℤ) → Joined Rings Named k c → Joined Rings Named k d → c ≡ d
joined_unique Rings Named k c d (inl f) (inl g) = f.1 ∙ sym g.1
joined_unique Rings Named k c d (inl f) (inr g) = absurd (f.0 g.0 g.1 g.2.here)
joined_unique Rings Named k c d (inr f) (inl g) = absurd (g.0 f.0 f.1 f.2.here)
joined_unique Rings Named k c d (inr f) (inr g) = least_unique (Named f.0) c d f.3 (subst (λ (s : ℕ). Least (Named s) d) (first_unique Rings g.0 f.0 g.2 f.2) g.3)

check_unique : (h : Check) (rec : Record) (k : ℕ) (c d : ℤ) → CheckCulprit h rec k c → CheckCulprit h rec k d → c ≡ d
unfolding CheckCulprit
check_unique (range_check p r) rec k c d f g = f ∙ sym g
check_unique (delayed_check p q r) rec k c d f g = f ∙ sym g
check_unique (obligation b p q r) rec k c d f g = latest_unique (Blamed b (triggers r p rec) (during q rec)) k c d f g

pub culprit_unique : (m : Mon) (rec : Record) (k : ℕ) (c d : ℤ) → Culprit m rec k c → Culprit m rec k d → c ≡ d
unfolding Culprit
culprit_unique (check h) rec k c d f g = check_unique h rec k c d f g
culprit_unique (And m n) rec k c d f g = joined_unique _ _ k c d f g
culprit_unique (Or m n) rec k c d f g = joined_unique _ _ k c d f g

-- ---- the least of what two parts offer
pub pos_inj : {a b : ℕ} → pos a ≡ pos b → a ≡ b
pos_inj e = cc

not_pos : {n t : ℕ} {B : Type 0} → negsuc n ≡ pos t → B
not_pos e = let z : ◌≡◌ {A = ℕ} 0 1 = cc in absurd (omega arith)

-- a part offers t where it rings and names t
pub offers : (A : Type 0) (P : ℤ → Type 0) (x : Bool) (c : ℤ) → (x ≡ true) ↔ A → P c → ((d : ℤ) → P d → c ≡ d) → (t : ℕ) → (offered x c ≡ pos t) ↔ (A × P (pos t))
offers A P true c f p same t = (λ e. (f.0 refl, subst P e p), λ h. same (pos t) h.1)
offers A P false c f p same t = (λ e. not_pos e, λ h. true_false (f.1 h.0) refl)

module _ (M N : ℕ → Type 0) where
  pub least_is : (e f : ℤ) → ((t : ℕ) → (e ≡ pos t) ↔ M t) → ((t : ℕ) → (f ≡ pos t) ↔ N t) → Least (λ t. M t ⊎ N t) (least e f)
  least_is (pos a) (pos b) g h = record {
    here = ⊎_elim
        (λ z. inl ((g (min a b)).0 (ap pos (omega arith))))
        (λ z. inr ((h (min a b)).0 (ap pos (omega arith))))
        (below_or a b);
    not_before = λ u z. ⊎_elim
        (λ m. let q : a ≡ u = pos_inj ((g u).1 m) in omega arith)
        (λ n. let q : b ≡ u = pos_inj ((h u).1 n) in omega arith);
  }
  least_is (pos a) (negsuc b) g h = record {
    here = inl ((g a).0 refl);
    not_before = λ u z. ⊎_elim (λ m. let q : a ≡ u = pos_inj ((g u).1 m) in omega arith) (λ n. not_pos ((h u).1 n));
  }
  least_is (negsuc a) (pos b) g h = record {
    here = inr ((h b).0 refl);
    not_before = λ u z. ⊎_elim (λ m. not_pos ((g u).1 m)) (λ n. let q : b ≡ u = pos_inj ((h u).1 n) in omega arith);
  }
  least_is (negsuc a) (negsuc b) g h = λ u. ⊎_elim (λ m. not_pos ((g u).1 m)) (λ n. not_pos ((h u).1 n))

-- ---- one more step of a joined node
module _ (Rings : ℕ → Type 0) (Named : ℕ → ℕ → Type 0) (k : ℕ) (c new : ℤ) (least-new : Least (Named k) new) where
  joined_first : (now : Bool) → (now ≡ true) ↔ Rings k → NoneBelow Rings k → c ≡ minus_one → Joined Rings Named (suc k) (pick now new c)
  joined_first true a h e = inr (k, omega arith, record { here = a.0 refl; not_before = h }, least-new)
  joined_first false a h e = inl (λ u z p. ⊎_elim (λ q. h u q p) (λ q. true_false (a.1 (subst Rings (omega arith) p)) refl) (below_or u k), e)

  pub joined_step_lem : (f now : Bool) → (f ≡ true) ↔ ((s : ℕ) × (s < k) × Rings s) → (now ≡ true) ↔ Rings k → Joined Rings Named k c → Joined Rings Named (suc k) (pick (bool.not f && now) new c)
  joined_step_lem true now m a (inl h) = let (s, z, p) = m.0 refl in absurd (h.0 s z p)
  joined_step_lem false now m a (inl h) = joined_first now a h.0 h.1
  joined_step_lem true now m a (inr (s, z, h, l)) = inr (s, omega arith, h, l)
  joined_step_lem false now m a (inr (s, z, h, l)) = true_false (m.1 (s, z, h.here)) refl

-- ---- the monitor's culprits
-- at step s a part alarms and names t
Named : Mon → Mon → Record → ℕ → ℕ → Type 0
Named m n rec s t = (Alarm m rec s × Culprit m rec (suc s) (pos t)) ⊎ (Alarm n rec s × Culprit n rec (suc s) (pos t))

module _ (m n : Mon) (rec : Record) (k : ℕ) where
  -- what the parts offer at step k
  offer : (l : State m) (r : State n) → l ≡ after m rec k → r ≡ after n rec k → Culprit m rec (suc k) (culprit m (after m rec (suc k))) → Culprit n rec (suc k) (culprit n (after n rec (suc k))) → Least (Named m n rec k) (least (offered (step m l k (rec k)).now (culprit m (step m l k (rec k)).state)) (offered (step n r k (rec k)).now (culprit n (step n r k (rec k)).state)))
  unfolding Named after
  offer l r p q f g = subst
      (λ (x : State m). Least (Named m n rec k) (least (offered (step m x k (rec k)).now (culprit m (step m x k (rec k)).state)) (offered (step n r k (rec k)).now (culprit n (step n r k (rec k)).state))))
      (sym p)
      (subst
      (λ (x : State n). Least (Named m n rec k) (least (offered (step m (after m rec k) k (rec k)).now (culprit m (step m (after m rec k) k (rec k)).state)) (offered (step n x k (rec k)).now (culprit n (step n x k (rec k)).state))))
      (sym q)
      (least_is (λ t. Alarm m rec k × Culprit m rec (suc k) (pos t)) (λ t. Alarm n rec k × Culprit n rec (suc k) (pos t)) _ _
      (offers (Alarm m rec k) (Culprit m rec (suc k)) _ _ (answers m rec k) f (λ d e. culprit_unique m rec (suc k) _ d f e))
      (offers (Alarm n rec k) (Culprit n rec (suc k)) _ _ (answers n rec k) g (λ d e. culprit_unique n rec (suc k) _ d g e))))

check_culprit_lem : (c : Check) (rec : Record) (k : ℕ) → CheckCulprit c rec k (check_culprit c (after (check c) rec k))
unfolding CheckCulprit
check_culprit_lem (range_check p r) rec k = refl
check_culprit_lem (delayed_check p q r) rec k = refl
check_culprit_lem (obligation b p q r) rec k = (obligation_kept b p q r rec k).latest

module _ (m n : Mon) (rec : Record) (f : (k : ℕ) → Culprit m rec k (culprit m (after m rec k))) (g : (k : ℕ) → Culprit n rec k (culprit n (after n rec k))) where
  and_culprits : (k : ℕ) → Joined (Alarm (And m n) rec) (Named m n rec) k (after (And m n) rec k).culprit
  unfolding after step joined_step Named
  and_culprits zero = inl (λ u z. absurd (omega arith), refl)
  and_culprits (suc k) = joined_step_lem (Alarm (And m n) rec) (Named m n rec) k _ _
      (offer m n rec k _ _ (and_left m n rec k) (and_right m n rec k) (f (suc k)) (g (suc k))) _ _
      (marked (And m n) rec k) (answers (And m n) rec k) (and_culprits k)

  or_culprits : (k : ℕ) → Joined (Alarm (Or m n) rec) (Named m n rec) k (after (Or m n) rec k).culprit
  unfolding after step joined_step Named
  or_culprits zero = inl (λ u z. absurd (omega arith), refl)
  or_culprits (suc k) = joined_step_lem (Alarm (Or m n) rec) (Named m n rec) k _ _
      (offer m n rec k _ _ (or_left m n rec k) (or_right m n rec k) (f (suc k)) (g (suc k))) _ _
      (marked (Or m n) rec k) (answers (Or m n) rec k) (or_culprits k)

pub culprits : (m : Mon) (rec : Record) (k : ℕ) → Culprit m rec k (culprit m (after m rec k))
unfolding Culprit Named
culprits (check c) rec k = check_culprit_lem c rec k
culprits (And m n) rec k = and_culprits m n rec (culprits m rec) (culprits n rec) k
culprits (Or m n) rec k = or_culprits m n rec (culprits m rec) (culprits n rec) k
