-- Temporal logic: no formula is true and false at one step, and a pure one is what its value says.
use mathlib.Core.Path.{◌≡◌, refl}
use mathlib.Core.Bool.{true, false}
use mathlib.Core.Bool as bool
use mathlib.Core.Logic.{inl, inr, ⊎_elim}
use Prim.Native.Nat.{ℕ, ◌+◌}
use borrow.Author.Tests.{not-true, not-false}
use Rattle.formula.specs.Tree.{leaf, one, two}
use Rattle.formula.specs.Formula.{Formula, not, next, always, eventually, always_for, within, and, or, implies, until}
use Rattle.formula.specs.Pure.{pure, value}
use Rattle.formula.proofs.Cases.{true_false}
use Rattle.meaning.specs.Alarm.{Record}
use Rattle.meaning.specs.Logic.{Holds, Fails}
use Rattle.meaning.specs.Plain.{Pure}
use Rattle.meaning.proofs.Truths.{and_true, true_and, or_true, true_or_left, true_or_right, false_not, and_false, false_and, or_false, false_or, not_is_false}

pub not_both : (f : Formula) (rec : Record) (t : ℕ) → Holds f rec t → Fails f rec t → ⊥
unfolding Holds Fails
not_both (leaf a) rec t h k = true_false h k
not_both (one not f) rec t h k = not_both f rec t k h
not_both (one next f) rec t h k = not_both f rec (t + 1) h k
not_both (one always f) rec t h (u, z, k) = not_both f rec u (h u z) k
not_both (one eventually f) rec t (u, z, h) k = not_both f rec u h (k u z)
not_both (one (always_for b) f) rec t h (u, y, z, k) = not_both f rec u (h u y z) k
not_both (one (within b) f) rec t (u, y, z, h) k = not_both f rec u h (k u y z)
not_both (two and l r) rec t h (inl k) = not_both l rec t h.0 k
not_both (two and l r) rec t h (inr k) = not_both r rec t h.1 k
not_both (two or l r) rec t (inl h) k = not_both l rec t h k.0
not_both (two or l r) rec t (inr h) k = not_both r rec t h k.1
not_both (two implies l r) rec t (inl h) k = not_both l rec t k.0 h
not_both (two implies l r) rec t (inr h) k = not_both r rec t h k.1
not_both (two until l r) rec t (u, z, h, g) k = ⊎_elim
    (λ x. not_both r rec u h x)
    (λ (v, x, y, e). not_both l rec v (g v x y) e)
    (k u z)

-- ---- pure formulas
pub record Valued (f : Formula) (rec : Record) (t : ℕ) : Type 0 where
  pub holds : value f (rec t) ≡ true → Holds f rec t
  pub fails : value f (rec t) ≡ false → Fails f rec t
  pub is_true : Holds f rec t → value f (rec t) ≡ true
  pub is_false : Fails f rec t → value f (rec t) ≡ false

pub valued : (f : Formula) (rec : Record) (t : ℕ) → Pure f → Valued f rec t
unfolding Holds Fails pure value
valued (leaf a) rec t p = record { holds = λ e. e; fails = λ e. e; is_true = λ e. e; is_false = λ e. e }
valued (one not f) rec t p =
    let v = valued f rec t p in
    record {
      holds = λ e. v.fails (not-true _ e);
      fails = λ e. v.holds (not-false _ e);
      is_true = λ h. false_not (v.is_false h);
      is_false = λ h. not_is_false (v.is_true h);
    }
valued (one next f) rec t p = true_false p refl
valued (one always f) rec t p = true_false p refl
valued (one eventually f) rec t p = true_false p refl
valued (one (always_for b) f) rec t p = true_false p refl
valued (one (within b) f) rec t p = true_false p refl
valued (two and l r) rec t p =
    let q = and_true (pure l) (pure r) p in
    let v = valued l rec t q.0 in
    let w = valued r rec t q.1 in
    record {
      holds = λ e. let h = and_true (value l (rec t)) (value r (rec t)) e in (v.holds h.0, w.holds h.1);
      fails = λ e. ⊎_elim (λ h. inl (v.fails h)) (λ h. inr (w.fails h)) (and_false (value l (rec t)) (value r (rec t)) e);
      is_true = λ h. true_and (v.is_true h.0) (w.is_true h.1);
      is_false = λ h. false_and (value l (rec t)) (value r (rec t)) (⊎_elim (λ k. inl (v.is_false k)) (λ k. inr (w.is_false k)) h);
    }
valued (two or l r) rec t p =
    let q = and_true (pure l) (pure r) p in
    let v = valued l rec t q.0 in
    let w = valued r rec t q.1 in
    record {
      holds = λ e. ⊎_elim (λ h. inl (v.holds h)) (λ h. inr (w.holds h)) (or_true (value l (rec t)) (value r (rec t)) e);
      fails = λ e. let h = or_false (value l (rec t)) (value r (rec t)) e in (v.fails h.0, w.fails h.1);
      is_true = ⊎_elim (λ k. true_or_left (value l (rec t)) (value r (rec t)) (v.is_true k)) (λ k. true_or_right (value l (rec t)) (value r (rec t)) (w.is_true k));
      is_false = λ h. false_or (v.is_false h.0) (w.is_false h.1);
    }
valued (two implies l r) rec t p =
    let q = and_true (pure l) (pure r) p in
    let v = valued l rec t q.0 in
    let w = valued r rec t q.1 in
    let a = bool.not (value l (rec t)) in
    let b = value r (rec t) in
    record {
      holds = λ e. ⊎_elim (λ h. inl (v.fails (not-true _ h))) (λ h. inr (w.holds h)) (or_true a b e);
      fails = λ e. let h = or_false a b e in (v.holds (not-false _ h.0), w.fails h.1);
      is_true = ⊎_elim (λ k. true_or_left a b (false_not (v.is_false k))) (λ k. true_or_right a b (w.is_true k));
      is_false = λ h. false_or (not_is_false (v.is_true h.0)) (w.is_false h.1);
    }
valued (two until l r) rec t p = true_false p refl
