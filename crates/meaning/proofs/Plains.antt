-- Plain rules: they compile, and their alarms are exactly what temporal logic says.
use mathlib.Core.Path.{◌≡◌, refl, sym, ap, ap₂, subst, ◌∙◌}
use mathlib.Core.Bool.{Bool, true, false, ◌&&◌}
use mathlib.Core.Bool as bool
use mathlib.Core.List.{List, [], ◌++◌}
use mathlib.Core.Logic.{◌⊎◌, inl, inr, ⊎_elim, ◌↔◌}
use Prim.Native.Nat.{ℕ, zero, suc, ◌+◌, ◌-◌, ◌≤◌, ◌<◌, max}
use native.Mathlib.Omega.{arith}
use native.Mathlib.Numerals.{add-one}
use lib.Dec.{leb, eqb, leb-zero, leb-suc-suc}
use borrow.Author.Tests.{leb-true, le-leb, ne_eqb}
use Rattle.result.specs.declared.Refusal.{Refusal}
use Rattle.result.specs.declared.Refusal.TheVariants.{ZeroFor, Antecedent, WithinOperand, NextConsequent, Consequent, NextOperand, NotOperand}
use Rattle.formula.specs.Tree.{leaf, one, two, size}
use Rattle.formula.specs.Formula.{Formula, not, next, always, eventually, always_for, within, and, or, implies, until}
use Rattle.formula.specs.Pure.{pure, value, unless}
use Rattle.formula.proofs.Cases.{below_or, true_or, true_false}
use Rattle.monitor.specs.declared.range.End.{End}
use Rattle.monitor.specs.declared.range.End.TheVariants.{Step, Open}
use Rattle.monitor.specs.declared.range.AnchorRange.{AnchorRange}
use Rattle.monitor.specs.Range.{all_of, upto_of, contains_of, not_past, later, shifted_of}
use Rattle.monitor.specs.Mon.{Signal, always_true, at, Check, range_check, obligation, Mon, check, And}
use Rattle.monitor.specs.Compile.{when, consequent, faults, implication, node, rule_faults, rule_node}
use Rattle.meaning.specs.Alarm.{Record, truth, window_end, Broken, CheckAlarm, Alarm}
use Rattle.meaning.specs.Logic.{Holds, Fails}
use Rattle.meaning.specs.Plain.{Pure, Body, signal, next_signal, delayed, soon, answered, both, again, Plain, plain_always, plain_always_for, plain_within, plain_answered, plain_and}
use Rattle.meaning.proofs.Truths.{and_true, true_and, and_false, false_and, or_false, false_or}
use Rattle.meaning.proofs.Logics.{valued}

-- ---- a plain rule has no fault
unless_none : (b : Bool) (n : Refusal) → b ≡ true → unless b n ≡ []
unless_none b n e = rw e refl

pure_consequent : (f : Formula) → Pure f → consequent f ≡ []
unfolding consequent pure
pure_consequent (leaf a) p = refl
pure_consequent (one not f) p = unless_none (pure f) Consequent p
pure_consequent (one next f) p = true_false p refl
pure_consequent (one always f) p = true_false p refl
pure_consequent (one eventually f) p = true_false p refl
pure_consequent (one (always_for b) f) p = true_false p refl
pure_consequent (one (within b) f) p = true_false p refl
pure_consequent (two o l r) p = unless_none (pure (two o l r)) Consequent p

no_faults : (a b : List Refusal) → a ≡ [] → b ≡ [] → a ++ b ≡ []
no_faults a b p q = rw (p, q) refl

pub pure_faults : (f : Formula) (temporal : Bool) → Pure f → faults f temporal ≡ []
unfolding faults pure
pure_faults (leaf a) x p = refl
pure_faults (one not f) x p = unless_none (pure f) NotOperand p
pure_faults (one next f) x p = true_false p refl
pure_faults (one always f) x p = true_false p refl
pure_faults (one eventually f) x p = true_false p refl
pure_faults (one (always_for b) f) x p = true_false p refl
pure_faults (one (within b) f) x p = true_false p refl
pure_faults (two and l r) x p = let q = and_true (pure l) (pure r) p in no_faults _ _ (pure_faults l x q.0) (pure_faults r x q.1)
pure_faults (two or l r) x p = let q = and_true (pure l) (pure r) p in no_faults _ _ (pure_faults l x q.0) (pure_faults r x q.1)
pure_faults (two implies l r) x p = let q = and_true (pure l) (pure r) p in no_faults _ _ (unless_none (pure l) Antecedent q.0) (pure_consequent r q.1)
pure_faults (two until l r) x p = true_false p refl

pub body_faults : {x : Bool} {f : Formula} → Body x f → faults f true ≡ []
unfolding faults consequent
body_faults (signal {f = f} p) = pure_faults f true p
body_faults (next_signal {f = f} p) = unless_none (pure f) NextOperand p
body_faults (delayed {l = l} {f = f} p q) = no_faults _ _ (unless_none (pure l) Antecedent p) (unless_none (pure f) NextConsequent q)
body_faults (soon {f = f} p) = unless_none (pure f) WithinOperand p
body_faults (answered {l = l} {f = f} p q) = no_faults _ _ (unless_none (pure l) Antecedent p) (unless_none (pure f) WithinOperand q)
body_faults (both b c) = no_faults _ _ (body_faults b) (body_faults c)
body_faults (again e b) = body_faults b

pub plain_faults : {f : Formula} → Plain f → rule_faults f ≡ []
unfolding faults consequent
plain_faults (plain_always b) = body_faults b
plain_faults (plain_always_for {b = b} {f = f} z p) = no_faults (when (eqb b 0) ZeroFor) (faults f true) (ap (λ (x : Bool). when x ZeroFor) (ne_eqb b 0 (λ e. omega arith))) (body_faults p)
plain_faults (plain_within {f = f} p) = unless_none (pure f) WithinOperand p
plain_faults (plain_answered {l = l} {f = f} p q) = no_faults _ _ (unless_none (pure l) Antecedent p) (unless_none (pure f) WithinOperand q)
plain_faults (plain_and b c) = no_faults _ _ (plain_faults b) (plain_faults c)

-- ---- ranges
all_in : (t : ℕ) → contains_of all_of t ≡ true
all_in t = true_and (leb-zero t) refl

later_not_past : (e : End) (t : ℕ) → not_past (later e) (t + 1) ≡ not_past e t
later_not_past (Step n) t = rw (add-one, add-one) (leb-suc-suc t n)
later_not_past Open t = refl

shifted_in : (r : AnchorRange) (t : ℕ) → contains_of (shifted_of r) (t + 1) ≡ contains_of r t
shifted_in r t = ap₂ ◌&&◌ (ap₂ leb (add-one r.from) (add-one t) ∙ leb-suc-suc r.from t) (later_not_past r.to t)

shifted_from : (r : AnchorRange) (s : ℕ) → contains_of (shifted_of r) s ≡ true → 1 ≤ s
shifted_from r s e =
    let z : r.from + 1 ≤ s = leb-true _ _ (and_true (leb (r.from + 1) s) (not_past (later r.to) s) e).0 in
    omega arith

upto_in : (n t : ℕ) → t ≤ n → contains_of (upto_of n) t ≡ true
upto_in n t z = true_and (leb-zero t) (le-leb t n z)

in_upto : (n t : ℕ) → contains_of (upto_of n) t ≡ true → t ≤ n
in_upto n t e = leb-true t n (and_true (leb 0 t) (leb t n) e).1

-- ---- the node of a pure formula alarms where the formula is false
pure_implication : (l c : Formula) (i j : ℕ) (r : AnchorRange) (x : Bool) → Pure c → implication l c i j r x ≡ range_check (at i (two implies l c)) r
unfolding implication pure
pure_implication l (leaf a) i j r x p = refl
pure_implication l (one not f) i j r x p = refl
pure_implication l (one next f) i j r x p = true_false p refl
pure_implication l (one always f) i j r x p = true_false p refl
pure_implication l (one eventually f) i j r x p = true_false p refl
pure_implication l (one (always_for b) f) i j r x p = true_false p refl
pure_implication l (one (within b) f) i j r x p = true_false p refl
pure_implication l (two o m n) i j r x p = refl

abbrev Off : Formula → AnchorRange → Record → ℕ → Type 0
Off f r rec s = (contains_of r s ≡ true) × (value f (rec s) ≡ false)

pure_alarm : (f : Formula) (i : ℕ) (r : AnchorRange) (x : Bool) (rec : Record) (s : ℕ) → Pure f → Alarm (node f i r x) rec s ↔ Off f r rec s
unfolding node Alarm CheckAlarm truth pure value
pure_alarm (leaf a) i r x rec s p = (λ h. h, λ h. h)
pure_alarm (one not f) i r x rec s p = (λ h. h, λ h. h)
pure_alarm (one next f) i r x rec s p = true_false p refl
pure_alarm (one always f) i r x rec s p = true_false p refl
pure_alarm (one eventually f) i r x rec s p = true_false p refl
pure_alarm (one (always_for b) f) i r x rec s p = true_false p refl
pure_alarm (one (within b) f) i r x rec s p = true_false p refl
pure_alarm (two and l c) i r x rec s p =
    let q = and_true (pure l) (pure c) p in
    let f = pure_alarm l (i + 1) r x rec s q.0 in
    let g = pure_alarm c (i + 1 + size l) r x rec s q.1 in (
      ⊎_elim (λ h. let k = f.0 h in (k.0, false_and (value l (rec s)) (value c (rec s)) (inl k.1))) (λ h. let k = g.0 h in (k.0, false_and (value l (rec s)) (value c (rec s)) (inr k.1))),
      λ h. ⊎_elim (λ k. inl (f.1 (h.0, k))) (λ k. inr (g.1 (h.0, k))) (and_false (value l (rec s)) (value c (rec s)) h.1),
    )
pure_alarm (two or l c) i r x rec s p =
    let q = and_true (pure l) (pure c) p in
    let f = pure_alarm l (i + 1) r x rec s q.0 in
    let g = pure_alarm c (i + 1 + size l) r x rec s q.1 in (
      λ h. let k = f.0 h.0 in (k.0, false_or k.1 (g.0 h.1).1),
      λ h. let k = or_false (value l (rec s)) (value c (rec s)) h.1 in (f.1 (h.0, k.0), g.1 (h.0, k.1)),
    )
pure_alarm (two implies l c) i r x rec s p = subst
    (λ (y : Check). CheckAlarm y rec s ↔ Off (two implies l c) r rec s)
    (sym (pure_implication l c i (i + 1 + size l) r x (and_true (pure l) (pure c) p).1))
    (λ h. h, λ h. h)
pure_alarm (two until l c) i r x rec s p = true_false p refl

-- ---- a search through a window
search_window : (body : ℕ → Bool) (t n : ℕ) → ((u : ℕ) × (t ≤ u) × (u < t + n) × (body u ≡ true)) ⊎ ((u : ℕ) → t ≤ u → u < t + n → body u ≡ false)
search_window body t zero = inr (λ u y z. absurd (omega arith))
search_window body t (suc n) = ⊎_elim
    (λ (u, y, z, e). inl (u, y, omega arith, e))
    (λ h. ⊎_elim
    (λ e. inl (t + n, omega arith, omega arith, e))
    (λ e. inr (λ u y z. ⊎_elim (λ q. h u y q) (λ q. subst (λ (v : ℕ). body v ≡ false) (omega arith) e) (below_or u (t + n))))
    (true_or (body (t + n))))
    (search_window body t n)

-- ---- a check of F at the steps of a range: it alarms where F is false, and if it never does F is true throughout
pub record Exact (f : Formula) (r : AnchorRange) (rec : Record) (m : Mon) : Type 0 where
  pub sound : (s : ℕ) → Alarm m rec s → (t : ℕ) × (contains_of r t ≡ true) × Fails f rec t
  pub complete : (t : ℕ) → contains_of r t ≡ true → Fails f rec t → (s : ℕ) × Alarm m rec s
  pub silent : ((s : ℕ) → Alarm m rec s → ⊥) → (t : ℕ) → contains_of r t ≡ true → Holds f rec t

module _ (rec : Record) (i : ℕ) (r : AnchorRange) where
  exact_pure : (f : Formula) → Pure f → Exact f r rec (node f i r true)
  exact_pure f p =
      let a : (s : ℕ) → Alarm (node f i r true) rec s ↔ Off f r rec s = λ s. pure_alarm f i r true rec s p in
      record {
        sound = λ s h. let k = (a s).0 h in (s, k.0, (valued f rec s p).fails k.1);
        complete = λ t c h. (t, (a t).1 (c, (valued f rec t p).is_false h));
        silent = λ h t c. ⊎_elim (λ e. (valued f rec t p).holds e) (λ e. absurd (h t ((a t).1 (c, e)))) (true_or (value f (rec t)));
      }

  exact_next : (f : Formula) → Pure f → Exact (one next f) r rec (node (one next f) i r true)
  unfolding node Alarm CheckAlarm truth Holds Fails
  exact_next f p = record {
    sound = λ s (c, e).
        let z : s ≡ s - 1 + 1 = omega (arith, shifted_from r s c) in
        (s - 1, sym (shifted_in r (s - 1)) ∙ subst (λ (v : ℕ). contains_of (shifted_of r) v ≡ true) z c, (valued f rec (s - 1 + 1) p).fails (subst (λ (v : ℕ). value f (rec v) ≡ false) z e));
    complete = λ t c h. (t + 1, (shifted_in r t ∙ c, (valued f rec (t + 1) p).is_false h));
    silent = λ h t c. ⊎_elim (λ e. (valued f rec (t + 1) p).holds e) (λ e. absurd (h (t + 1) (shifted_in r t ∙ c, e))) (true_or (value f (rec (t + 1))));
  }

  module _ (l f : Formula) (p : Pure l) (q : Pure f) where
    broken_at : (t : ℕ) → contains_of r t ≡ true → value l (rec t) ≡ true → value f (rec (t + 1)) ≡ false → Broken (at (i + 1) l) (at (i + 1 + size l + 1) f) (shifted_of r) rec (t + 1) (t + 1)
    unfolding truth
    broken_at t c a e = record {
      from_one = omega arith;
      by_now = omega arith;
      in_range = shifted_in r t ∙ c;
      antecedent = subst (λ (v : ℕ). value l (rec v) ≡ true) (omega arith) a;
      consequent = e;
    }

    exact_delayed : Exact (two implies l (one next f)) r rec (node (two implies l (one next f)) i r true)
    unfolding node implication Alarm CheckAlarm truth Holds Fails
    exact_delayed = record {
      sound = λ s (u, h).
          let z : u ≡ u - 1 + 1 = omega (arith, h.from_one) in
          (u - 1, sym (shifted_in r (u - 1)) ∙ subst (λ (v : ℕ). contains_of (shifted_of r) v ≡ true) z h.in_range, ((valued l rec (u - 1) p).holds h.antecedent, (valued f rec (u - 1 + 1) q).fails (subst (λ (v : ℕ). value f (rec v) ≡ false) z h.consequent)));
      complete = λ t c h. (t + 1, (t + 1, broken_at t c ((valued l rec t p).is_true h.0) ((valued f rec (t + 1) q).is_false h.1)));
      silent = λ h t c. ⊎_elim
          (λ a. ⊎_elim
          (λ e. inr ((valued f rec (t + 1) q).holds e))
          (λ e. absurd (h (t + 1) (t + 1, broken_at t c a e)))
          (true_or (value f (rec (t + 1)))))
          (λ a. inl ((valued l rec t p).fails a))
          (true_or (value l (rec t)));
    }

-- ---- obligations
module _ (rec : Record) (b : ℕ) (p : Signal) (j : ℕ) (f : Formula) (r : AnchorRange) (q : Pure f) where
  Window : Mon
  Window = check (obligation b p (at j f) r)

  window_sound : (s : ℕ) → Alarm Window rec s → (t : ℕ) × (contains_of r t ≡ true) × (truth p (rec t) ≡ true) × Fails (one (within b) f) rec t
  unfolding Window Alarm CheckAlarm truth Fails
  window_sound s (t, h) =
      let (c, e) = and_true (contains_of r t) (truth p (rec t)) h.missed.triggered in
      (t, c, e, λ u y z. (valued f rec u q).fails (h.missed.bodiless u y z))

  window_complete : (t : ℕ) → contains_of r t ≡ true → truth p (rec t) ≡ true → Fails (one (within b) f) rec t → (s : ℕ) × Alarm Window rec s
  unfolding Window Alarm CheckAlarm truth Fails
  window_complete t c e h = (
    window_end b t,
    (
      t,
      record {
        missed = record { triggered = true_and c e; bodiless = λ u y z. (valued f rec u q).is_false (h u y z) };
        ended = omega arith;
      },
    ),
  )

  window_silent : ((s : ℕ) → Alarm Window rec s → ⊥) → (t : ℕ) → contains_of r t ≡ true → truth p (rec t) ≡ true → Holds (one (within b) f) rec t
  unfolding Window Alarm CheckAlarm truth Holds
  window_silent h t c e = ⊎_elim
      (λ (u, y, z, v). (u, y, omega arith, (valued f rec u q).holds v))
      (λ v. absurd (h (window_end b t) (t, record { missed = record { triggered = true_and c e; bodiless = λ u y z. v u y (omega arith) }; ended = omega arith })))
      (search_window (λ u. value f (rec u)) t (max b 1))

module _ (rec : Record) (b : ℕ) (f : Formula) (j : ℕ) (r : AnchorRange) (q : Pure f) where
  exact_soon : Exact (one (within b) f) r rec (check (obligation b always_true (at j f) r))
  unfolding truth Window
  exact_soon = record {
    sound = λ s h. let (t, c, e, k) = window_sound rec b always_true j f r q s h in (t, c, k);
    complete = λ t c h. window_complete rec b always_true j f r q t c refl h;
    silent = λ h t c. window_silent rec b always_true j f r q h t c refl;
  }

  exact_answered : (l : Formula) (i : ℕ) → Pure l → Exact (two implies l (one (within b) f)) r rec (check (obligation b (at i l) (at j f) r))
  unfolding truth Window Holds Fails
  exact_answered l i p = record {
    sound = λ s h. let (t, c, e, k) = window_sound rec b (at i l) j f r q s h in (t, c, ((valued l rec t p).holds e, k));
    complete = λ t c h. window_complete rec b (at i l) j f r q t c ((valued l rec t p).is_true h.0) h.1;
    silent = λ h t c. ⊎_elim
        (λ e. inr (window_silent rec b (at i l) j f r q h t c e))
        (λ e. inl ((valued l rec t p).fails e))
        (true_or (value l (rec t)));
  }

exact_and : (l c : Formula) (r : AnchorRange) (rec : Record) (m n : Mon) → Exact l r rec m → Exact c r rec n → Exact (two and l c) r rec (And m n)
unfolding Alarm Holds Fails
exact_and l c r rec m n f g = record {
  sound = λ s. ⊎_elim
      (λ a. let (t, i, e) = f.sound s a in (t, i, inl e))
      (λ a. let (t, i, e) = g.sound s a in (t, i, inr e));
  complete = λ t i. ⊎_elim
      (λ e. let (s, a) = f.complete t i e in (s, inl a))
      (λ e. let (s, a) = g.complete t i e in (s, inr a));
  silent = λ h t i. (f.silent (λ s a. h s (inl a)) t i, g.silent (λ s a. h s (inr a)) t i);
}

exact_again : (f : Formula) (r : AnchorRange) (rec : Record) (m : Mon) → ((t : ℕ) → contains_of r t ≡ true) → Exact f r rec m → Exact (one always f) r rec m
unfolding Holds Fails
exact_again f r rec m all x = record {
  sound = λ s a. let (t, i, e) = x.sound s a in (t, i, (t, omega arith, e));
  complete = λ t i (u, z, e). x.complete u (all u) e;
  silent = λ h t i u z. x.silent h u (all u);
}

-- ---- what may stand below `always` and `always-for`
pub body_exact : {unbounded : Bool} {f : Formula} → Body unbounded f → (rec : Record) (i : ℕ) (r : AnchorRange)
    → (unbounded ≡ true → (t : ℕ) → contains_of r t ≡ true) → Exact f r rec (node f i r true)
unfolding node implication
body_exact (signal {f = f} p) rec i r all = exact_pure rec i r f p
body_exact (next_signal {f = f} p) rec i r all = exact_next rec i r f p
body_exact (delayed {l = l} {f = f} p q) rec i r all = exact_delayed rec i r l f p q
body_exact (soon {b = b} {f = f} p) rec i r all = exact_soon rec b f (i + 1) r p
body_exact (answered {b = b} {l = l} {f = f} p q) rec i r all = exact_answered rec b f (i + 1 + size l + 1) r q l (i + 1) p
body_exact (both {l = l} {r = c} b d) rec i r all = exact_and l c r rec _ _ (body_exact b rec (i + 1) r all) (body_exact d rec (i + 1 + size l) r all)
body_exact (again {f = f} e b) rec i r all = exact_again f r rec _ (all e) (body_exact b rec (i + 1) r all)

-- ---- plain rules
pub record ExactRule (f : Formula) (rec : Record) (m : Mon) : Type 0 where
  pub sound : (s : ℕ) → Alarm m rec s → Fails f rec 0
  pub complete : Fails f rec 0 → (s : ℕ) × Alarm m rec s
  pub silent : ((s : ℕ) → Alarm m rec s → ⊥) → Holds f rec 0

-- a check at step 0 alone
at_zero : (f : Formula) (rec : Record) (m : Mon) → Exact f (upto_of 0) rec m → ExactRule f rec m
at_zero f rec m x = record {
  sound = λ s a. let (t, i, e) = x.sound s a in let z : t ≤ 0 = in_upto 0 t i in subst (Fails f rec) (omega arith) e;
  complete = x.complete 0 (upto_in 0 0 (omega arith));
  silent = λ h. x.silent h 0 (upto_in 0 0 (omega arith));
}

exact_always : (f : Formula) (rec : Record) (m : Mon) → Exact f all_of rec m → ExactRule (one always f) rec m
unfolding Holds Fails
exact_always f rec m x = record {
  sound = λ s a. let (t, i, e) = x.sound s a in (t, omega arith, e);
  complete = λ (u, z, e). x.complete u (all_in u) e;
  silent = λ h u z. x.silent h u (all_in u);
}

exact_always_for : (b : ℕ) (f : Formula) (rec : Record) (m : Mon) → 1 ≤ b → Exact f (upto_of (b - 1)) rec m → ExactRule (one (always_for b) f) rec m
unfolding Holds Fails
exact_always_for b f rec m p x = record {
  sound = λ s a. let (t, i, e) = x.sound s a in let z : t ≤ b - 1 = in_upto (b - 1) t i in (t, omega arith, omega arith, e);
  complete = λ (u, y, z, e). x.complete u (upto_in (b - 1) u (omega arith)) e;
  silent = λ h u y z. x.silent h u (upto_in (b - 1) u (omega arith));
}

exact_both : (l c : Formula) (rec : Record) (m n : Mon) → ExactRule l rec m → ExactRule c rec n → ExactRule (two and l c) rec (And m n)
unfolding Alarm Holds Fails
exact_both l c rec m n f g = record {
  sound = λ s. ⊎_elim (λ a. inl (f.sound s a)) (λ a. inr (g.sound s a));
  complete = ⊎_elim (λ e. let (s, a) = f.complete e in (s, inl a)) (λ e. let (s, a) = g.complete e in (s, inr a));
  silent = λ h. (f.silent (λ s a. h s (inl a)), g.silent (λ s a. h s (inr a)));
}

pub plain_exact : {f : Formula} → Plain f → (rec : Record) (i : ℕ) → ExactRule f rec (rule_node f i)
unfolding node implication
plain_exact (plain_always {f = f} b) rec i = exact_always f rec _ (body_exact b rec (i + 1) all_of (λ e. all_in))
plain_exact (plain_always_for {b = b} {f = f} z p) rec i = exact_always_for b f rec _ z (body_exact p rec (i + 1) (upto_of (b - 1)) (λ e. true_false e refl))
plain_exact (plain_within {b = b} {f = f} p) rec i = at_zero (one (within b) f) rec _ (exact_soon rec b f (i + 1) (upto_of 0) p)
plain_exact (plain_answered {b = b} {l = l} {f = f} p q) rec i = at_zero (two implies l (one (within b) f)) rec _ (exact_answered rec b f (i + 1 + size l + 1) (upto_of 0) q l (i + 1) p)
plain_exact (plain_and {l = l} {r = c} b d) rec i = exact_both l c rec _ _ (plain_exact b rec (i + 1)) (plain_exact d rec (i + 1 + size l))
