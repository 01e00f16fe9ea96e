-- The order of reports: by step line and then by rule. In ascending order, a list is fixed by what stands in it.
use mathlib.Core.Path.{◌≡◌, refl, sym, ap₂, subst, ◌∙◌}
use mathlib.Core.Bool.{Bool, true, false}
use mathlib.Core.List.{List, [], ◌∷◌, ◌++◌, append_assoc}
use mathlib.Core.Logic.{◌⊎◌, inl, inr, ⊎_elim, ◌↔◌}
use Prim.Native.Nat.{ℕ, zero, suc, ◌≤◌, ◌<◌}
use native.Mathlib.Omega.{arith}
use Rattle.terms.specs.Choice.{pick}
use Rattle.book.specs.Book.{StepLine}
use Rattle.listing_rules.specs.Rules.{Rule}
use Rattle.listing_reports.specs.Reports.{States, next_states, Report, breaks, report_of, reports_at, reports}
use Rattle.listing_means.specs.Reports.{◌∈◌, Earlier, Ascending}

-- reports from place i and rule r on: each has a later place, or place i and rule r or a later one; the next has its place and a later rule, or a later place
abbrev From : ℕ → ℕ → List Report → Type 0
From i r [] = Unit {0}
From i r (p ∷ ps) = ((i < p.place) ⊎ ((i ≡ p.place) × (r ≤ p.rule))) × From p.place (suc p.rule) ps

-- what begins behind a line may begin at any rule of it
behind : (i r : ℕ) (ps : List Report) → From (suc i) 0 ps → From i r ps
behind i r [] h = tt
behind i r (p ∷ ps) (w, t) = (⊎_elim (λ z. inl (omega arith)) (λ (z, y). inl (omega arith)) w, t)

module _ (R : ℕ → Rule) (st : States R) (i : ℕ) (x : StepLine) where
  -- rule q's own report, if it has one
  one : (q r : ℕ) (t : Bool) (rest : List Report) → r ≤ q → ((k : ℕ) → k ≤ suc q → From i k rest) → From i r (pick t (report_of R st i x q ∷ []) [] ++ rest)
  unfolding report_of
  one q r true rest h f = (inr (refl, h), f (suc q) (omega arith))
  one q r false rest h f = f r (omega arith)

  -- the reports of one line, in front of what follows it
  front : (n : ℕ) (rest : List Report) → ((k : ℕ) → k ≤ n → From i k rest) → From i 0 (reports_at R st i x n ++ rest)
  unfolding reports_at
  front zero rest f = f 0 (omega arith)
  front (suc q) rest f =
      subst (From i 0) (sym (append_assoc (reports_at R st i x q) (pick (breaks R st x q) (report_of R st i x q ∷ []) []) rest))
      (front q (pick (breaks R st x q) (report_of R st i x q ∷ []) [] ++ rest) (λ k z. one q k (breaks R st x q) rest z f))

from_place : (R : ℕ → Rule) (n : ℕ) (st : States R) (i : ℕ) (xs : List StepLine) → From i 0 (reports R n st i xs)
unfolding reports
from_place R n st i [] = tt
from_place R n st i (x ∷ xs) =
    front R st i x n (reports R n (next_states R st x) (suc i) xs)
    (λ k z. behind i k (reports R n (next_states R st x) (suc i) xs) (from_place R n (next_states R st x) (suc i) xs))

follows : (i r : ℕ) (ps : List Report) → From i r ps → (q : Report) → q ∈ ps → (i < q.place) ⊎ ((i ≡ q.place) × (r ≤ q.rule))
follows i r [] h q z = absurd z
follows i r (p ∷ ps) (w, t) q z = ⊎_elim
    (λ (y : q ≡ p). subst (λ (u : Report). (i < u.place) ⊎ ((i ≡ u.place) × (r ≤ u.rule))) (sym y) w)
    (λ y. later w (follows p.place (suc p.rule) ps t q y))
    z
  where
    later :
        (i < p.place) ⊎ ((i ≡ p.place) × (r ≤ p.rule)) → (p.place < q.place) ⊎ ((p.place ≡ q.place) × (suc p.rule ≤ q.rule))
        → (i < q.place) ⊎ ((i ≡ q.place) × (r ≤ q.rule))
    later (inl a) (inl b) = inl (omega arith)
    later (inl a) (inr b) = inl (omega (arith, b.0))
    later (inr a) (inl b) = inl (omega (arith, a.0))
    later (inr a) (inr b) = inr (omega (arith, a.0, b.0), omega (arith, a.1, b.1))

ascends : (i r : ℕ) (ps : List Report) → From i r ps → Ascending ps
ascends i r [] h = tt
ascends i r (p ∷ ps) (w, t) = (λ q z. follows p.place (suc p.rule) ps t q z, ascends p.place (suc p.rule) ps t)

pub ascending : (R : ℕ → Rule) (n : ℕ) (st : States R) (xs : List StepLine) → Ascending (reports R n st 0 xs)
ascending R n st xs = ascends 0 0 (reports R n st 0 xs) (from_place R n st 0 xs)

-- ---- an order in which a list has no choice
not_both_ways : (p q : Report) {B : Type 0} → Earlier p q → Earlier q p → B
not_both_ways p q (inl a) (inl b) = absurd (omega arith)
not_both_ways p q (inl a) (inr b) = absurd (omega (arith, b.0))
not_both_ways p q (inr a) (inl b) = absurd (omega (arith, a.0))
not_both_ways p q (inr a) (inr b) = absurd (omega (arith, a.1, b.1))

heads : (p q : Report) (ps qs : List Report) → Ascending (p ∷ ps) → Ascending (q ∷ qs) → p ∈ (q ∷ qs) → q ∈ (p ∷ ps) → p ≡ q
heads p q ps qs a b (inl e) k = e
heads p q ps qs a b (inr h) (inl e) = sym e
heads p q ps qs a b (inr h) (inr k) = not_both_ways p q (a.0 q k) (b.0 p h)

-- what stands behind a head stands behind the other list's equal head
tails : (p q : Report) (ps qs : List Report) → Ascending (p ∷ ps) → p ≡ q → (r : Report) → r ∈ ps → r ∈ (q ∷ qs) → r ∈ qs
tails p q ps qs a e r h (inl z) =
    let x : Earlier p p = subst (Earlier p) (z ∙ sym e) (a.0 r h) in
    not_both_ways p p x x
tails p q ps qs a e r h (inr k) = k

pub same_list : (ps qs : List Report) → Ascending ps → Ascending qs → ((p : Report) → (p ∈ ps) ↔ (p ∈ qs)) → ps ≡ qs
same_list [] [] a b f = refl
same_list [] (q ∷ qs) a b f = absurd ((f q).1 (inl refl))
same_list (p ∷ ps) [] a b f = absurd ((f p).0 (inl refl))
same_list (p ∷ ps) (q ∷ qs) a b f =
    let e : p ≡ q = heads p q ps qs a b ((f p).0 (inl refl)) ((f q).1 (inl refl)) in
    ap₂ ◌∷◌ e (same_list ps qs a.1 b.1 (λ r. (
      λ h. tails p q ps qs a e r h ((f r).0 (inr h)),
      λ h. tails q p qs ps b (sym e) r h ((f r).1 (inr h)),
    )))
