-- A RULE IS REPORTED AT MOST ONCE, and there are no more reports than rules.
--     each_once      a rule's reports, over any step lines
--     report_once    the reports of the first n rules
use mathlib.Core.Path.{◌≡◌, refl, ap, subst, ◌∙◌}
use mathlib.Core.Bool.{Bool, true, false, ◌&&◌}
use mathlib.Core.Bool as bool
use mathlib.Core.List.{List, [], ◌∷◌, ◌++◌}
use Prim.Native.Nat.{ℕ, zero, suc, ◌+◌, ◌≤◌}
use native.Mathlib.Omega.{arith}
use borrow.Author.Tests.{eqb-true, ne_eqb}
use lib.Dec.{eqb}
use lib.ListN.{length, length-append}
use Rattle.terms.specs.Choice.{pick}
use Rattle.formula.proofs.Cases.{true_false}
use Rattle.meaning.specs.State.{failed}
use Rattle.meaning.proofs.Meaning.{stays_marked}
use Rattle.book.specs.Book.{StepLine}
use Rattle.listing_rules.specs.Rules.{Rule, compiles, mon}
use Rattle.listing_reports.specs.Reports.{States, next_states, Report, breaks, report_of, reports_at, reports}
use Rattle.listing_size.specs.Times.{times_of}

-- the first n rules whose monitors have not failed
unfailed : (R : ℕ → Rule) → States R → ℕ → ℕ
unfailed R st zero = 0
unfailed R st (suc r) = unfailed R st r + pick (failed (mon (R r)) (st r)) 0 1

unfailed_few : (R : ℕ → Rule) (st : States R) (n : ℕ) → unfailed R st n ≤ n
unfolding unfailed
unfailed_few R st zero = omega arith
unfailed_few R st (suc r) = omega (arith, unfailed_few R st r, one (failed (mon (R r)) (st r)))
  where
    one : (t : Bool) → pick t 0 1 ≤ 1
    one true = omega arith
    one false = omega arith

-- a report takes one from them
takes_one : (c f g : Bool) (p : Report) → (f ≡ true → g ≡ true) → length (pick (c && (g && bool.not f)) (p ∷ []) []) + pick g 0 1 ≤ pick f 0 1
takes_one true true true p h = omega arith
takes_one true true false p h = true_false (h refl) refl
takes_one true false true p h = omega arith
takes_one true false false p h = omega arith
takes_one false true true p h = omega arith
takes_one false true false p h = true_false (h refl) refl
takes_one false false true p h = omega arith
takes_one false false false p h = omega arith

at_once : (R : ℕ → Rule) (st : States R) (i : ℕ) (x : StepLine) (n : ℕ) → length (reports_at R st i x n) + unfailed R (next_states R st x) n ≤ unfailed R st n
unfolding unfailed reports_at breaks
at_once R st i x zero = omega arith
at_once R st i x (suc r) = omega (
  arith,
  length-append (reports_at R st i x r) (pick (breaks R st x r) (report_of R st i x r ∷ []) []),
  at_once R st i x r,
  takes_one (compiles (R r)) (failed (mon (R r)) (st r)) (failed (mon (R r)) (next_states R st x r)) (report_of R st i x r) (stays_marked (mon (R r)) (st r) x.number x.truths),
)

reports_few : (R : ℕ → Rule) (n : ℕ) (st : States R) (i : ℕ) (xs : List StepLine) → length (reports R n st i xs) ≤ unfailed R st n
unfolding reports
reports_few R n st i [] = omega arith
reports_few R n st i (x ∷ xs) = omega (
  arith,
  length-append (reports_at R st i x n) (reports R n (next_states R st x) (suc i) xs),
  at_once R st i x n,
  reports_few R n (next_states R st x) (suc i) xs,
)

pub report_once : (R : ℕ → Rule) (n : ℕ) (st : States R) (i : ℕ) (xs : List StepLine) → length (reports R n st i xs) ≤ n
report_once R n st i xs = omega (arith, reports_few R n st i xs, unfailed_few R st n)

-- ---- the reports of one rule
times_both : (q : ℕ) (s t : List Report) → times_of q (s ++ t) ≡ times_of q s + times_of q t
times_both q [] t = omega arith
times_both q (p ∷ s) t = omega (arith, times_both q s t)

times_few : (q : ℕ) (ps : List Report) → times_of q ps ≤ length ps
times_few q [] = omega arith
times_few q (p ∷ ps) = omega (arith, times_few q ps, one (eqb p.rule q))
  where
    one : (t : Bool) → pick t 1 0 ≤ 1
    one true = omega arith
    one false = omega arith

module _ (R : ℕ → Rule) (i : ℕ) (x : StepLine) where
  -- what rule r adds
  new : States R → ℕ → List Report
  new st r = pick (breaks R st x r) (report_of R st i x r ∷ []) []

  other : (st : States R) (q r : ℕ) → eqb r q ≡ false → times_of q (new st r) ≡ 0
  unfolding new report_of
  other st q r e = go (breaks R st x r)
    where
      go : (t : Bool) → times_of q (pick t (report_of R st i x r ∷ []) []) ≡ 0
      go true = ap (λ (t : Bool). pick t 1 0 + 0) e
      go false = refl

  -- none of the first n, where the rule is not among them
  not_yet : (st : States R) (q n : ℕ) → n ≤ q → times_of q (reports_at R st i x n) ≡ 0
  unfolding reports_at new
  not_yet st q zero h = refl
  not_yet st q (suc r) h =
      times_both q (reports_at R st i x r) (new st r)
      ∙ omega (arith, not_yet st q r (omega arith), other st q r (ne_eqb r q (λ z. omega (arith, z))))

  abbrev left : States R → ℕ → ℕ
  left st q = pick (failed (mon (R q)) (st q)) 0 1

  own : (st : States R) (r : ℕ) → times_of r (reports_at R st i x (suc r)) + left (next_states R st x) r ≤ left st r
  unfolding reports_at breaks new
  own st r = omega (
    arith,
    times_both r (reports_at R st i x r) (new st r),
    not_yet st r r (omega arith),
    times_few r (new st r),
    takes_one (compiles (R r)) (failed (mon (R r)) (st r)) (failed (mon (R r)) (next_states R st x r)) (report_of R st i x r) (stays_marked (mon (R r)) (st r) x.number x.truths),
  )

  once_at : (st : States R) (q n : ℕ) → times_of q (reports_at R st i x n) + left (next_states R st x) q ≤ left st q
  unfolding reports_at new
  once_at st q zero = stays (failed (mon (R q)) (st q)) (failed (mon (R q)) (next_states R st x q)) (stays_marked (mon (R q)) (st q) x.number x.truths)
    where
      stays : (f g : Bool) → (f ≡ true → g ≡ true) → 0 + pick g 0 1 ≤ pick f 0 1
      stays true true h = omega arith
      stays true false h = true_false (h refl) refl
      stays false true h = omega arith
      stays false false h = omega arith
  once_at st q (suc r) = go (eqb r q) refl (once_at st q r)
    where
      go :
          (t : Bool) → eqb r q ≡ t → times_of q (reports_at R st i x r) + left (next_states R st x) q ≤ left st q
          → times_of q (reports_at R st i x (suc r)) + left (next_states R st x) q ≤ left st q
      go true e h = subst (λ (k : ℕ). times_of k (reports_at R st i x (suc r)) + left (next_states R st x) k ≤ left st k) (eqb-true r q e) (own st r)
      go false e h = omega (arith, times_both q (reports_at R st i x r) (new st r), other st q r e)

once_from : (R : ℕ → Rule) (n : ℕ) (st : States R) (i : ℕ) (xs : List StepLine) (q : ℕ) → times_of q (reports R n st i xs) ≤ pick (failed (mon (R q)) (st q)) 0 1
unfolding reports
once_from R n st i [] q = omega arith
once_from R n st i (x ∷ xs) q = omega (
  arith,
  times_both q (reports_at R st i x n) (reports R n (next_states R st x) (suc i) xs),
  once_at R i x st q n,
  once_from R n (next_states R st x) (suc i) xs q,
)

pub each_once : (R : ℕ → Rule) (n : ℕ) (st : States R) (i : ℕ) (xs : List StepLine) (q : ℕ) → times_of q (reports R n st i xs) ≤ 1
each_once R n st i xs q = go (failed (mon (R q)) (st q)) (once_from R n st i xs q)
  where
    go : (t : Bool) → times_of q (reports R n st i xs) ≤ pick t 0 1 → times_of q (reports R n st i xs) ≤ 1
    go true h = omega arith
    go false h = h
