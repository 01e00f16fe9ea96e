-- What is reported over step lines of any numbers: one call a line.
use mathlib.Core.Path.{◌≡◌, refl, sym, ap, subst, ◌∙◌}
use mathlib.Core.Bool.{Bool, true, false, ◌&&◌}
use mathlib.Core.Bool as bool
use mathlib.Core.List.{List, [], ◌∷◌}
use mathlib.Core.Logic.{⊎_elim, ◌↔◌}
use Prim.Native.Nat.{ℕ, zero, suc, ◌+◌, ◌<◌}
use native.Mathlib.Omega.{arith}
use native.Mathlib.Nat.{add-zero, zero-add}
use Rattle.formula.proofs.Cases.{true_false}
use Rattle.meaning.specs.State.{failed}
use Rattle.book.specs.Book.{StepLine}
use Rattle.listing_rules.specs.Rules.{Rule, compiles, mon}
use Rattle.listing_reports.specs.Reports.{States, fresh_states, next_states, Report, breaks, report_of, reports_at, reports, book_reports}
use Rattle.listing_means.specs.Reports.{◌∈◌}
use Rattle.listing_means.specs.Called.{state_at, Called, alone}
use Rattle.listing_means.proofs.Members.{in_left, in_right, in_or, At, at_in, at_out}

-- newly broken: compiled, failed now, not failed before
pub broken_parts : (a b c : Bool) → (a && (b && bool.not c)) ≡ true → (a ≡ true) × (b ≡ true) × (c ≡ false)
broken_parts true true true e = true_false e refl
broken_parts true true false e = (refl, refl, refl)
broken_parts true false c e = true_false e refl
broken_parts false b c e = true_false e refl

pub broken_is : (a b c : Bool) → a ≡ true → b ≡ true → c ≡ false → (a && (b && bool.not c)) ≡ true
broken_is true true true x y z = true_false refl z
broken_is true true false x y z = refl
broken_is true false c x y z = true_false y refl
broken_is false b c x y z = true_false x refl

module _ (R : ℕ → Rule) (n : ℕ) where
  -- p is a report of one of the rules, at the line at place j of those from place i on
  abbrev From : ℕ → States R → List StepLine → Report → Type 0
  From i st xs p = (p.rule < n) × ((j : ℕ) × (p.place ≡ i + j) × Called (R p.rule) (st p.rule) xs j p.at p.culprit)

  first_line : (i : ℕ) (st : States R) (x : StepLine) (xs : List StepLine) (p : Report) → At R st i x n p → From i st (x ∷ xs) p
  unfolding state_at breaks report_of
  first_line i st x xs p (h, e, q) =
      let (a, b, c) = broken_parts (compiles (R p.rule)) (failed (mon (R p.rule)) (next_states R st x p.rule)) (failed (mon (R p.rule)) (st p.rule)) e in (
        h,
        (
          0,
          ap (λ (z : Report). z.place) q ∙ sym (add-zero i),
          record {
            rule_compiles = a;
            place_there = omega arith;
            line_is = ap (λ (z : Report). z.at) q;
            unfailed_before = c;
            failed_after = b;
            culprit_after = ap (λ (z : Report). z.culprit) q;
          },
        ),
      )

  later_line : (i : ℕ) (st : States R) (x : StepLine) (xs : List StepLine) (p : Report) → From (suc i) (next_states R st x) xs p → From i st (x ∷ xs) p
  unfolding state_at
  later_line i st x xs p (h, (j, e, k)) = (
    h,
    (
      suc j,
      omega (arith, e),
      record {
        rule_compiles = k.rule_compiles;
        place_there = omega (arith, k.place_there);
        line_is = k.line_is;
        unfailed_before = k.unfailed_before;
        failed_after = k.failed_after;
        culprit_after = k.culprit_after;
      },
    ),
  )

  called_from : (i : ℕ) (st : States R) (xs : List StepLine) (p : Report) → p ∈ reports R n st i xs → From i st xs p
  unfolding reports
  called_from i st [] p h = absurd h
  called_from i st (x ∷ xs) p h = ⊎_elim
      (λ l. first_line i st x xs p (at_in R st i x p n l))
      (λ l. later_line i st x xs p (called_from (suc i) (next_states R st x) xs p l))
      (in_or p (reports_at R st i x n) (reports R n (next_states R st x) (suc i) xs) h)

  here :
      (i : ℕ) (st : States R) (x : StepLine) (xs : List StepLine) (p : Report) → p.rule < n → p.place ≡ i
      → Called (R p.rule) (st p.rule) (x ∷ xs) 0 p.at p.culprit → p ∈ reports_at R st i x n
  unfolding state_at breaks report_of
  here i st x xs p h o k =
      let e : breaks R st x p.rule ≡ true = broken_is _ _ _ k.rule_compiles k.failed_after k.unfailed_before in
      let q : report_of R st i x p.rule ≡ p = λ t. record { place = sym o t; at = sym k.line_is t; rule = p.rule; culprit = sym k.culprit_after t } in
      subst (λ (z : Report). z ∈ reports_at R st i x n) q (at_out R st i x p.rule n h e)

  listed_from :
      (i : ℕ) (st : States R) (xs : List StepLine) (j : ℕ) (p : Report) → p.rule < n → p.place ≡ i + j
      → Called (R p.rule) (st p.rule) xs j p.at p.culprit → p ∈ reports R n st i xs
  unfolding reports state_at
  listed_from i st [] j p h o k = absurd (omega (arith, k.place_there))
  listed_from i st (x ∷ xs) zero p h o k = in_left p (reports_at R st i x n) (reports R n (next_states R st x) (suc i) xs) (here i st x xs p h (o ∙ add-zero i) k)
  listed_from i st (x ∷ xs) (suc j) p h o k =
      in_right p (reports_at R st i x n) (reports R n (next_states R st x) (suc i) xs) (listed_from (suc i) (next_states R st x) xs j p h (omega (arith, o)) (record {
        rule_compiles = k.rule_compiles;
        place_there = omega (arith, k.place_there);
        line_is = k.line_is;
        unfailed_before = k.unfailed_before;
        failed_after = k.failed_after;
        culprit_after = k.culprit_after;
      }))

  -- all step lines, from place 0 on
  abbrev pub Calls : States R → List StepLine → Report → Type 0
  Calls st xs p = (p.rule < n) × Called (R p.rule) (st p.rule) xs p.place p.at p.culprit

  pub called : (st : States R) (xs : List StepLine) (p : Report) → p ∈ reports R n st 0 xs → Calls st xs p
  called st xs p h =
      let (l, (j, o, k)) = called_from 0 st xs p h in
      (l, subst (λ (i : ℕ). Called (R p.rule) (st p.rule) xs i p.at p.culprit) (sym (o ∙ zero-add j)) k)

  pub listed : (st : States R) (xs : List StepLine) (p : Report) → Calls st xs p → p ∈ reports R n st 0 xs
  listed st xs p (l, k) = listed_from 0 st xs p.place p l (sym (zero-add p.place)) k

  pub called_iff : (st : States R) (xs : List StepLine) (p : Report) → (p ∈ reports R n st 0 xs) ↔ Calls st xs p
  called_iff st xs p = (called st xs p, listed st xs p)

-- a rule of a book, and the same rule in a book of its own
pub alone_iff :
    (R : ℕ → Rule) (n : ℕ) (xs : List StepLine) (p : Report)
    → (p ∈ book_reports R n xs) ↔ ((p.rule < n) × (alone p ∈ book_reports (λ r. R p.rule) 1 xs))
alone_iff R n xs p = (
  λ h. let (l, k) = called R n (fresh_states R) xs p h in (l, listed (λ r. R p.rule) 1 (fresh_states (λ r. R p.rule)) xs (alone p) (omega arith, k)),
  λ (l, h). let (z, k) = called (λ r. R p.rule) 1 (fresh_states (λ r. R p.rule)) xs (alone p) h in listed R n (fresh_states R) xs p (l, k),
)
