-- A report stands in two lists joined exactly where it stands in one of them; in what a step line adds exactly where its rule is newly broken.
use mathlib.Core.Path.{◌≡◌, refl, sym, ap, subst, ◌∙◌}
use mathlib.Core.Bool.{Bool, true, false}
use mathlib.Core.List.{List, [], ◌∷◌, ◌++◌}
use mathlib.Core.Logic.{◌⊎◌, inl, inr, ⊎_elim}
use Prim.Native.Nat.{ℕ, zero, suc, ◌<◌}
use native.Mathlib.Omega.{arith}
use Rattle.terms.specs.Choice.{pick}
use Rattle.formula.proofs.Cases.{below_or}
use Rattle.book.specs.Book.{StepLine}
use Rattle.listing_rules.specs.Rules.{Rule}
use Rattle.listing_reports.specs.Reports.{States, Report, breaks, report_of, reports_at}
use Rattle.listing_means.specs.Reports.{◌∈◌}

-- ---- joined lists
pub in_left : (p : Report) (ps qs : List Report) → p ∈ ps → p ∈ (ps ++ qs)
in_left p [] qs h = absurd h
in_left p (a ∷ ps) qs h = ⊎_elim (λ e. inl e) (λ t. inr (in_left p ps qs t)) h

pub in_right : (p : Report) (ps qs : List Report) → p ∈ qs → p ∈ (ps ++ qs)
in_right p [] qs h = h
in_right p (a ∷ ps) qs h = inr (in_right p ps qs h)

pub in_or : (p : Report) (ps qs : List Report) → p ∈ (ps ++ qs) → (p ∈ ps) ⊎ (p ∈ qs)
in_or p [] qs h = inr h
in_or p (a ∷ ps) qs h = ⊎_elim (λ e. inl (inl e)) (λ t. ⊎_elim (λ l. inl (inr l)) (λ r. inr r) (in_or p ps qs t)) h

-- ---- one step line
module _ (R : ℕ → Rule) (st : States R) (i : ℕ) (x : StepLine) where
  -- what p says where it stands among the reports of the line
  abbrev pub At : ℕ → Report → Type 0
  At n p = (p.rule < n) × (breaks R st x p.rule ≡ true) × (p ≡ report_of R st i x p.rule)

  at_one : (p : Report) (r : ℕ) (t : Bool) → breaks R st x r ≡ t → p ∈ pick t (report_of R st i x r ∷ []) [] → At (suc r) p
  unfolding report_of
  at_one p r true e h = ⊎_elim
      (λ (q : p ≡ report_of R st i x r).
      let o : r ≡ p.rule = sym (ap (λ (z : Report). z.rule) q) in
      (omega (arith, o), subst (λ (k : ℕ). breaks R st x k ≡ true) o e, subst (λ (k : ℕ). p ≡ report_of R st i x k) o q))
      (λ z. absurd z) h
  at_one p r false e h = absurd h

  pub at_in : (p : Report) (n : ℕ) → p ∈ reports_at R st i x n → At n p
  unfolding reports_at
  at_in p zero h = absurd h
  at_in p (suc r) h = ⊎_elim
      (λ l. let (o, e, q) = at_in p r l in (omega (arith, o), e, q))
      (λ l. at_one p r (breaks R st x r) refl l)
      (in_or p (reports_at R st i x r) (pick (breaks R st x r) (report_of R st i x r ∷ []) []) h)

  pub at_out : (r n : ℕ) → r < n → breaks R st x r ≡ true → report_of R st i x r ∈ reports_at R st i x n
  unfolding reports_at
  at_out r zero h e = absurd (omega arith)
  at_out r (suc k) h e = ⊎_elim
      (λ l. in_left (report_of R st i x r) (reports_at R st i x k) (pick (breaks R st x k) (report_of R st i x k ∷ []) []) (at_out r k l e))
      (λ l.
      let o : k ≡ r = omega arith in
      in_right (report_of R st i x r) (reports_at R st i x k) (pick (breaks R st x k) (report_of R st i x k ∷ []) [])
      (subst (λ (b : Bool). report_of R st i x r ∈ pick b (report_of R st i x k ∷ []) []) (sym (ap (breaks R st x) o ∙ e)) (inl (ap (report_of R st i x) (sym o)))))
      (below_or r k)
