-- The search for the first earlier rule that is alike.
--     Passed    no rule below q is like rule r
use mathlib.Core.Path.{◌≡◌, refl, sym, ap, ap₂, subst, ◌∙◌}
use mathlib.Core.Bool.{Bool, true, false, ◌&&◌}
use mathlib.Core.Logic.{⊎_elim}
use mathlib.Core.List.{List}
use Prim.Native.Nat.{ℕ, zero, suc, ◌+◌, ◌≤◌, ◌<◌}
use native.Mathlib.Omega.{arith}
use native.Mathlib.Numerals.{add-one}
use lib.ListN.{get_or}
use Rattle.formula.proofs.Cases.{below_or}
use Rattle.alike.specs.Alike.{alike_mon, part_of, alike_some}
use Rattle.alike.specs.Rows.{IsCompiled}
use Rattle.monitor.specs.declared.table.Part.{Part}
use Rattle.plan.specs.Book.{part_at}
use Rattle.std.specs.Prelude.{None, Option, Some}
use Rattle.listing_rules.specs.Rules.{Rule, compiles, mon, like_of, or_at, first_below}
use Rattle.listing_rules.specs.Tabled.{Tabled}
use Rattle.listing_rules.specs.Answers.{KnownRule, Like, Earlier}
use Rattle.listing_rules.proofs.Refusals.{zero_compiles, other_refused}

-- ---- the least number
or_at_lem : (a : Option ℕ) (b : Bool) (q : ℕ) → a ≡ None → b ≡ true → or_at a b q ≡ Some q
or_at_lem a b q e f = ap₂ (λ (x : Option ℕ) (y : Bool). or_at x y q) e f

or_none : (a : Option ℕ) (b : Bool) (q : ℕ) → a ≡ None → b ≡ false → or_at a b q ≡ None
or_none a b q e f = ap₂ (λ (x : Option ℕ) (y : Bool). or_at x y q) e f

module _ (like : ℕ → Bool) (q : ℕ) (e : first_below like q ≡ None) where
  none_more : like q ≡ false → first_below like (q + 1) ≡ None
  unfolding first_below
  none_more f = ap (first_below like) (add-one q) ∙ or_none (first_below like q) (like q) q e f

  found_below : like q ≡ true → (r : ℕ) → q < r → first_below like r ≡ Some q
  unfolding first_below
  found_below f zero h = absurd (omega arith)
  found_below f (suc r) h = ⊎_elim
      (λ l. ap (λ (x : Option ℕ). or_at x (like r) r) (found_below f r l))
      (λ l.
      let z : q ≡ r = omega arith in
      subst (λ (k : ℕ). or_at (first_below like k) (like k) k ≡ Some q) z (or_at_lem (first_below like q) (like q) q e f))
      (below_or q r)

-- ---- two rules of the tables
module _ (ops nums firsts counts nodes nfirsts ncounts refusals : List ℕ) where
  abbrev part : ℕ → Part
  part r = part_at firsts counts nfirsts ncounts r

  module _ (r : ℕ) (k : KnownRule ops nums firsts counts nodes nfirsts ncounts refusals r) where
    pub second_compiled : (p : Part) → p ≡ part r → IsCompiled ops nums nodes p
    second_compiled p d = subst (IsCompiled ops nums nodes) (sym d) record { mon = mon (k.rules r); is = k.tabled.compiled r k.inside k.compiled }

    module _ (q : ℕ) (h : q < r) where
      pub first_compiled : get_or refusals q 0 ≡ 0 → (p : Part) → p ≡ part q → IsCompiled ops nums nodes p
      first_compiled e p d =
          let l : q < k.many = omega (arith, k.inside) in
          subst (IsCompiled ops nums nodes) (sym d) record { mon = mon (k.rules q); is = k.tabled.compiled q l (zero_compiles k.tabled q l e) }

      pub like_refused : (get_or refusals q 0 ≡ 0 → ⊥) → Like ops nums firsts counts nodes nfirsts ncounts refusals q r false
      unfolding like_of
      like_refused e = record {
        is = λ R n t i c. sym (ap (λ (b : Bool). b && alike_mon (mon (R q)) (mon (R r))) (other_refused t q (omega arith) e));
      }

      pub like_same :
          (b : Bool) → get_or refusals q 0 ≡ 0 → b ≡ alike_some (part_of ops nums nodes (part q)) (part_of ops nums nodes (part r))
          → Like ops nums firsts counts nodes nfirsts ncounts refusals q r b
      unfolding like_of
      like_same b e p = record {
        is = λ R n t i c.
            let l : q < n = omega arith in
            let d : compiles (R q) ≡ true = zero_compiles t q l e in
            p
            ∙ ap₂ alike_some (t.compiled q l d) (t.compiled r i c)
            ∙ sym (ap (λ (x : Bool). x && alike_mon (mon (R q)) (mon (R r))) d);
      }

  -- ---- the loop
  pub record Passed (r q : ℕ) : Type 0 where
    pub within : q ≤ r
    pub none_like : (R : ℕ → Rule) (n : ℕ) → Tabled ops nums firsts counts nodes nfirsts ncounts refusals R n → r < n → compiles (R r) ≡ true → first_below (like_of R r) q ≡ None

  pub passed_none : (r : ℕ) → Passed r 0
  unfolding first_below
  passed_none r = record { within = omega arith; none_like = λ R n t i c. refl }

  module _ (r q : ℕ) (u : Passed r q) where
    pub none_earlier : r ≤ q → Earlier ops nums firsts counts nodes nfirsts ncounts refusals r None
    none_earlier h =
        let z : q ≡ r = omega (arith, u.within) in
        record { is = λ R n t i c. sym (sym (ap (first_below (like_of R r)) z) ∙ u.none_like R n t i c) }

    module _ (h : q < r) (b : Bool) (w : Like ops nums firsts counts nodes nfirsts ncounts refusals q r b) where
      pub earlier_found : b ≡ true → Earlier ops nums firsts counts nodes nfirsts ncounts refusals r (Some q)
      earlier_found e = record {
        is = λ R n t i c. sym (found_below (like_of R r) q (u.none_like R n t i c) (sym (w.is R n t i c) ∙ e) r h);
      }

      pub passed_more : b ≡ false → Passed r (q + 1)
      passed_more e = record {
        within = omega arith;
        none_like = λ R n t i c. none_more (like_of R r) q (u.none_like R n t i c) (sym (w.is R n t i c) ∙ e);
      }
