-- A refusal's number is never 0, so that 0 in the list of refusals says that a rule compiles.
use mathlib.Core.Path.{◌≡◌, refl, sym, ap, ◌∙◌}
use mathlib.Core.Bool.{true, false}
use mathlib.Core.List.{List, [], ◌∷◌}
use Prim.Native.Nat.{ℕ, ◌<◌}
use native.Mathlib.Omega.{arith}
use borrow.Author.Tests.{eq-eqb, ne_eqb}
use lib.Dec.{eqb}
use lib.ListN.{get_or}
use Rattle.result.specs.Refusal.{number_of}
use Rattle.result.specs.declared.Refusal.{Refusal}
use Rattle.result.specs.declared.Refusal.TheVariants.{Short, Unfit, Long, Unended, Word, Place, Label, Number, Limit, Unfinished, Unopened, NestedFor, ZeroFor, Antecedent, WithinOperand, NextConsequent}
use Rattle.result.specs.declared.Refusal.TheVariants.{Consequent, NextOperand, NotOperand, Liveness, EventuallyOperand, UntilOperand, LivenessBelow, NoLivenessBelow, Late, Failed, Unsaved}
use Rattle.monitor.specs.Compile.{rule_faults}
use Rattle.plan.specs.Book.{is_zero}
use Rattle.listing_rules.specs.Rules.{Rule, is_none, first_of, compiles, refusal}
use Rattle.listing_rules.specs.Tabled.{Tabled}

-- no refusal's number is 0
not_zero : (r : Refusal) → eqb (number_of r) 0 ≡ false
not_zero Short = refl
not_zero Unfit = refl
not_zero Long = refl
not_zero Unended = refl
not_zero Word = refl
not_zero Place = refl
not_zero Label = refl
not_zero Number = refl
not_zero Limit = refl
not_zero Unfinished = refl
not_zero Unopened = refl
not_zero NestedFor = refl
not_zero ZeroFor = refl
not_zero Antecedent = refl
not_zero WithinOperand = refl
not_zero NextConsequent = refl
not_zero Consequent = refl
not_zero NextOperand = refl
not_zero NotOperand = refl
not_zero Liveness = refl
not_zero EventuallyOperand = refl
not_zero UntilOperand = refl
not_zero LivenessBelow = refl
not_zero NoLivenessBelow = refl
not_zero Late = refl
not_zero Failed = refl
not_zero Unsaved = refl

none_first : (fs : List Refusal) → eqb (first_of fs) 0 ≡ is_none fs
none_first [] = refl
none_first (r ∷ rs) = not_zero r

pub compiles_zero : (q : Rule) → eqb (refusal q) 0 ≡ compiles q
unfolding compiles refusal
compiles_zero q = none_first (rule_faults q.formula)

-- a refusal of 0 is none
pub zero_is_none : (q : Rule) → refusal q ≡ 0 → compiles q ≡ true
zero_is_none q e = sym (compiles_zero q) ∙ eq-eqb (refusal q) 0 e

pub other_is_one : (q : Rule) → (refusal q ≡ 0 → ⊥) → compiles q ≡ false
other_is_one q e = sym (compiles_zero q) ∙ ne_eqb (refusal q) 0 e

-- no refusal applies to a rule that compiles
pub no_faults : (q : Rule) → compiles q ≡ true → rule_faults q.formula ≡ []
unfolding compiles
no_faults q h = go (rule_faults q.formula) h
  where
    go : (fs : List Refusal) → is_none fs ≡ true → fs ≡ []
    go [] e = refl
    go (n ∷ ns) e = let z : ◌≡◌ {A = ℕ} 0 1 = cc in absurd (omega arith)

module _ {ops nums firsts counts nodes nfirsts ncounts refusals : List ℕ} {R : ℕ → Rule} {n : ℕ}
    (t : Tabled ops nums firsts counts nodes nfirsts ncounts refusals R n) (r : ℕ) (h : r < n) where
  pub refusal_zero : is_zero refusals r ≡ compiles (R r)
  refusal_zero = ap (λ (v : ℕ). eqb v 0) (t.refused r h) ∙ compiles_zero (R r)

  pub zero_compiles : get_or refusals r 0 ≡ 0 → compiles (R r) ≡ true
  zero_compiles e = zero_is_none (R r) (sym (t.refused r h) ∙ e)

  pub other_refused : (get_or refusals r 0 ≡ 0 → ⊥) → compiles (R r) ≡ false
  other_refused e = other_is_one (R r) (λ z. e (t.refused r h ∙ z))
