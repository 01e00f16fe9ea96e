-- The last four fields of a rule's line.
use mathlib.Core.Path.{◌≡◌, sym, ap, ap₂, ◌∙◌}
use mathlib.Core.Bool.{Bool, true}
use mathlib.Core.List.{List}
use Prim.Native.Nat.{ℕ}
use lib.ListN.{get_or}
use Rattle.terms.specs.Choice.{pick}
use Rattle.std.specs.Prelude.{Option, Err}
use Rattle.listing_line.specs.Rule.{compiled_as}
use Rattle.listing_rules.specs.Rules.{compiles, refusal, bits_of, first_bit_of, like_of, first_below, compiling_of}
use Rattle.listing_rules.specs.Answers.{KnownRule, Earlier, Tellable, ToldRule}
use Rattle.listing_rules.proofs.Refusals.{zero_compiles, other_refused}

module _ (ops nums firsts counts nodes nfirsts ncounts refusals starts bits : List ℕ) (r : ℕ) where
  pub told_refused : (get_or refusals r 0 ≡ 0 → ⊥) → ToldRule ops nums firsts counts nodes nfirsts ncounts refusals starts bits r (Err (get_or refusals r 0))
  unfolding compiling_of
  told_refused e = record {
    is = λ base R n t p h.
        ap Err (t.refused r h)
        ∙ sym (ap (λ (b : Bool). pick b (compiled_as (first_bit_of base R n r) (bits_of (R r)) (first_below (like_of R r) r)) (Err (refusal (R r)))) (other_refused t r h e));
  }

  module _ (e : get_or refusals r 0 ≡ 0) where
    pub known : Tellable ops nums firsts counts nodes nfirsts ncounts refusals starts bits r → KnownRule ops nums firsts counts nodes nfirsts ncounts refusals r
    known p = record {
      rules = p.rules;
      many = p.many;
      tabled = p.tabled;
      inside = p.inside;
      compiled = zero_compiles p.tabled r p.inside e;
    }

    pub told_compiled :
        (a : Option ℕ) → Earlier ops nums firsts counts nodes nfirsts ncounts refusals r a
        → ToldRule ops nums firsts counts nodes nfirsts ncounts refusals starts bits r (compiled_as (get_or starts r 0) (get_or bits r 0) a)
    unfolding compiling_of
    told_compiled a w = record {
      is = λ base R n t p h.
          let c : compiles (R r) ≡ true = zero_compiles t r h e in
          ap₂ (λ (x y : ℕ). compiled_as x y a) (p.start r h c) (p.bit r h c)
          ∙ ap (compiled_as (first_bit_of base R n r) (bits_of (R r))) (w.is R n t h c)
          ∙ sym (ap (λ (b : Bool). pick b (compiled_as (first_bit_of base R n r) (bits_of (R r)) (first_below (like_of R r) r)) (Err (refusal (R r)))) c);
    }
