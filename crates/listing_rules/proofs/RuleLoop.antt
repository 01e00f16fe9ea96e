-- The loop over the rules: what the tables hold after the first r of them.
--     SoFar      for rules R: the rows of each stand in the node table, one behind the other, at most one for each place of its formula
--     Filling    the loop's invariant: so for whatever rules the formula table holds
use mathlib.Core.Path.{◌≡◌, sym, ap, ap₂, subst, ◌∙◌}
use mathlib.Core.Bool.{true}
use mathlib.Core.Logic.{⊎_elim}
use mathlib.Core.List.{List}
use mathlib.Core.Option.{some}
use Prim.Native.Nat.{ℕ, ◌+◌, ◌*◌, ◌≤◌, ◌<◌}
use native.Mathlib.Omega.{arith}
use lib.ListN.{length, get_or, set, length-set}
use lib.Seq.{sets, length-sets, get_or-set_same, get_or-set_other}
use Rattle.result.specs.declared.Refusal.{Refusal}
use Rattle.formula.specs.Table.{rule_of, IsRule}
use Rattle.formula.proofs.Cases.{below_or}
use Rattle.formula.proofs.Rules.{rule_inv}
use Rattle.monitor.specs.Mon.{count, rows}
use Rattle.monitor.specs.Table.{compiled_of}
use Rattle.compiler_laws.proofs.ReadsBack.{Stored, stored, stored_before, reads_stored}
use Rattle.listing_rules.specs.Rules.{Rule, compiles, refusal, mon}
use Rattle.listing_rules.specs.Tabled.{Held, Tabled}
use Rattle.listing_rules.specs.Made.{rows_by, count_by, rows_of, count_of, RuleStands, Enterable, Entered, Entering, Fillable, FilledRules}
use Rattle.listing_rules.proofs.Refusals.{no_faults}
use Rattle.listing_rules.proofs.Entries.{rows_many, count_most}

-- ---- one number of a list is set
other_at : (l l' : List ℕ) (r v q : ℕ) → l' ≡ set l r v → q < r → get_or l' q 0 ≡ get_or l q 0
other_at l l' r v q e h = ap (λ (x : List ℕ). get_or x q 0) e ∙ get_or-set_other l r q v 0 (λ z. omega arith)

same_at : (l l' : List ℕ) (r v q : ℕ) → l' ≡ set l r v → r < length l → q ≡ r → get_or l' q 0 ≡ v
same_at l l' r v q e h z = ap₂ (λ (x : List ℕ) (k : ℕ). get_or x k 0) e z ∙ get_or-set_same l r v 0 h

set_length : (l l' : List ℕ) (r v : ℕ) → l' ≡ set l r v → length l' ≡ length l
set_length l l' r v e = ap length e ∙ length-set l r v

-- what holds below r and at r holds below r + 1
below_next : (P : ℕ → Type 0) (r q : ℕ) → q < r + 1 → (q < r → P q) → (q ≡ r → P q) → P q
below_next P r q h f g = ⊎_elim f (λ w. g (omega arith)) (below_or q r)

-- ---- a rule that the formula table holds
module _ {ops nums kinds firsts counts : List ℕ} {R : ℕ → Rule} {n : ℕ} (w : Held ops nums kinds firsts counts R n) (r : ℕ) (h : r < n) where
  pub stands_at : RuleStands ops nums (get_or firsts r 0) (get_or counts r 0) (R r)
  stands_at = record { formula = w.formula r h; place = w.first r h }

  is_rule : IsRule ops nums (get_or firsts r 0) (get_or counts r 0)
  is_rule = record { formula = (R r).formula; is = w.formula r h }

  ends_inside : get_or firsts r 0 + get_or counts r 0 ≤ 1024
  ends_inside = omega (arith, (rule_inv ops nums (get_or firsts r 0) (get_or counts r 0) (R r).formula (w.formula r h)).in_ops, w.ops_long)

-- ---- the first r rules
pub record SoFar (R : ℕ → Rule) (n r i : ℕ) (firsts nodes nfirsts ncounts refusals : List ℕ) : Type 0 where
  pub refused : (q : ℕ) → q < r → get_or refusals q 0 ≡ refusal (R q)
  pub counted : (q : ℕ) → q < r → get_or ncounts q 0 ≡ count_of (R q)
  pub stores : (q : ℕ) → q < r → Stored nodes (7 * get_or nfirsts q 0) (rows_of (R q))
  pub ended : (q : ℕ) → q < r → get_or nfirsts q 0 + count_of (R q) ≤ i
  pub apart : (p q : ℕ) → p < q → q < r → get_or nfirsts p 0 + count_of (R p) ≤ get_or nfirsts q 0
  pub room : i ≤ 1024
  pub behind : r < n → i ≤ get_or firsts r 0

none_yet : (R : ℕ → Rule) (n : ℕ) (firsts nodes nfirsts ncounts refusals : List ℕ) → SoFar R n 0 0 firsts nodes nfirsts ncounts refusals
none_yet R n firsts nodes nfirsts ncounts refusals = record {
  refused = λ q h. absurd (omega arith);
  counted = λ q h. absurd (omega arith);
  stores = λ q h. absurd (omega arith);
  ended = λ q h. absurd (omega arith);
  apart = λ p q g h. absurd (omega arith);
  room = omega arith;
  behind = λ h. omega arith;
}

module _ {ops nums kinds firsts counts : List ℕ} {R : ℕ → Rule} {n : ℕ} (w : Held ops nums kinds firsts counts R n) (r i i' : ℕ)
    (nodes nodes' nfirsts nfirsts' ncounts ncounts' refusals refusals' : List ℕ) (h : r < n) (in_nodes : 8960 ≤ length nodes)
    (in_nfirsts : 64 ≤ length nfirsts) (in_ncounts : 64 ≤ length ncounts) (in_refusals : 64 ≤ length refusals)
    (s : SoFar R n r i firsts nodes nfirsts ncounts refusals)
    (e : Entered (R r) r i i' nodes nodes' nfirsts nfirsts' ncounts ncounts' refusals refusals') where
  few : r < 64
  few = omega (arith, w.few)

  upto : count_of (R r) ≤ get_or counts r 0
  upto = count_most ops nums (get_or firsts r 0) (get_or counts r 0) (R r) (stands_at w r h)

  first_old : (q : ℕ) → q < r → get_or nfirsts' q 0 ≡ get_or nfirsts q 0
  first_old q l = other_at nfirsts nfirsts' r i q e.first_is l

  first_new : (q : ℕ) → q ≡ r → get_or nfirsts' q 0 ≡ i
  first_new q l = same_at nfirsts nfirsts' r i q e.first_is (omega (arith, few)) l

  old_rows : (q : ℕ) → q < r → Stored nodes' (7 * get_or nfirsts' q 0) (rows_of (R q))
  old_rows q l =
      subst (λ (x : List ℕ). Stored x (7 * get_or nfirsts' q 0) (rows_of (R q))) (sym e.rows_are)
      (subst (λ (k : ℕ). Stored (sets nodes (7 * i) (rows_of (R r))) (7 * k) (rows_of (R q))) (sym (first_old q l))
      (stored_before nodes (rows_of (R q)) (rows_of (R r)) (7 * get_or nfirsts q 0) (7 * i) (omega (arith, rows_many (R q), s.ended q l)) (s.stores q l)))

  new_rows : Stored nodes' (7 * i) (rows_of (R r))
  new_rows =
      subst (λ (x : List ℕ). Stored x (7 * i) (rows_of (R r))) (sym e.rows_are)
      (stored nodes (rows_of (R r)) (7 * i) (omega (arith, rows_many (R r), s.behind h, upto, ends_inside w r h)))

  pub one_more : SoFar R n (r + 1) i' firsts nodes' nfirsts' ncounts' refusals'
  one_more = record {
    refused = λ q l. below_next (λ (k : ℕ). get_or refusals' k 0 ≡ refusal (R k)) r q l
        (λ g. other_at refusals refusals' r (refusal (R r)) q e.refusal_is g ∙ s.refused q g)
        (λ z. same_at refusals refusals' r (refusal (R r)) q e.refusal_is (omega (arith, few)) z ∙ sym (ap (λ (k : ℕ). refusal (R k)) z));
    counted = λ q l. below_next (λ (k : ℕ). get_or ncounts' k 0 ≡ count_of (R k)) r q l
        (λ g. other_at ncounts ncounts' r (count_of (R r)) q e.count_is g ∙ s.counted q g)
        (λ z. same_at ncounts ncounts' r (count_of (R r)) q e.count_is (omega (arith, few)) z ∙ sym (ap (λ (k : ℕ). count_of (R k)) z));
    stores = λ q l. below_next (λ (k : ℕ). Stored nodes' (7 * get_or nfirsts' k 0) (rows_of (R k))) r q l
        (λ g. old_rows q g)
        (λ z. subst (λ (k : ℕ). Stored nodes' (7 * k) (rows_of (R q))) (sym (first_new q z)) (subst (λ (k : ℕ). Stored nodes' (7 * i) (rows_of (R k))) (sym z) new_rows));
    ended = λ q l. below_next (λ (k : ℕ). get_or nfirsts' k 0 + count_of (R k) ≤ i') r q l
        (λ g. omega (arith, first_old q g, s.ended q g, e.ends))
        (λ z. omega (arith, first_new q z, ap (λ (k : ℕ). count_of (R k)) z, e.ends));
    apart = λ p q g l. below_next (λ (k : ℕ). p < k → get_or nfirsts' p 0 + count_of (R p) ≤ get_or nfirsts' k 0) r q l
        (λ v f. omega (arith, first_old p (omega arith), first_old q v, s.apart p q f v))
        (λ z f. omega (arith, first_old p (omega arith), first_new q z, s.ended p (omega arith)))
        g;
    room = omega (arith, e.ends, s.behind h, upto, ends_inside w r h);
    behind = λ l. omega (arith, e.ends, s.behind h, upto, w.apart r l);
  }

-- ---- all rules
module _ {ops nums kinds firsts counts : List ℕ} {R : ℕ → Rule} {n : ℕ} (w : Held ops nums kinds firsts counts R n) (i : ℕ)
    (nodes nfirsts ncounts refusals : List ℕ) (in_nodes : 8960 ≤ length nodes) (s : SoFar R n n i firsts nodes nfirsts ncounts refusals) where
  module _ (r : ℕ) (h : r < n) (c : compiles (R r) ≡ true) where
    rows_there : rows_of (R r) ≡ rows (mon (R r))
    rows_there = ap (λ (fs : List Refusal). rows_by fs (mon (R r))) (no_faults (R r) c)

    count_there : count_of (R r) ≡ count (mon (R r))
    count_there = ap (λ (fs : List Refusal). count_by fs (mon (R r))) (no_faults (R r) c)

    reads : compiled_of ops nums (get_or firsts r 0) (get_or counts r 0) nodes (get_or nfirsts r 0) (get_or ncounts r 0) ≡ some (mon (R r))
    unfolding mon
    reads =
        let p : (R r).first ≡ get_or firsts r 0 = w.first r h in
        ap₂ (λ (x y : ℕ). compiled_of ops nums x (get_or counts r 0) nodes (get_or nfirsts r 0) y) (sym p) (s.counted r h ∙ count_there)
        ∙ reads_stored ops nums (R r).first (get_or counts r 0) (R r).formula nodes (get_or nfirsts r 0)
        (ap (λ (x : ℕ). rule_of ops nums x (get_or counts r 0)) p ∙ w.formula r h)
        (no_faults (R r) c)
        (omega (arith, s.ended r h, count_there, s.room))
        (subst (Stored nodes (7 * get_or nfirsts r 0)) rows_there (s.stores r h))

  tabled : 64 ≤ length nfirsts → 64 ≤ length ncounts → 64 ≤ length refusals → Tabled ops nums firsts counts nodes nfirsts ncounts refusals R n
  tabled in_nfirsts in_ncounts in_refusals = record {
    few = w.few;
    in_firsts = w.in_firsts;
    in_counts = w.in_counts;
    in_nfirsts = in_nfirsts;
    in_ncounts = in_ncounts;
    in_refusals = in_refusals;
    refused = s.refused;
    compiled = reads;
    room = λ r h c. omega (arith, s.ended r h, s.counted r h, s.room);
    apart = λ q r g h c d. omega (arith, s.apart q r g h, s.counted q (omega arith));
  }

-- ---- the loop
pub record Filling (ops nums kinds firsts counts : List ℕ) (n : ℕ) (nodes₀ nodes nfirsts₀ nfirsts ncounts₀ ncounts refusals₀ refusals : List ℕ) (i r : ℕ) : Type 0 where
  pub below : r ≤ n
  pub nodes_same : length nodes ≡ length nodes₀
  pub nfirsts_same : length nfirsts ≡ length nfirsts₀
  pub ncounts_same : length ncounts ≡ length ncounts₀
  pub refusals_same : length refusals ≡ length refusals₀
  pub so_far : (R : ℕ → Rule) → Held ops nums kinds firsts counts R n → SoFar R n r i firsts nodes nfirsts ncounts refusals

module _ (ops nums kinds firsts counts : List ℕ) (n : ℕ) (nodes₀ nfirsts₀ ncounts₀ refusals₀ : List ℕ) where
  module _ (nodes nfirsts ncounts refusals : List ℕ) (i r : ℕ)
      (u : Filling ops nums kinds firsts counts n nodes₀ nodes nfirsts₀ nfirsts ncounts₀ ncounts refusals₀ refusals i r)
      (p : Fillable ops nums kinds firsts counts nodes₀ nfirsts₀ ncounts₀ refusals₀ n) where
    pub filled : n ≤ r → FilledRules ops nums kinds firsts counts nodes nfirsts ncounts refusals n
    filled h =
        let z : r ≡ n = omega (arith, u.below) in
        record {
          is = λ R w.
              tabled w i nodes nfirsts ncounts refusals (omega (arith, u.nodes_same, p.in_nodes))
              (subst (λ (k : ℕ). SoFar R n k i firsts nodes nfirsts ncounts refusals) z (u.so_far R w))
              (omega (arith, u.nfirsts_same, p.in_nfirsts))
              (omega (arith, u.ncounts_same, p.in_ncounts))
              (omega (arith, u.refusals_same, p.in_refusals));
        }

    module _ (h : r < n) where
      pub enterable : Enterable ops nums firsts counts nodes nfirsts ncounts refusals r i
      enterable =
          let w = p.held in
          record {
            ops_long = w.ops_long;
            nums_long = w.nums_long;
            rule = is_rule w r h;
            room = (u.so_far p.rules w).room;
            in_nodes = omega (arith, u.nodes_same, p.in_nodes);
            in_firsts = omega (arith, w.few, w.in_firsts);
            in_counts = omega (arith, w.few, w.in_counts);
            in_nfirsts = omega (arith, w.few, u.nfirsts_same, p.in_nfirsts);
            in_ncounts = omega (arith, w.few, u.ncounts_same, p.in_ncounts);
            in_refusals = omega (arith, w.few, u.refusals_same, p.in_refusals);
          }

      module _ (nodes' nfirsts' ncounts' refusals' : List ℕ) (i' : ℕ)
          (e : Entering ops nums (get_or firsts r 0) (get_or counts r 0) r i i' nodes nodes' nfirsts nfirsts' ncounts ncounts' refusals refusals') where
        the_first : Entered (p.rules r) r i i' nodes nodes' nfirsts nfirsts' ncounts ncounts' refusals refusals'
        the_first = e.is (p.rules r) (stands_at p.held r h)

        pub filling_more : Filling ops nums kinds firsts counts n nodes₀ nodes' nfirsts₀ nfirsts' ncounts₀ ncounts' refusals₀ refusals' i' (r + 1)
        filling_more = record {
          below = omega arith;
          nodes_same = ap length the_first.rows_are ∙ length-sets nodes (7 * i) (rows_of (p.rules r)) ∙ u.nodes_same;
          nfirsts_same = set_length nfirsts nfirsts' r i the_first.first_is ∙ u.nfirsts_same;
          ncounts_same = set_length ncounts ncounts' r (count_of (p.rules r)) the_first.count_is ∙ u.ncounts_same;
          refusals_same = set_length refusals refusals' r (refusal (p.rules r)) the_first.refusal_is ∙ u.refusals_same;
          so_far = λ R w.
              one_more w r i i' nodes nodes' nfirsts nfirsts' ncounts ncounts' refusals refusals' h
              (omega (arith, u.nodes_same, p.in_nodes))
              (omega (arith, u.nfirsts_same, p.in_nfirsts))
              (omega (arith, u.ncounts_same, p.in_ncounts))
              (omega (arith, u.refusals_same, p.in_refusals))
              (u.so_far R w)
              (e.is (R r) (stands_at w r h));
        }
