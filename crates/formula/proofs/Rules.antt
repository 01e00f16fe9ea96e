-- A rule's part of a table: `rule_of` gives a formula exactly where `Rule` holds of it, and `is_rule` tests that.
use mathlib.Core.Path.{◌≡◌, refl, sym, ap, ap₂, subst, ◌∙◌}
use mathlib.Core.Bool.{Bool, true, false, ◌&&◌}
use mathlib.Core.List.{List}
use mathlib.Core.Option.{Option, none, some}
use Prim.Native.Nat.{ℕ, ◌+◌, ◌-◌, ◌≤◌, ◌<◌}
use native.Mathlib.Omega.{arith}
use borrow.Author.Tests.{le-leb, lt-leb, leb-true, eqb-true, eqb-false}
use lib.Dec.{leb, eqb}
use lib.ListN.{length}
use Rattle.formula.specs.Tree.{tree_of, size, depth, all}
use Rattle.formula.specs.Spells.{run}
use Rattle.formula.specs.Formula.{Formula}
use Rattle.formula.specs.Table.{node_at, in_word, keep, limited, in_table, rule_of, Rule, IsRule, is_some, roomy}
use Rattle.formula.specs.Walk.{Stands, Walked}
use Rattle.std.specs.Prelude.{None, Option as Opt, Some}
use Rattle.std.specs.Option.{option_eq}
use Rattle.formula.proofs.Trees.{some_inj, none_some, tree_spells, spells_tree, spells_unique}
use Rattle.formula.proofs.Walks.{both_true}

-- what a filter lets through
pub keep_inv : {A : Type 0} (b : Bool) (o : Option A) (a : A) → keep b o ≡ some a → (b ≡ true) × (o ≡ some a)
keep_inv true o a e = (refl, e)
keep_inv false o a e = none_some e

module _ (ops nums : List ℕ) (first count : ℕ) where
  pub rule_of_lem : (f : Formula) → Rule ops nums first count f → rule_of ops nums first count ≡ some f
  unfolding rule_of
  rule_of_lem f u =
      rw (le-leb count 256 u.few, le-leb (first + count) 1024 u.table_holds, le-leb (first + count) (length ops) u.in_ops, le-leb (first + count) (length nums) u.in_nums)
      (ap limited (ap (λ (n : ℕ). tree_of (run (node_at ops nums) first n)) (sym u.covers) ∙ spells_tree (node_at ops nums) first f u.spells)
      ∙ ap (λ (b : Bool). keep b (some f)) (ap₂ ◌&&◌ (le-leb (depth f) 64 u.shallow) u.word_fits))

  limited_inv : (o : Option Formula) (f : Formula) → limited o ≡ some f → (o ≡ some f) × (depth f ≤ 64) × (all in_word f ≡ true)
  limited_inv none f e = none_some e
  limited_inv (some g) f e =
      let (b, p) = keep_inv (leb (depth g) 64 && all in_word g) (some g) f e in
      let (d, w) = both_true (leb (depth g) 64) (all in_word g) b in
      (p, subst (λ (h : Formula). depth h ≤ 64) (some_inj p) (leb-true _ _ d), subst (λ (h : Formula). all in_word h ≡ true) (some_inj p) w)

  pub rule_inv : (f : Formula) → rule_of ops nums first count ≡ some f → Rule ops nums first count f
  unfolding rule_of
  rule_inv f e =
      let (b, p) = keep_inv (in_table ops nums first count) _ f e in
      let (c, d) = both_true (leb count 256) _ b in
      let (t, l) = both_true (leb (first + count) 1024) _ d in
      let (m, n) = both_true (leb (first + count) (length ops)) _ l in
      let (o, w, v) = limited_inv _ f p in
      let (s, z) = tree_spells (node_at ops nums) first count f o in
      record { few = leb-true _ _ c; table_holds = leb-true _ _ t; in_ops = leb-true _ _ m; in_nums = leb-true _ _ n; spells = s; covers = z; shallow = w; word_fits = v }

  -- what is no rule has no formula
  none_is : ((f : Formula) → Rule ops nums first count f → ⊥) → false ≡ is_some (rule_of ops nums first count)
  none_is h = go (rule_of ops nums first count) refl
    where
      go : (o : Option Formula) → rule_of ops nums first count ≡ o → false ≡ is_some o
      go none e = refl
      go (some f) e = absurd (h f (rule_inv f e))

  pub too_many : 256 < count → false ≡ is_some (rule_of ops nums first count)
  too_many h = none_is (λ f u. omega arith)

  pub past_table : 1024 - count < first → false ≡ is_some (rule_of ops nums first count)
  past_table h = none_is (λ f u. omega arith)

  pub past_ops : length ops < first + count → false ≡ is_some (rule_of ops nums first count)
  past_ops h = none_is (λ f u. omega arith)

  pub past_nums : length nums < first + count → false ≡ is_some (rule_of ops nums first count)
  past_nums h = none_is (λ f u. omega arith)

  stands : (f : Formula) → Rule ops nums first count f → Stands (node_at ops nums) in_word first (first + count) 64 (first + count) f
  stands f u = record { spells = u.spells; ends = omega arith; inside = omega arith; shallow = u.shallow; good = u.word_fits }

  module _ (r : Opt ℕ) (w : Walked (node_at ops nums) in_word first (first + count) 64 r) where
    no_tree : r ≡ None → false ≡ is_some (rule_of ops nums first count)
    no_tree q = none_is (λ f u. w.stuck q (first + count) f (stands f u))

    other_end : (e : ℕ) → r ≡ Some e → (e ≡ first + count → ⊥) → false ≡ is_some (rule_of ops nums first count)
    other_end e q n = none_is λ f u.
        let (t, s) = w.found e q in
        let m : t ≡ f = spells_unique (node_at ops nums) first t f s.spells u.spells in
        n (omega (arith, ap (λ (x : Formula). size x) m))

    -- the walk ends where the part does exactly where a rule stands there
    pub ends_there : count ≤ 256 → first ≤ 1024 - count → first + count ≤ length ops → first + count ≤ length nums
        → option_eq eqb r (Some (first + count)) ≡ is_some (rule_of ops nums first count)
    ends_there a g b c = go r refl
      where
        whole : (e : ℕ) → r ≡ Some e → e ≡ first + count → true ≡ is_some (rule_of ops nums first count)
        whole e q n =
            let (t, s) = w.found e q in
            let u : Rule ops nums first count t = record { few = a; table_holds = omega arith; in_ops = b; in_nums = c; spells = s.spells; covers = omega arith; shallow = s.shallow; word_fits = s.good } in
            sym (ap is_some (rule_of_lem t u))

        same : (e : ℕ) (t : Bool) → eqb e (first + count) ≡ t → r ≡ Some e → t ≡ is_some (rule_of ops nums first count)
        same e true h q = whole e q (eqb-true _ _ h)
        same e false h q = other_end e q (eqb-false _ _ h)

        go : (o : Opt ℕ) → r ≡ o → option_eq eqb o (Some (first + count)) ≡ is_some (rule_of ops nums first count)
        go None q = no_tree q
        go (Some e) q = same e _ refl q

pub short_ops : (ops nums : List ℕ) → length ops < 1024 → false ≡ roomy ops nums
short_ops ops nums h = sym (ap (λ (b : Bool). b && leb 1024 (length nums)) (lt-leb _ _ h))

pub short_nums : (ops nums : List ℕ) → 1024 ≤ length ops → length nums < 1024 → false ≡ roomy ops nums
short_nums ops nums g h = sym (ap₂ ◌&&◌ (le-leb _ _ g) (lt-leb _ _ h))

pub both_long : (ops nums : List ℕ) → 1024 ≤ length ops → 1024 ≤ length nums → true ≡ roomy ops nums
both_long ops nums g h = sym (ap₂ ◌&&◌ (le-leb _ _ g) (le-leb _ _ h))

pub is_a_rule : (ops nums : List ℕ) (first count : ℕ) (c : Bool) → c ≡ is_some (rule_of ops nums first count) → c ≡ true → IsRule ops nums first count
is_a_rule ops nums first count c p q = go (rule_of ops nums first count) refl (sym p ∙ q)
  where
    go : (o : Option Formula) → rule_of ops nums first count ≡ o → is_some o ≡ true → IsRule ops nums first count
    go none e w = let z : ◌≡◌ {A = ℕ} 0 1 = cc in absurd (omega arith)
    go (some f) e w = record { formula = f; is = e }
