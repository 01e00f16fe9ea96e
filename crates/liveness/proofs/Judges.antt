-- One step of the walks that look for liveness and for the first refusal.
use mathlib.Core.Path.{◌≡◌, refl, sym, ap, ap₂, subst, ◌∙◌}
use mathlib.Core.Bool.{Bool, true, false, ◌&&◌, ◌||◌}
use mathlib.Core.Bool as bool
use mathlib.Core.List.{List, [], ◌∷◌, ◌++◌}
use Prim.Native.Nat.{ℕ, ◌+◌, ◌-◌, ◌≤◌, ◌<◌}
use native.Mathlib.Omega.{arith}
use lib.ListN.{length, get_or}
use Rattle.formula.specs.Tree.{one, two, two_of, size}
use Rattle.formula.specs.Spells.{Spells}
use Rattle.formula.specs.Formula.{Unary, Binary, Formula, not, eventually}
use Rattle.formula.specs.Table.{node_at, Placed}
use Rattle.formula.specs.Pure.{pure, unless}
use Rattle.formula.specs.Signal.{end_if}
use Rattle.std.specs.Prelude.{None, Option, Some, Ok, Err}
use Rattle.std.specs.Prelude.{Result as Returned}
use Rattle.result.specs.declared.Refusal.{Refusal}
use Rattle.result.specs.declared.Refusal.TheVariants.{EventuallyOperand, UntilOperand, LivenessBelow, NoLivenessBelow}
use Rattle.formula.proofs.Nodes.{unary_number, binary_number}
use Rattle.formula.proofs.Walks.{stuck_upto, upto_inj}
use Rattle.formula.proofs.Places.{leaf_there, one_there, two_there, placed_left, placed_right, falls_right}
use Rattle.liveness.specs.Split.{live, unless_both, temporal, faults}
use Rattle.liveness.specs.Judge.{Calm, Lives, top_of, Judged, Operand}
use Rattle.liveness.proofs.Words.{live_one, live_eventually, live_two, live_until, faults_temporal, only_not, only_eventually, only_until, faults_two}

-- ---- an answer of a walk, read back
pub end_true : (b : Bool) (e n : ℕ) → Some e ≡ end_if b n → (b ≡ true) × (e ≡ n)
end_true true e n z = (refl, upto_inj z)
end_true false e n z = stuck_upto (sym z)

pub end_false : (b : Bool) (n : ℕ) → None ≡ end_if b n → b ≡ false
end_false true n z = stuck_upto z
end_false false n z = refl

not_or : (a b : Bool) → bool.not (a || b) ≡ (bool.not a && bool.not b)
not_or true b = refl
not_or false b = refl

fault_upto : {n : Refusal} {e : ℕ} {B : Type 0} → Err n ≡ Ok e → B
fault_upto h = let z : ◌≡◌ {A = ℕ} 0 1 = cc in absurd (omega arith)

top_inj : {e f : ℕ} → ◌≡◌ {A = Returned ℕ Refusal} (Ok e) (Ok f) → e ≡ f
top_inj h = cc

pub top_upto : (xs : List Refusal) (e m : ℕ) → Ok m ≡ top_of xs e → (xs ≡ []) × (m ≡ e)
top_upto [] e m h = (refl, top_inj h)
top_upto (x ∷ xs) e m h = fault_upto (sym h)

pub top_fault : (xs ys : List Refusal) (e f : ℕ) (n : Refusal) → Err n ≡ top_of xs e → Err n ≡ top_of (xs ++ ys) f
top_fault [] ys e f n h = fault_upto h
top_fault (x ∷ xs) ys e f n h = h

-- ---- liveness
module _ (ops nums : List ℕ) (i : ℕ) where
  pub calm_leaf : get_or ops i 0 < 3 → Calm ops nums i (Some (i + 1))
  unfolding live size
  calm_leaf h = record {
    is = λ f s.
        let (a, e, n) = leaf_there ops nums i f s h in
        rw e refl;
  }

  pub calm_eventually : 3 ≤ get_or ops i 0 → get_or ops i 0 ≡ 6 → Calm ops nums i None
  unfolding node_at
  calm_eventually h k = record {
    is = λ f s.
        let (o, g, t, e, u) = one_there ops nums i f s h (omega arith) in
        rw (ap live e ∙ live_eventually o g (sym (unary_number _ _ o t) ∙ k)) refl;
  }

  pub calm_until : 12 ≤ get_or ops i 0 → Calm ops nums i None
  unfolding node_at
  calm_until h = record {
    is = λ f s.
        let (o, l, r, t, e, u, w) = two_there ops nums i f s (omega arith) in
        rw (ap live e ∙ live_until o l r (subst (λ (n : ℕ). 12 ≤ n) (binary_number _ _ o t) h)) refl;
  }

  pub calm_one : (r : Option ℕ) → 3 ≤ get_or ops i 0 → get_or ops i 0 < 9 → (get_or ops i 0 ≡ 6 → ⊥) → Calm ops nums (i + 1) r → Calm ops nums i r
  unfolding size node_at
  calm_one r h k n p = record {
    is = λ f s.
        let (o, g, t, e, u) = one_there ops nums i f s h k in
        p.is g u ∙ ap₂ end_if (ap bool.not (sym (ap live e ∙ live_one o g (λ z. n (unary_number _ _ o t ∙ z))))) (omega (arith, ap (λ (x : Formula). size x) e));
  }

  module _ (left : Option ℕ) (h : 9 ≤ get_or ops i 0) (k : get_or ops i 0 < 12) (p : Calm ops nums (i + 1) left) where
    both_calm : (f : Formula) (o : Binary) (l r : Formula) → node_at ops nums i ≡ two_of o → f ≡ two o l r → bool.not (live f) ≡ (bool.not (live l) && bool.not (live r))
    unfolding node_at
    both_calm f o l r t e = ap bool.not (ap live e ∙ live_two o l r (subst (λ (n : ℕ). n < 12) (binary_number _ _ o t) k)) ∙ not_or (live l) (live r)

    pub calm_left : (r : Option ℕ) → left ≡ None → r ≡ None → Calm ops nums i r
    calm_left r' q z = record {
      is = λ f s.
          let (o, l, r, t, e, u, w) = two_there ops nums i f s h in
          z ∙ sym (ap (λ (x : Bool). end_if x (i + size f)) (both_calm f o l r t e ∙ ap (λ (x : Bool). x && bool.not (live r)) (end_false (bool.not (live l)) (i + 1 + size l) (sym q ∙ p.is l u))));
    }

    pub calm_end : (e : ℕ) → left ≡ Some e → (f : Formula) → Spells (node_at ops nums) (i + 1) f → e ≡ i + 1 + size f
    calm_end e q f s = (end_true (bool.not (live f)) e _ (sym q ∙ p.is f s)).1

    pub calm_two : (e : ℕ) (right : Option ℕ) → left ≡ Some e → Calm ops nums e right → Calm ops nums i right
    unfolding size
    calm_two e right q w = record {
      is = λ f s.
          let (o, l, r, t, z, u, v) = two_there ops nums i f s h in
          let (c, m) = end_true (bool.not (live l)) e _ (sym q ∙ p.is l u) in
          w.is r (subst (λ (j : ℕ). Spells (node_at ops nums) j r) (sym m) v)
          ∙ ap₂ end_if (sym (both_calm f o l r t z ∙ ap (λ (x : Bool). x && bool.not (live r)) c)) (omega (arith, ap (λ (x : Formula). size x) z));
    }

  module _ (g : Placed ops nums i) (left : Option ℕ) (e : ℕ) (h : 9 ≤ get_or ops i 0) (k : get_or ops i 0 < 12) (p : Calm ops nums (i + 1) left) (z : left ≡ Some e) where
    pub calm_behind : Placed ops nums e
    calm_behind = placed_right ops nums i g e h (calm_end left h k p e z)

    pub calm_falls : (t : ℕ) → length ops - i ≡ t → length ops - e < t
    calm_falls t m = falls_right ops nums i g e t (placed_left ops nums i g h) (calm_end left h k p e z) m

  -- ---- the first refusal
  pub judged_leaf : get_or ops i 0 < 3 → Judged ops nums i (Ok (i + 1))
  unfolding faults size
  judged_leaf h = record {
    is = λ f s.
        let (a, e, n) = leaf_there ops nums i f s h in
        rw e refl;
  }

  pub judged_not : (r : Returned ℕ Refusal) → 3 ≤ get_or ops i 0 → get_or ops i 0 < 4 → Judged ops nums (i + 1) r → Judged ops nums i r
  unfolding size node_at faults
  judged_not r h k p = record {
    is = λ f s.
        let (o, g, t, e, u) = one_there ops nums i f s h (omega arith) in
        let n : o ≡ not = only_not o (subst (λ (x : ℕ). x < 4) (unary_number _ _ o t) k) in
        p.is g u ∙ ap₂ top_of (sym (ap faults (e ∙ ap (λ (x : Unary). one x g) n))) (omega (arith, ap (λ (x : Formula). size x) e));
  }

  pub judged_eventually : (r : Returned ℕ Refusal) → get_or ops i 0 ≡ 6 → Operand ops nums (i + 1) EventuallyOperand r → Judged ops nums i r
  unfolding size node_at faults
  judged_eventually r k p = record {
    is = λ f s.
        let (o, g, t, e, u) = one_there ops nums i f s (omega arith) (omega arith) in
        let n : o ≡ eventually = only_eventually o (sym (unary_number _ _ o t) ∙ k) in
        p.is g u ∙ ap₂ top_of (sym (ap faults (e ∙ ap (λ (x : Unary). one x g) n))) (omega (arith, ap (λ (x : Formula). size x) e));
  }

  module _ (b : Bool) (g : Lives ops nums (i + 1) b) (h : 4 ≤ get_or ops i 0) (n : get_or ops i 0 ≡ 6 → ⊥) (k : get_or ops i 0 < 9) where
    by_life : (f : Formula) → Spells (node_at ops nums) i f → faults f ≡ temporal b
    unfolding node_at
    by_life f s =
        let (o, x, t, e, u) = one_there ops nums i f s (omega arith) k in
        ap faults e ∙ faults_temporal o x (subst (λ (m : ℕ). 4 ≤ m) (unary_number _ _ o t) h) (λ z. n (unary_number _ _ o t ∙ z)) ∙ ap temporal (sym (g.is x u))

    pub judged_live : b ≡ true → Judged ops nums i (Err LivenessBelow)
    judged_live q = record { is = λ f s. sym (ap (λ (x : List Refusal). top_of x (i + size f)) (by_life f s ∙ ap temporal q)) }

    pub judged_calm : b ≡ false → Judged ops nums i (Err NoLivenessBelow)
    judged_calm q = record { is = λ f s. sym (ap (λ (x : List Refusal). top_of x (i + size f)) (by_life f s ∙ ap temporal q)) }

  module _ (left : Returned ℕ Refusal) (h : 9 ≤ get_or ops i 0) (k : get_or ops i 0 < 12) (p : Judged ops nums (i + 1) left) where
    both_faults : (f : Formula) (o : Binary) (l r : Formula) → node_at ops nums i ≡ two_of o → f ≡ two o l r → faults f ≡ faults l ++ faults r
    unfolding node_at
    both_faults f o l r t e = ap faults e ∙ faults_two o l r (subst (λ (n : ℕ). n < 12) (binary_number _ _ o t) k)

    pub judged_left : (n : Refusal) → left ≡ Err n → Judged ops nums i (Err n)
    judged_left n q = record {
      is = λ f s.
          let (o, l, r, t, e, u, w) = two_there ops nums i f s h in
          top_fault (faults l) (faults r) (i + 1 + size l) (i + size f) n (sym q ∙ p.is l u) ∙ ap (λ (x : List Refusal). top_of x (i + size f)) (sym (both_faults f o l r t e));
    }

    pub judged_end : (e : ℕ) → left ≡ Ok e → (f : Formula) → Spells (node_at ops nums) (i + 1) f → e ≡ i + 1 + size f
    judged_end e q f s = (top_upto (faults f) _ e (sym q ∙ p.is f s)).1

    pub judged_two : (e : ℕ) (right : Returned ℕ Refusal) → left ≡ Ok e → Judged ops nums e right → Judged ops nums i right
    unfolding size
    judged_two e right q w = record {
      is = λ f s.
          let (o, l, r, t, z, u, v) = two_there ops nums i f s h in
          let (c, m) = top_upto (faults l) _ e (sym q ∙ p.is l u) in
          w.is r (subst (λ (j : ℕ). Spells (node_at ops nums) j r) (sym m) v)
          ∙ ap₂ top_of (sym (both_faults f o l r t z ∙ ap (λ (x : List Refusal). x ++ faults r) c)) (omega (arith, ap (λ (x : Formula). size x) z));
    }

    module _ (g : Placed ops nums i) (e : ℕ) (z : left ≡ Ok e) where
      pub judged_behind : Placed ops nums e
      judged_behind = placed_right ops nums i g e h (judged_end e z)

      pub judged_falls : (t : ℕ) → length ops - i ≡ t → length ops - e < t
      judged_falls t m = falls_right ops nums i g e t (placed_left ops nums i g h) (judged_end e z) m

  module _ (left : Returned ℕ Refusal) (h : 12 ≤ get_or ops i 0) (p : Operand ops nums (i + 1) UntilOperand left) where
    is_until : (f : Formula) (o : Binary) (l r : Formula) → node_at ops nums i ≡ two_of o → f ≡ two o l r → faults f ≡ unless_both (pure l) (pure r) UntilOperand
    unfolding node_at faults
    is_until f o l r t e = ap faults (e ∙ ap (λ (x : Binary). two x l r) (only_until o (subst (λ (n : ℕ). 12 ≤ n) (binary_number _ _ o t) h)))

    left_impure : (b c : Bool) (n : Refusal) (e d : ℕ) → Err n ≡ top_of (unless b UntilOperand) e → Err n ≡ top_of (unless_both b c UntilOperand) d
    left_impure true c n e d z = fault_upto z
    left_impure false c n e d z = z

    left_pure : (b : Bool) (e m : ℕ) → Ok m ≡ top_of (unless b UntilOperand) e → (b ≡ true) × (m ≡ e)
    left_pure true e m z = (refl, top_inj z)
    left_pure false e m z = fault_upto (sym z)

    pub until_left : (n : Refusal) → left ≡ Err n → Judged ops nums i (Err n)
    until_left n q = record {
      is = λ f s.
          let (o, l, r, t, e, u, w) = two_there ops nums i f s (omega arith) in
          left_impure (pure l) (pure r) n (i + 1 + size l) (i + size f) (sym q ∙ p.is l u) ∙ ap (λ (x : List Refusal). top_of x (i + size f)) (sym (is_until f o l r t e));
    }

    pub until_end : (e : ℕ) → left ≡ Ok e → (f : Formula) → Spells (node_at ops nums) (i + 1) f → e ≡ i + 1 + size f
    until_end e q f s = (left_pure (pure f) _ e (sym q ∙ p.is f s)).1

    pub until_two : (e : ℕ) (right : Returned ℕ Refusal) → left ≡ Ok e → Operand ops nums e UntilOperand right → Judged ops nums i right
    unfolding size
    until_two e right q w = record {
      is = λ f s.
          let (o, l, r, t, z, u, v) = two_there ops nums i f s (omega arith) in
          let (c, m) = left_pure (pure l) _ e (sym q ∙ p.is l u) in
          w.is r (subst (λ (j : ℕ). Spells (node_at ops nums) j r) (sym m) v)
          ∙ ap₂ top_of (sym (is_until f o l r t z ∙ ap (λ (x : Bool). unless_both x (pure r) UntilOperand) c)) (omega (arith, ap (λ (x : Formula). size x) z));
    }

    pub until_behind : Placed ops nums i → (e : ℕ) → left ≡ Ok e → Placed ops nums e
    until_behind g e z = placed_right ops nums i g e (omega arith) (until_end e z)
