-- One step of the walks over a pure formula.
use mathlib.Core.Path.{◌≡◌, refl, sym, ap, ap₂, subst, ◌∙◌}
use mathlib.Core.Bool.{Bool, true, false, ◌&&◌}
use mathlib.Core.Bool as bool
use mathlib.Core.List.{List}
use mathlib.Core.Logic.{⊎_elim}
use Prim.Native.Nat.{ℕ, ◌+◌, ◌*◌, ◌≤◌, ◌<◌}
use native.Mathlib.Omega.{arith}
use borrow.Author.Tests.{lt-ltb, le-ltb, leb-true}
use lib.ListN.{length, get_or}
use Rattle.formula.specs.Tree.{one, two, one_of, two_of, size, all}
use Rattle.formula.specs.Spells.{Spells}
use Rattle.formula.specs.Formula.{Unary, Binary, Formula, signal, not, next, always, eventually, always_for, within, and, or, implies, until}
use Rattle.formula.specs.Table.{node_at, in_word, Placed}
use Rattle.formula.specs.Pure.{pure, value, joined, bit}
use Rattle.formula.specs.Signal.{end_if, Purely, Signalled, Valued, signal_nodes}
use Rattle.std.specs.Prelude.{None, Option, Some}
use Rattle.formula.specs.declared.signal.Value.{Value}
use Rattle.formula.proofs.Cases.{below_or, true_false}
use Rattle.formula.proofs.Trees.{spells_unique}
use Rattle.formula.proofs.Nodes.{number_of, unary_number, binary_number}
use Rattle.formula.proofs.Walks.{both_true, stuck_upto, upto_inj}
use Rattle.formula.proofs.Places.{leaf_there, one_there, two_there, in_ops, in_nums, placed_one, placed_right, fewer_one, fewer_left, fewer_right}

-- ---- purity
pure_one : (o : Unary) (f : Formula) → number_of (one_of o) ≡ 3 → pure (one o f) ≡ pure f
unfolding pure
pure_one not f h = refl
pure_one next f h = absurd (omega arith)
pure_one always f h = absurd (omega arith)
pure_one eventually f h = absurd (omega arith)
pure_one (always_for b) f h = absurd (omega arith)
pure_one (within b) f h = absurd (omega arith)

impure_one : (o : Unary) (f : Formula) → 4 ≤ number_of (one_of o) → pure (one o f) ≡ false
unfolding pure
impure_one not f h = absurd (omega arith)
impure_one next f h = refl
impure_one always f h = refl
impure_one eventually f h = refl
impure_one (always_for b) f h = refl
impure_one (within b) f h = refl

pub pure_two : (o : Binary) (l r : Formula) → number_of (two_of o) < 12 → pure (two o l r) ≡ (pure l && pure r)
unfolding pure
pure_two and l r h = refl
pure_two or l r h = refl
pure_two implies l r h = refl
pure_two until l r h = absurd (omega arith)

impure_two : (o : Binary) (l r : Formula) → 12 ≤ number_of (two_of o) → pure (two o l r) ≡ false
unfolding pure
impure_two and l r h = absurd (omega arith)
impure_two or l r h = absurd (omega arith)
impure_two implies l r h = absurd (omega arith)
impure_two until l r h = refl

-- what the walk's answer says of the formula that stands there
ends_at : (b : Bool) (e n : ℕ) → Some e ≡ end_if b n → (b ≡ true) × (e ≡ n)
ends_at true e n z = (refl, upto_inj z)
ends_at false e n z = stuck_upto (sym z)

impure_by : (b : Bool) (e : ℕ) → None ≡ end_if b e → b ≡ false
impure_by true e z = stuck_upto z
impure_by false e z = refl

module _ (ops nums : List ℕ) (i : ℕ) (w : Option ℕ) (p : Purely ops nums i w) (f : Formula) (s : Spells (node_at ops nums) i f) where
  pub purely_yes : (e : ℕ) → w ≡ Some e → (pure f ≡ true) × (e ≡ i + size f)
  purely_yes e q = ends_at (pure f) e (i + size f) (sym q ∙ p.is f s)

  pub purely_no : w ≡ None → pure f ≡ false
  purely_no q = impure_by (pure f) (i + size f) (sym q ∙ p.is f s)

module _ (ops nums : List ℕ) (i : ℕ) where
  pub purely_leaf : get_or ops i 0 < 3 → Purely ops nums i (Some (i + 1))
  unfolding pure size
  purely_leaf h = record {
    is = λ f s.
        let (a, e, n) = leaf_there ops nums i f s h in
        rw e refl;
  }

  pub purely_not : (r : Option ℕ) → 3 ≤ get_or ops i 0 → get_or ops i 0 < 4 → Purely ops nums (i + 1) r → Purely ops nums i r
  unfolding size node_at
  purely_not r h k p = record {
    is = λ f s.
        let (o, g, t, e, u) = one_there ops nums i f s (omega arith) (omega arith) in
        let z : number_of (one_of o) ≡ 3 = sym (unary_number _ _ o t) ∙ omega arith in
        p.is g u ∙ ap₂ end_if (sym (ap pure e ∙ pure_one o g z)) (omega (arith, ap (λ (x : Formula). size x) e));
  }

  pub purely_temporal : 4 ≤ get_or ops i 0 → get_or ops i 0 < 9 → Purely ops nums i None
  unfolding node_at
  purely_temporal h k = record {
    is = λ f s.
        let (o, g, t, e, u) = one_there ops nums i f s (omega arith) k in
        rw (ap pure e ∙ impure_one o g (subst (λ (n : ℕ). 4 ≤ n) (unary_number _ _ o t) h)) refl;
  }

  pub purely_until : 12 ≤ get_or ops i 0 → Purely ops nums i None
  unfolding node_at
  purely_until h = record {
    is = λ f s.
        let (o, l, r, t, e, u, w) = two_there ops nums i f s (omega arith) in
        rw (ap pure e ∙ impure_two o l r (subst (λ (n : ℕ). 12 ≤ n) (binary_number _ _ o t) h)) refl;
  }

  module _ (left : Option ℕ) (h : 9 ≤ get_or ops i 0) (k : get_or ops i 0 < 12) (p : Purely ops nums (i + 1) left) where
    pub purely_left : (r : Option ℕ) → left ≡ None → r ≡ None → Purely ops nums i r
    unfolding node_at
    purely_left r q z = record {
      is = λ f s.
          let (o, l, n, t, e, u, w) = two_there ops nums i f s h in
          let b : pure f ≡ (pure l && pure n) = ap pure e ∙ pure_two o l n (subst (λ (m : ℕ). m < 12) (binary_number _ _ o t) k) in
          z ∙ sym (ap (λ (x : Bool). end_if x (i + size f)) (b ∙ ap (λ (x : Bool). x && pure n) (impure_by (pure l) (i + 1 + size l) (sym q ∙ p.is l u))));
    }

    pub purely_end : (e : ℕ) → left ≡ Some e → (f : Formula) → Spells (node_at ops nums) (i + 1) f → e ≡ i + 1 + size f
    purely_end e q f s = (ends_at (pure f) e _ (sym q ∙ p.is f s)).1

    pub purely_two : (e : ℕ) (right : Option ℕ) → left ≡ Some e → Purely ops nums e right → Purely ops nums i right
    unfolding size node_at
    purely_two e right q w = record {
      is = λ f s.
          let (o, l, r, t, z, u, v) = two_there ops nums i f s h in
          let b : pure f ≡ (pure l && pure r) = ap pure z ∙ pure_two o l r (subst (λ (n : ℕ). n < 12) (binary_number _ _ o t) k) in
          let (c, m) = ends_at (pure l) e _ (sym q ∙ p.is l u) in
          w.is r (subst (λ (j : ℕ). Spells (node_at ops nums) j r) (sym m) v)
          ∙ ap₂ end_if (sym (b ∙ ap (λ (x : Bool). x && pure r) c)) (omega (arith, ap (λ (x : Formula). size x) z));
    }

  -- ---- the calls of the purity walk
  pub placed_not : Placed ops nums i → 3 ≤ get_or ops i 0 → get_or ops i 0 < 4 → Placed ops nums (i + 1)
  placed_not p h k = placed_one ops nums i p h (omega arith)

  pub fewer_not : Placed ops nums i → 3 ≤ get_or ops i 0 → get_or ops i 0 < 4 → (t : ℕ) → signal_nodes ops nums i ≡ t → signal_nodes ops nums (i + 1) < t
  fewer_not p h k t q = fewer_one ops nums i p h (omega arith) t q

  module _ (p : Placed ops nums i) (left : Option ℕ) (e : ℕ) (h : 9 ≤ get_or ops i 0) (k : get_or ops i 0 < 12) (q : Purely ops nums (i + 1) left) (z : left ≡ Some e) where
    pub placed_behind : Placed ops nums e
    placed_behind = placed_right ops nums i p e h (purely_end left h k q e z)

    pub fewer_behind : (t : ℕ) → signal_nodes ops nums i ≡ t → signal_nodes ops nums e < t
    fewer_behind t m = fewer_right ops nums i p e h (purely_end left h k q e z) t m

-- ---- values
module _ (op : ℕ) (l r : Bool) where
  pub and_left : op < 10 → l ≡ true → r ≡ joined op l r
  and_left h e = rw (lt-ltb op 10 h, e) refl

  pub and_not : op < 10 → l ≡ false → false ≡ joined op l r
  and_not h e = rw (lt-ltb op 10 h, e) refl

  pub or_left : 10 ≤ op → op < 11 → l ≡ true → true ≡ joined op l r
  or_left g h e = rw (le-ltb op 10 g, lt-ltb op 11 h, e) refl

  pub or_right : 10 ≤ op → op < 11 → l ≡ false → r ≡ joined op l r
  or_right g h e = rw (le-ltb op 10 g, lt-ltb op 11 h, e) refl

  pub implies_left : 10 ≤ op → 11 ≤ op → l ≡ true → r ≡ joined op l r
  implies_left g h e = rw (le-ltb op 10 g, le-ltb op 11 h, e) refl

  pub implies_not : 10 ≤ op → 11 ≤ op → l ≡ false → true ≡ joined op l r
  implies_not g h e = rw (le-ltb op 10 g, le-ltb op 11 h, e) refl

-- a pure word with one operand is `not`; one with two is `and`, `or` or `implies`
only_not : (o : Unary) (f : Formula) → pure (one o f) ≡ true → (o ≡ not) × (pure f ≡ true)
unfolding pure
only_not not f h = (refl, h)
only_not next f h = true_false h refl
only_not always f h = true_false h refl
only_not eventually f h = true_false h refl
only_not (always_for b) f h = true_false h refl
only_not (within b) f h = true_false h refl

value_joined : (o : Binary) (l r : Formula) (w : ℕ) → pure (two o l r) ≡ true → value (two o l r) w ≡ joined (number_of (two_of o)) (value l w) (value r w)
unfolding pure value
value_joined and l r w h = refl
value_joined or l r w h = refl
value_joined implies l r w h = refl
value_joined until l r w h = true_false h refl

pure_parts : (o : Binary) (l r : Formula) → pure (two o l r) ≡ true → (pure l ≡ true) × (pure r ≡ true)
unfolding pure
pure_parts and l r h = both_true (pure l) (pure r) h
pure_parts or l r h = both_true (pure l) (pure r) h
pure_parts implies l r h = both_true (pure l) (pure r) h
pure_parts until l r h = true_false h refl

module _ (ops nums : List ℕ) (i : ℕ) (g : Signalled ops nums i) where
  pub sig_in_ops : i < length ops
  sig_in_ops = in_ops ops nums i g.place

  pub sig_in_nums : i < length nums
  sig_in_nums = in_nums ops nums i g.place

  pub sig_small : get_or ops i 0 < 3 → get_or nums i 0 < 64
  unfolding all
  sig_small h =
      let (a, e, n) = leaf_there ops nums i g.place.formula g.place.spells h in
      let s : signal a ≤ 63 = leb-true (signal a) 63 (sym (ap (all in_word) e) ∙ g.word_fits) in
      omega arith

  pub sig_not : 3 ≤ get_or ops i 0 → get_or ops i 0 < 9 → Signalled ops nums (i + 1)
  unfolding size all
  sig_not h k =
      let p = g.place in
      let (o, x, t, e, u) = one_there ops nums i p.formula p.spells h k in
      let z : size p.formula ≡ 1 + size x = ap (λ (y : Formula). size y) e in
      record {
        place = record { formula = x; spells = u; in_ops = omega (arith, p.in_ops); in_nums = omega (arith, p.in_nums) };
        is_pure = (only_not o x (sym (ap pure e) ∙ g.is_pure)).1;
        word_fits = sym (ap (all in_word) e) ∙ g.word_fits;
      }

  pub sig_left : 9 ≤ get_or ops i 0 → Signalled ops nums (i + 1)
  unfolding size all
  sig_left h =
      let p = g.place in
      let (o, l, r, t, e, u, v) = two_there ops nums i p.formula p.spells h in
      let z : size p.formula ≡ 1 + size l + size r = ap (λ (y : Formula). size y) e in
      record {
        place = record { formula = l; spells = u; in_ops = omega (arith, p.in_ops); in_nums = omega (arith, p.in_nums) };
        is_pure = (pure_parts o l r (sym (ap pure e) ∙ g.is_pure)).0;
        word_fits = (both_true (all in_word l) (all in_word r) (sym (ap (all in_word) e) ∙ g.word_fits)).0;
      }

  pub sig_next : 3 ≤ get_or ops i 0 → Signalled ops nums (i + 1)
  sig_next h = ⊎_elim (λ k. sig_not h k) (λ k. sig_left k) (below_or (get_or ops i 0) 9)

  -- the measure of the walk, three for each node of the signal, falls
  pub sig_falls : 3 ≤ get_or ops i 0 → (t : ℕ) → 2 * signal_nodes ops nums i ≡ t → 2 * signal_nodes ops nums (i + 1) + 1 < t
  sig_falls h t q = ⊎_elim
      (λ k. omega (arith, fewer_one ops nums i g.place h k _ refl))
      (λ k. omega (arith, fewer_left ops nums i g.place k _ refl))
      (below_or (get_or ops i 0) 9)

  -- past `not` the other pure words have two operands
  pub two_words : 4 ≤ get_or ops i 0 → 9 ≤ get_or ops i 0
  unfolding node_at
  two_words h = ⊎_elim
      (λ k.
      let (o, x, t, e, u) = one_there ops nums i g.place.formula g.place.spells (omega arith) k in
      let n : o ≡ not = (only_not o x (sym (ap pure e) ∙ g.is_pure)).0 in
      absurd (omega (arith, unary_number _ _ o t, ap (λ (y : Unary). number_of (one_of y)) n)))
      (λ k. k)
      (below_or (get_or ops i 0) 9)

  module _ (w : ℕ) (v : Value) (x : Valued ops nums (i + 1) w v) (h : 4 ≤ get_or ops i 0) where
    pub sig_right : Signalled ops nums v.end
    unfolding size all
    sig_right =
        let p = g.place in
        let (o, l, r, t, e, u, y) = two_there ops nums i p.formula p.spells (two_words h) in
        let z : size p.formula ≡ 1 + size l + size r = ap (λ (q : Formula). size q) e in
        let m : v.end ≡ i + 1 + size l = (x.is l u).1 in
        record {
          place = record { formula = r; spells = subst (λ (j : ℕ). Spells (node_at ops nums) j r) (sym m) y; in_ops = omega (arith, p.in_ops); in_nums = omega (arith, p.in_nums) };
          is_pure = (pure_parts o l r (sym (ap pure e) ∙ g.is_pure)).1;
          word_fits = (both_true (all in_word l) (all in_word r) (sym (ap (all in_word) e) ∙ g.word_fits)).1;
        }

    pub sig_falls_right : (t : ℕ) → 2 * signal_nodes ops nums i ≡ t → 2 * signal_nodes ops nums v.end + 1 < t
    sig_falls_right t q = omega (arith, fewer_right ops nums i g.place v.end (two_words h) (λ f u. (x.is f u).1) _ refl)

    pub valued_two : (y : Value) (b : Bool) → Valued ops nums v.end w y → b ≡ joined (get_or ops i 0) v.value y.value → Valued ops nums i w (record { value = b; end = y.end })
    unfolding size node_at
    valued_two y b q j = record {
      is = λ f s.
          let (o, l, r, t, e, u, k) = two_there ops nums i f s (two_words h) in
          let m : v.end ≡ i + 1 + size l = (x.is l u).1 in
          let n = q.is r (subst (λ (c : ℕ). Spells (node_at ops nums) c r) (sym m) k) in
          let same : f ≡ g.place.formula = spells_unique (node_at ops nums) i f g.place.formula s g.place.spells in
          (j ∙ ap₂ (joined (get_or ops i 0)) (x.is l u).0 n.0 ∙ ap (λ (d : ℕ). joined d (value l w) (value r w)) (binary_number _ _ o t) ∙ sym (ap (λ (d : Formula). value d w) e ∙ value_joined o l r w (sym (ap pure e) ∙ ap pure same ∙ g.is_pure)), omega (arith, n.1, ap (λ (c : Formula). size c) e));
    }

  pub valued_not : (w : ℕ) (v : Value) → Valued ops nums (i + 1) w v → 3 ≤ get_or ops i 0 → get_or ops i 0 < 4 → Valued ops nums i w (record { value = bool.not v.value; end = v.end })
  unfolding size node_at value
  valued_not w v x h k = record {
    is = λ f s.
        let (o, c, t, e, u) = one_there ops nums i f s h (omega arith) in
        let same : f ≡ g.place.formula = spells_unique (node_at ops nums) i f g.place.formula s g.place.spells in
        let n : o ≡ not = (only_not o c (sym (ap pure e) ∙ ap pure same ∙ g.is_pure)).0 in
        (ap bool.not (x.is c u).0 ∙ sym (ap (λ (d : Formula). value d w) (e ∙ ap (λ (d : Unary). one d c) n)), omega (arith, (x.is c u).1, ap (λ (d : Formula). size d) e));
  }

  pub valued_leaf : (w : ℕ) (b : Bool) → b ≡ bit (get_or nums i 0) w → get_or ops i 0 < 3 → Valued ops nums i w (record { value = b; end = i + 1 })
  unfolding size value
  valued_leaf w b q h = record {
    is = λ f s.
        let (a, e, n) = leaf_there ops nums i f s h in
        (q ∙ sym (ap (λ (c : Formula). value c w) e ∙ ap (λ (m : ℕ). bit m w) n), ap (λ (m : ℕ). i + m) (sym (ap (λ (c : Formula). size c) e)));
  }
