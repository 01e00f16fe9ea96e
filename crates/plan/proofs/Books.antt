-- The bits of a book's rules: the sums over rules, and the outputs rule by rule.
use mathlib.Core.Path.{◌≡◌, refl, sym, ap, ap₂, ◌∙◌}
use mathlib.Core.Bool.{Bool, true, false, ◌&&◌, not}
use mathlib.Core.Logic.{⊎_elim}
use mathlib.Core.List.{List, [], ◌∷◌, ◌++◌}
use Prim.Native.Nat.{ℕ, zero, suc, ◌+◌, ◌*◌, ◌^◌, ◌≤◌, ◌<◌}
use native.Mathlib.Omega.{arith}
use native.Mathlib.Numerals.{add-one}
use native.Mathlib.Nat.{add-zero, zero-add, add-suc, suc-add, add_assoc}
use lib.ListN.{length, get_or, set, length-append}
use lib.Seq.{sets, length-sets, get_or-set_same, get_or-set_other}
use Rattle.terms.specs.Choice.{pick}
use Rattle.formula.proofs.Cases.{below_or}
use Rattle.plan.specs.Book.{bits_below, properties, assumptions, first_bit, listed, kept, filled_in, is_zero, part_bits, Rowed, Chosen, Counted, Stored, Arranged}

-- ---- sums over rules
pub counted_none : (chosen : ℕ → Bool) (bits : ℕ → ℕ) → Counted chosen bits 0 0
unfolding bits_below
counted_none chosen bits = record { is = refl; most = omega arith }

pub counted_more : (chosen : ℕ → Bool) (bits : ℕ → ℕ) (r s b : ℕ) → Counted chosen bits r s → Chosen chosen bits r b → Counted chosen bits (r + 1) (s + b)
unfolding bits_below
counted_more chosen bits r s b c d = record {
  is = ap₂ ◌+◌ c.is d.is ∙ sym (ap (bits_below chosen bits) (add-one r));
  most = omega (arith, c.most, d.most);
}

-- ---- the outputs, rule by rule
sets_snoc : (xs l : List ℕ) (i v : ℕ) → sets l i (xs ++ (v ∷ [])) ≡ set (sets l i xs) (i + length xs) v
sets_snoc [] l i v = ap (λ (k : ℕ). set l k v) (sym (add-zero i))
sets_snoc (x ∷ xs) l i v =
    sets_snoc xs (set l i x) (suc i) v ∙ ap (λ (k : ℕ). set (sets (set l i x) (suc i) xs) k v) (suc-add i (length xs) ∙ sym (add-suc i (length xs)))

get_d_past : (xs l : List ℕ) (i j : ℕ) → i + length xs ≤ j → get_or (sets l i xs) j 0 ≡ get_or l j 0
get_d_past [] l i j h = refl
get_d_past (x ∷ xs) l i j h =
    let n : j ≡ i → ⊥ = λ e. omega arith in
    get_d_past xs (set l i x) (suc i) j (omega arith) ∙ get_or-set_other l i j x 0 n

listed_length : (f : ℕ → ℕ) (r : ℕ) → length (listed f r) ≡ r
unfolding listed
listed_length f zero = refl
listed_length f (suc r) = length-append (listed f r) (f r ∷ []) ∙ omega (arith, listed_length f r)

pub fill_none : (old : List ℕ) (g : ℕ → ℕ) → sets old 0 (listed g 0) ≡ old
unfolding listed
fill_none old g = refl

pub fill_more : (old : List ℕ) (g : ℕ → ℕ) (r v : ℕ) → v ≡ g r → set (sets old 0 (listed g r)) r v ≡ sets old 0 (listed g (r + 1))
unfolding listed
fill_more old g r v e =
    ap₂ (λ (k w : ℕ). set (sets old 0 (listed g r)) k w) (sym (zero-add (length (listed g r)) ∙ listed_length g r)) e
    ∙ sym (sets_snoc (listed g r) old 0 (g r))
    ∙ sym (ap (λ (k : ℕ). sets old 0 (listed g k)) (add-one r))

fill_same : (old : List ℕ) (g : ℕ → ℕ) (r : ℕ) → get_or (sets old 0 (listed g r)) r 0 ≡ get_or old r 0
fill_same old g r = get_d_past (listed g r) old 0 r (omega (arith, listed_length g r))

fill_value : (old : List ℕ) (g : ℕ → ℕ) (n r : ℕ) → r < n → n ≤ length old → get_or (sets old 0 (listed g n)) r 0 ≡ g r
fill_value old g zero r h k = absurd (omega arith)
fill_value old g (suc n) r h k =
    let e : sets old 0 (listed g (suc n)) ≡ set (sets old 0 (listed g n)) n (g n) =
    ap (λ (m : ℕ). sets old 0 (listed g m)) (sym (add-one n)) ∙ sym (fill_more old g n (g n) refl) in
    ap (λ (l : List ℕ). get_or l r 0) e
    ∙ ⊎_elim
    (λ w. get_or-set_other (sets old 0 (listed g n)) n r (g n) 0 (λ z. omega arith) ∙ fill_value old g n r w (omega arith))
    (λ w.
    let z : r ≡ n = omega arith in
    ap (λ (m : ℕ). get_or (set (sets old 0 (listed g n)) n (g n)) m 0) z
    ∙ get_or-set_same (sets old 0 (listed g n)) n (g n) 0 (omega (arith, length-sets old 0 (listed g n)))
    ∙ sym (ap g z))
    (below_or r n)

-- what the layout leaves for a rule that compiles
pub filled_value : (compiled : ℕ → Bool) (f : ℕ → ℕ) (old : List ℕ) (n r : ℕ) → r < n → n ≤ length old → compiled r ≡ true → get_or (filled_in compiled f old n) r 0 ≡ f r
filled_value compiled f old n r h k e = fill_value old (kept compiled f old) n r h k ∙ ap (λ (b : Bool). pick b (f r) (get_or old r 0)) e

-- ---- two ways to know the rules below n: first bits depend only on what they agree in
pub same_below : (c d : ℕ → Bool) (f g : ℕ → ℕ) (n : ℕ) → ((r : ℕ) → r < n → pick (c r) (f r) 0 ≡ pick (d r) (g r) 0) → bits_below c f n ≡ bits_below d g n
unfolding bits_below
same_below c d f g zero h = refl
same_below c d f g (suc n) h = ap₂ ◌+◌ (same_below c d f g n (λ r l. h r (omega arith))) (h n (omega arith))

pub pick_same : (c : Bool) (u v w : ℕ) → (c ≡ true → u ≡ v) → pick c u w ≡ pick c v w
pick_same true u v w h = h refl
pick_same false u v w h = refl

and_first : (a b : Bool) → (a && b) ≡ true → a ≡ true
and_first true b e = refl
and_first false b e = e

module _ (n : ℕ) (p q c d : ℕ → Bool) (f g : ℕ → ℕ) (same_kind : (r : ℕ) → r < n → p r ≡ q r) (same-compiled : (r : ℕ) → r < n → c r ≡ d r) (same_bits : (r : ℕ) → r < n → c r ≡ true → f r ≡ g r) where
  same_chosen : (to : Bool → Bool) (m : ℕ) → m ≤ n → bits_below (λ r. c r && to (p r)) f m ≡ bits_below (λ r. d r && to (q r)) g m
  same_chosen to m l = same_below (λ r. c r && to (p r)) (λ r. d r && to (q r)) f g m λ r k.
      pick_same (c r && to (p r)) (f r) (g r) 0 (λ e. same_bits r (omega arith) (and_first (c r) (to (p r)) e))
      ∙ ap₂ (λ (x y : Bool). pick (x && to y) (g r) 0) (same-compiled r (omega arith)) (same_kind r (omega arith))

  pub same_first : (base r : ℕ) → r < n → first_bit base n p c f r ≡ first_bit base n q d g r
  same_first base r l =
      ap (λ (k : ℕ). base + k)
      (ap₂ (λ (u v : ℕ). pick (p r) u v) (same_chosen (λ b. b) r (omega arith))
      (ap₂ ◌+◌ (same_chosen (λ b. b) n (omega arith)) (same_chosen not r (omega arith)))
      ∙ ap (λ (b : Bool). pick b (bits_below (properties q d) g r) (bits_below (properties q d) g n + bits_below (assumptions q d) g r)) (same_kind r l))

one_of_two : (c q : Bool) (v p a u : ℕ) → p ≡ pick (c && q) v 0 → a ≡ pick (c && not q) v 0 → pick c (p + a) u ≡ pick c v u
one_of_two true true v p a u e f = omega arith
one_of_two true false v p a u e f = omega arith
one_of_two false q v p a u e f = refl

-- r rules are placed: behind the base, x is the next property's first bit, y the next assumption's
pub record Arranging (kinds refusals nodes nfirsts ncounts : List ℕ) (base n : ℕ) (starts starts' bits bits' : List ℕ) (x y r : ℕ) : Type 0 where
  pub low : base < 2 ^ 63
  pub rowed : Rowed kinds refusals nodes nfirsts ncounts n
  pub in_starts : n ≤ length starts
  pub in_bits : n ≤ length bits
  pub below : r ≤ n
  pub next_property : Counted (properties (is_zero kinds) (is_zero refusals)) (part_bits nodes nfirsts ncounts) r x
  pub next_assumption : y ≡ bits_below (properties (is_zero kinds) (is_zero refusals)) (part_bits nodes nfirsts ncounts) n + bits_below (assumptions (is_zero kinds) (is_zero refusals)) (part_bits nodes nfirsts ncounts) r
  pub most : y ≤ 16640 * n + 16640 * r
  pub firsts_are : starts' ≡ filled_in (is_zero refusals) (first_bit base n (is_zero kinds) (is_zero refusals) (part_bits nodes nfirsts ncounts)) starts r
  pub bits_are : bits' ≡ filled_in (is_zero refusals) (part_bits nodes nfirsts ncounts) bits r

module _ (kinds refusals nodes nfirsts ncounts : List ℕ) (base n : ℕ) (starts bits : List ℕ) where
  pub arranging_none : (y : ℕ) → Rowed kinds refusals nodes nfirsts ncounts n → n ≤ length starts → n ≤ length bits → base < 2 ^ 63
      → Counted (properties (is_zero kinds) (is_zero refusals)) (part_bits nodes nfirsts ncounts) n y → Arranging kinds refusals nodes nfirsts ncounts base n starts starts bits bits 0 y 0
  unfolding bits_below listed
  arranging_none y w a b l c = record {
    low = l;
    rowed = w;
    in_starts = a;
    in_bits = b;
    below = omega arith;
    next_property = counted_none _ _;
    next_assumption = omega (arith, c.is);
    most = omega (arith, c.most);
    firsts_are = refl;
    bits_are = refl;
  }

  module _ (starts' bits' : List ℕ) (x y r : ℕ) (g : Arranging kinds refusals nodes nfirsts ncounts base n starts starts' bits bits' x y r) where
    pub arranged : n ≤ r → Arranged base n (is_zero kinds) (is_zero refusals) (part_bits nodes nfirsts ncounts) starts starts' bits bits'
    arranged h =
        let e : r ≡ n = omega (arith, g.below) in
        record {
          firsts_are = g.firsts_are ∙ ap (filled_in (is_zero refusals) (first_bit base n (is_zero kinds) (is_zero refusals) (part_bits nodes nfirsts ncounts)) starts) e;
          bits_are = g.bits_are ∙ ap (filled_in (is_zero refusals) (part_bits nodes nfirsts ncounts) bits) e;
        }

    module _ (h : r < n) where
      module _ (p a : ℕ) (d : Chosen (properties (is_zero kinds) (is_zero refusals)) (part_bits nodes nfirsts ncounts) r p) (f : Chosen (assumptions (is_zero kinds) (is_zero refusals)) (part_bits nodes nfirsts ncounts) r a) where
        pub arranging_more : (starts'' bits'' : List ℕ) → Stored (is_zero refusals r) (is_zero kinds r) r (base + x) (base + y) (p + a) starts' starts'' bits' bits''
            → Arranging kinds refusals nodes nfirsts ncounts base n starts starts'' bits bits'' (x + p) (y + a) (r + 1)
        unfolding bits_below
        arranging_more starts'' bits'' s = record {
          low = g.low;
          rowed = g.rowed;
          in_starts = g.in_starts;
          in_bits = g.in_bits;
          below = omega arith;
          next_property = counted_more _ _ r x p g.next_property d;
          next_assumption =
              ap₂ ◌+◌ g.next_assumption f.is
              ∙ add_assoc _ _ _
              ∙ ap (λ (k : ℕ). bits_below (properties (is_zero kinds) (is_zero refusals)) (part_bits nodes nfirsts ncounts) n + bits_below (assumptions (is_zero kinds) (is_zero refusals)) (part_bits nodes nfirsts ncounts) k) (sym (add-one r));
          most = omega (arith, g.most, f.most);
          firsts_are =
              s.first_is
              ∙ ap (λ (l : List ℕ). set l r (pick (is_zero refusals r) (pick (is_zero kinds r) (base + x) (base + y)) (get_or l r 0))) g.firsts_are
              ∙ fill_more starts firsts r _ (first_value (is_zero refusals r));
          bits_are =
              s.bits_are
              ∙ ap (λ (l : List ℕ). set l r (pick (is_zero refusals r) (p + a) (get_or l r 0))) g.bits_are
              ∙ fill_more bits widths r _ (bits_value (is_zero refusals r) (is_zero kinds r) d.is f.is);
        }
          where
            firsts : ℕ → ℕ
            firsts = kept (is_zero refusals) (first_bit base n (is_zero kinds) (is_zero refusals) (part_bits nodes nfirsts ncounts)) starts

            widths : ℕ → ℕ
            widths = kept (is_zero refusals) (part_bits nodes nfirsts ncounts) bits

            pick_add : (c : Bool) (u v : ℕ) → pick c (base + u) (base + v) ≡ base + pick c u v
            pick_add true u v = refl
            pick_add false u v = refl

            first_value : (c : Bool)
                → pick c (pick (is_zero kinds r) (base + x) (base + y)) (get_or (sets starts 0 (listed firsts r)) r 0) ≡ pick c (first_bit base n (is_zero kinds) (is_zero refusals) (part_bits nodes nfirsts ncounts) r) (get_or starts r 0)
            first_value true =
                pick_add (is_zero kinds r) x y
                ∙ ap₂ (λ (u v : ℕ). base + pick (is_zero kinds r) u v) g.next_property.is g.next_assumption
            first_value false = fill_same starts firsts r

            bits_value : (c q : Bool) → p ≡ pick (c && q) (part_bits nodes nfirsts ncounts r) 0 → a ≡ pick (c && not q) (part_bits nodes nfirsts ncounts r) 0
                → pick c (p + a) (get_or (sets bits 0 (listed widths r)) r 0) ≡ pick c (part_bits nodes nfirsts ncounts r) (get_or bits r 0)
            bits_value c q u v = one_of_two c q (part_bits nodes nfirsts ncounts r) p a _ u v ∙ ap (pick c (part_bits nodes nfirsts ncounts r)) (fill_same bits widths r)
