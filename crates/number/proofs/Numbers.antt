-- The value of digits is found from the left, and every return of the code gives what the definition says.
use mathlib.Core.Path.{◌≡◌, refl, sym, ap, subst, ◌∙◌}
use mathlib.Core.Bool.{Bool, true, false, ◌&&◌, not}
use mathlib.Core.List.{List, [], ◌∷◌}
use mathlib.Core.Logic.{◌⊎◌, inl, inr, ⊎_elim}
use Prim.Native.Nat.{ℕ, suc, ◌+◌, ◌-◌, ◌*◌, ◌^◌, ◌/◌, ◌≤◌, ◌<◌}
use native.Mathlib.Omega.{arith}
use native.Mathlib.Numerals.{add-one}
use native.Mathlib.Nat.{pow-succ', pow-zero, mul-one, add-zero, add_assoc, mul_assoc, add-mul, le-div_iff_mul-le, pow-le-pow_right, mul-le-mul_left}
use borrow.Author.Tests.{ltb-true, ltb-false, lt-ltb, le-ltb, eq-eqb, ne_eqb}
use lib.Dec.{ltb, eqb}
use lib.ListN.{length, get_or, drop, drop_of_length-le}
use lib.Seq.{drop-cons}
use Rattle.terms.specs.Choice.{pick}
use Rattle.number.specs.Number.{digit_of, below, places, value_in, plain, decimal_of, hex_of, Digit}
use Rattle.std.specs.Prelude.{None, Option, Some}

pub below_or : (a b : ℕ) → (a < b) ⊎ (b ≤ a)
below_or a b = go (ltb a b) refl
  where
    go : (t : Bool) → ltb a b ≡ t → (a < b) ⊎ (b ≤ a)
    go true e = inl (ltb-true a b e)
    go false e = inr (ltb-false a b e)

-- ---- from the left
unfoldable pub go_on : ℕ → ℕ → List ℕ → Option ℕ
go_on base acc [] = Some acc
go_on base acc (b ∷ r) =
    pick (ltb (digit_of b) base && ltb (acc * base + digit_of b) (2 ^ 64)) (go_on base (acc * base + digit_of b) r) None

full : ℕ → ℕ → List ℕ → ℕ
full base acc l = acc * base ^ length l + places base l

full_nil : (base acc : ℕ) → full base acc [] ≡ acc
unfolding full places
full_nil base acc = rw (pow-zero, mul-one, add-zero)

full_cons : (base acc b : ℕ) (r : List ℕ) → full base acc (b ∷ r) ≡ full base (acc * base + digit_of b) r
unfolding full places
full_cons base acc b r = rw (pow-succ', add-mul, mul_assoc, add_assoc)

full_above : (base acc : ℕ) (l : List ℕ) → 1 ≤ base → acc ≤ full base acc l
unfolding full
full_above base acc l h =
    let p : base ^ 0 ≤ base ^ length l = pow-le-pow_right h {i = 0} {j = length l} (omega arith) in
    let p' : 1 ≤ base ^ length l = rw pow-zero at p in
    let q : acc * 1 ≤ acc * base ^ length l = mul-le-mul_left acc p' in
    omega arith

-- what the digits still to come make of it
judged : ℕ → ℕ → List ℕ → Option ℕ
judged base acc l = pick (below base l && ltb (full base acc l) (2 ^ 64)) (Some (full base acc l)) None

and_false : (b : Bool) → (b && false) ≡ false
and_false true = refl
and_false false = refl

go_on_judged : (base acc : ℕ) (l : List ℕ) → 1 ≤ base → acc < 2 ^ 64 → go_on base acc l ≡ judged base acc l
unfolding go_on judged below
go_on_judged base acc [] h k = rw (full_nil, lt-ltb acc (2 ^ 64) k) refl
go_on_judged base acc (b ∷ r) h k = ⊎_elim
    (λ d. ⊎_elim
    (λ s. rw (full_cons, lt-ltb (digit_of b) base d, lt-ltb (acc * base + digit_of b) (2 ^ 64) s) (go_on_judged base (acc * base + digit_of b) r h s))
    (λ s. rw (full_cons, lt-ltb (digit_of b) base d, le-ltb (acc * base + digit_of b) (2 ^ 64) s, le-ltb (full base (acc * base + digit_of b) r) (2 ^ 64) (omega (arith, full_above base (acc * base + digit_of b) r h, s)), and_false (below base r)) refl)
    (below_or (acc * base + digit_of b) (2 ^ 64)))
    (λ d. rw (le-ltb _ _ d) refl)
    (below_or (digit_of b) base)

full_zero : (base : ℕ) (l : List ℕ) → full base 0 l ≡ places base l
unfolding full
full_zero base l = omega arith

pub value_goes : (base : ℕ) (l : List ℕ) → 1 ≤ base → value_in base l ≡ go_on base 0 l
unfolding value_in judged
value_goes base l h = sym (go_on_judged base 0 l h (omega arith) ∙ rw full_zero refl)

-- ---- the loop
module _ (base : ℕ) (s : List ℕ) (acc i : ℕ) (inside : i < length s) where
  pub turn : digit_of (get_or s i 0) < base → acc * base + digit_of (get_or s i 0) < 2 ^ 64 → go_on base acc (drop i s) ≡ go_on base (acc * base + digit_of (get_or s i 0)) (drop (i + 1) s)
  unfolding go_on
  turn h k = rw (add-one, drop-cons s i 0 inside, lt-ltb (digit_of (get_or s i 0)) base h, lt-ltb (acc * base + digit_of (get_or s i 0)) (2 ^ 64) k) refl

  pub no_digit : base ≤ digit_of (get_or s i 0) → go_on base acc (drop i s) ≡ None
  unfolding go_on
  no_digit h = rw (drop-cons s i 0 inside, le-ltb _ _ h) refl

  pub too_large : 2 ^ 64 ≤ acc * base + digit_of (get_or s i 0) → go_on base acc (drop i s) ≡ None
  unfolding go_on
  too_large k = ⊎_elim
      (λ h. rw (drop-cons s i 0 inside, lt-ltb (digit_of (get_or s i 0)) base h, le-ltb (acc * base + digit_of (get_or s i 0)) (2 ^ 64) k) refl)
      (λ h. no_digit h)
      (below_or (digit_of (get_or s i 0)) base)

pub ends : (base : ℕ) (s : List ℕ) (acc i : ℕ) → length s ≤ i → go_on base acc (drop i s) ≡ Some acc
unfolding go_on
ends base s acc i h = rw (drop_of_length-le s h) refl

-- the test that the next value fits
pub fits_next : (acc base d : ℕ) → 1 ≤ base → d ≤ 16 → acc ≤ (18446744073709551615 - d) / base → acc * base + d < 2 ^ 64
fits_next acc base d h k t = let p : acc * base ≤ 18446744073709551615 - d = (le-div_iff_mul-le h).0 t in omega arith

pub past_next : (acc base d : ℕ) → 1 ≤ base → d ≤ 16 → (18446744073709551615 - d) / base < acc → 2 ^ 64 ≤ acc * base + d
past_next acc base d h k t = ⊎_elim
    (λ p. let q : acc ≤ (18446744073709551615 - d) / base = (le-div_iff_mul-le h).1 (omega arith) in absurd (omega arith))
    (λ p. p)
    (below_or (acc * base + d) (2 ^ 64))

-- what the loop has found so far
pub record Sofar (base : ℕ) (s : List ℕ) (acc i : ℕ) : Type 0 where
  pub inside : i ≤ length s
  pub same : value_in base s ≡ go_on base acc (drop i s)

module _ (base : ℕ) (s : List ℕ) where
  pub sofar_first : 1 ≤ base → Sofar base s 0 0
  sofar_first h = record { inside = omega arith; same = value_goes base s h }

  pub sofar_value : (acc i : ℕ) → Sofar base s acc i → length s ≤ i → Some acc ≡ value_in base s
  sofar_value acc i v h = sym (v.same ∙ ends base s acc i h)

  module _ (acc i d : ℕ) (v : Sofar base s acc i) (inside : i < length s) (is : d ≡ digit_of (get_or s i 0)) where
    pub sofar_digit : base ≤ d → None ≡ value_in base s
    sofar_digit h = sym (v.same ∙ no_digit base s acc i inside (subst (λ (k : ℕ). base ≤ k) is h))

    pub sofar_large : 1 ≤ base → d ≤ 16 → (18446744073709551615 - d) / base < acc → None ≡ value_in base s
    sofar_large b k t = sym (v.same ∙ too_large base s acc i inside (subst (λ (k : ℕ). 2 ^ 64 ≤ acc * base + k) is (past_next acc base d b k t)))

    pub sofar_next : 1 ≤ base → d ≤ 16 → d < base → acc ≤ (18446744073709551615 - d) / base → Sofar base s (acc * base + d) (i + 1)
    sofar_next b k h t = record {
      inside = omega arith;
      same = v.same ∙ turn base s acc i inside (subst (λ (k : ℕ). k < base) is h) (subst (λ (k : ℕ). acc * base + k < 2 ^ 64) is (fits_next acc base d b k t)) ∙ ap (λ (k : ℕ). go_on base (acc * base + k) (drop (i + 1) s)) (sym is);
    }

-- ---- sixteen digits fit
places_below : (base : ℕ) (l : List ℕ) → below base l ≡ true → places base l + 1 ≤ base ^ length l
unfolding below places
places_below base [] e = rw pow-zero (omega arith)
places_below base (b ∷ r) e = go (ltb (digit_of b) base) (below base r) refl refl (places_below base r) e
  where
    go : (t u : Bool) → ltb (digit_of b) base ≡ t → below base r ≡ u → (below base r ≡ true → places base r + 1 ≤ base ^ length r) → (t && u) ≡ true → digit_of b * base ^ length r + places base r + 1 ≤ base ^ suc (length r)
    go true true p q ih _ =
        let d' : digit_of b < base = ltb-true (digit_of b) base p in
        let d : digit_of b + 1 ≤ base = omega arith in
        let m : (digit_of b + 1) * base ^ length r ≤ base * base ^ length r = native.Mathlib.Nat.mul-le-mul_right (base ^ length r) d in
        let n : (digit_of b + 1) * base ^ length r ≡ digit_of b * base ^ length r + base ^ length r = rw (add-mul, native.Mathlib.Nat.one-mul) refl in
        rw pow-succ' (omega (arith, ih q))
    go true false p q ih z = absurd (let z' : ◌≡◌ {A = ℕ} 0 1 = cc in omega arith)
    go false true p q ih z = absurd (let z' : ◌≡◌ {A = ℕ} 0 1 = cc in omega arith)
    go false false p q ih z = absurd (let z' : ◌≡◌ {A = ℕ} 0 1 = cc in omega arith)

pub hex_fits : (l : List ℕ) → length l ≡ 16 → below 16 l ≡ true → places 16 l < 2 ^ 64
hex_fits l n e = omega (arith, subst (λ (k : ℕ). places 16 l + 1 ≤ 16 ^ k) n (places_below 16 l e))

-- ---- a leading zero
module _ (l : List ℕ) where
  pub plain_none : length l ≡ 0 → false ≡ plain l
  unfolding plain
  plain_none h = go l h
    where
      go : (l : List ℕ) → length l ≡ 0 → false ≡ plain l
      go [] h = refl
      go (b ∷ r) h = absurd (omega arith)

  pub plain_one : length l ≡ 1 → true ≡ plain l
  unfolding plain
  plain_one h = go l h
    where
      go : (l : List ℕ) → length l ≡ 1 → true ≡ plain l
      go [] h = absurd (omega arith)
      go (b ∷ []) h = refl
      go (b ∷ c ∷ r) h = absurd (omega arith)

  more : (length l ≡ 0 → ⊥) → (length l ≡ 1 → ⊥) → plain l ≡ not (eqb (get_or l 0 0) 48)
  unfolding plain
  more h k = go l h k
    where
      go : (l : List ℕ) → (length l ≡ 0 → ⊥) → (length l ≡ 1 → ⊥) → plain l ≡ not (eqb (get_or l 0 0) 48)
      go [] h k = absurd (h refl)
      go (b ∷ []) h k = absurd (k refl)
      go (b ∷ c ∷ r) h k = refl

  pub plain_zero : (length l ≡ 0 → ⊥) → (length l ≡ 1 → ⊥) → get_or l 0 0 ≡ 48 → false ≡ plain l
  plain_zero h k e = sym (more h k ∙ ap not (eq-eqb _ _ e))

  pub plain_more : (length l ≡ 0 → ⊥) → (length l ≡ 1 → ⊥) → (get_or l 0 0 ≡ 48 → ⊥) → true ≡ plain l
  plain_more h k e = sym (more h k ∙ ap not (ne_eqb _ _ e))

  pub decimal_plain : (t : Bool) (r : Option ℕ) → t ≡ plain l → t ≡ true → r ≡ value_in 10 l → r ≡ decimal_of l
  unfolding decimal_of
  decimal_plain t r p q e = rw (← p, q) e

  pub decimal_wrong : (t : Bool) → t ≡ plain l → t ≡ false → None ≡ decimal_of l
  unfolding decimal_of
  decimal_wrong t p q = rw (← p, q) refl

  pub hex_value : (r : Option ℕ) → length l ≡ 16 → r ≡ value_in 16 l → r ≡ hex_of l
  unfolding hex_of
  hex_value r p e = rw (eq-eqb _ _ p) e

  pub hex_wrong : (length l ≡ 16 → ⊥) → None ≡ hex_of l
  unfolding hex_of
  hex_wrong p = rw (ne_eqb _ _ p) refl

-- ---- one digit
module _ (b : ℕ) where
  pub digit_low : b < 48 → Digit b 16
  unfolding digit_of
  digit_low h = record { is = rw (lt-ltb b 48 h) refl; small = omega arith }

  pub digit_ten : (w : ℕ) → w ≡ b → 48 ≤ b → b < 58 → Digit b (w - 48)
  unfolding digit_of
  digit_ten w e h k = record { is = rw (le-ltb b 48 h, lt-ltb b 58 k) (ap (λ (x : ℕ). x - 48) e); small = omega arith }

  pub digit_gap : 58 ≤ b → b < 97 → Digit b 16
  unfolding digit_of
  digit_gap h k = record { is = rw (le-ltb b 48 (omega arith), le-ltb b 58 h, lt-ltb b 97 k) refl; small = omega arith }

  pub digit_letter : (w : ℕ) → w ≡ b → 97 ≤ b → b < 103 → Digit b (w - 87)
  unfolding digit_of
  digit_letter w e h k = record { is = rw (le-ltb b 48 (omega arith), le-ltb b 58 (omega arith), le-ltb b 97 h, lt-ltb b 103 k) (ap (λ (x : ℕ). x - 87) e); small = omega arith }

  pub digit_high : 103 ≤ b → Digit b 16
  unfolding digit_of
  digit_high h = record { is = rw (le-ltb b 48 (omega arith), le-ltb b 58 (omega arith), le-ltb b 97 (omega arith), le-ltb b 103 h) refl; small = omega arith }
