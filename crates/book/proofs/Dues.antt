-- The depths at which operands are due, as a depth and bits: a node's operands double the bits, a leaf climbs to the next set bit.
use mathlib.Core.Path.{◌≡◌, refl, sym, ap, subst, ◌∙◌}
use mathlib.Core.Bool.{true, false}
use mathlib.Core.List.{List, []}
use Prim.Native.Nat.{ℕ, zero, suc, ◌+◌, ◌-◌, ◌*◌, ◌/◌, ◌%◌, ◌^◌, ◌≤◌, ◌<◌}
use native.Mathlib.Omega.{arith}
use native.Mathlib.Numerals.{add-one}
use native.Mathlib.Nat.{pow-succ', pos_of_ne-zero, pow-le-pow_right}
use borrow.Author.Tests.{eq-eqb, ne_eqb, lt-ltb, le-ltb}
use mir.Syntax.{w64}
use lib.Dec.{eqb}
use Rattle.std.specs.Int.{bit_at, trailing_zeros}
use Rattle.std.proofs.Common.{shr-shr}
use Rattle.std.proofs.lemmas.Nat.Bits.{bit_at_lowest, bit_at-suc, bit_at-trailing_zeros}
use Rattle.book.specs.Book.{spend}
use Rattle.book.specs.Due.{depths, due_of, Small}

depths_none : (d : ℕ) → depths d 0 ≡ []
unfolding depths
depths_none zero = refl
depths_none (suc d) = depths_none d

pub climb_none : (d b : ℕ) → b ≡ 0 → depths d b ≡ due_of 0 0
unfolding due_of
climb_none d b e = ap (depths d) e ∙ depths_none d

-- the lowest set bit of b is z
pub record Climbed (d b z : ℕ) : Type 0 where
  pub up : z < d
  pub pos : 1 ≤ b / 2 ^ z
  pub small : Small (d - z) (b / 2 ^ z - 1)
  pub same : depths d b ≡ due_of (d - z) (b / 2 ^ z - 1)

deep : (d b : ℕ) → 1 ≤ b → 2 * b < 2 ^ d → (e : ℕ) × (d ≡ suc e) × (2 * b < 2 * 2 ^ e)
deep zero b h k = absurd (omega arith)
deep (suc e) b h k = (e, refl, subst (λ (n : ℕ). 2 * b < n) (pow-succ' 2 e) k)

halves : (b z : ℕ) → b / 2 ^ suc z ≡ b / 2 / 2 ^ z
halves b z = let e : suc z ≡ 1 + z = omega arith in rw e (sym (shr-shr b 1 z))

climbed : (z d b : ℕ) → 1 ≤ b → Small d b → bit_at b z ≡ 1 → ((i : ℕ) → i < z → bit_at b i ≡ 0) → Climbed d b z
unfolding depths due_of
climbed zero d b pos s odd below =
    let (e, p, q) = deep d b pos s.fits in
    let one : b % 2 ≡ 1 = omega (arith, bit_at_lowest b) in
    let whole : b / 2 ^ 0 ≡ b = omega arith in
    let all : d - 0 ≡ d = omega arith in
    let half : (b - 1) / 2 ≡ b / 2 = omega arith in
    let even : (b - 1) % 2 ≡ 0 = omega arith in
    record {
      up = omega arith;
      pos = omega arith;
      small = rw (all, whole) (record { low = s.low; fits = omega (arith, s.fits) });
      same = rw (all, whole, p) (rw (eq-eqb (b % 2) 1 one, ne_eqb ((b - 1) % 2) 1 (λ (y : (b - 1) % 2 ≡ 1). omega arith), half) refl);
    }
climbed (suc z) d b pos s odd below =
    let (e, p, q) = deep d b pos s.fits in
    let even : b % 2 ≡ 0 = omega (arith, bit_at_lowest b, below 0 (omega arith)) in
    let c : Climbed e (b / 2) z = climbed z e (b / 2) (omega arith) (record { low = omega (arith, s.low); fits = omega arith }) (sym (bit_at-suc b z) ∙ odd) (λ i h. sym (bit_at-suc b i) ∙ below (suc i) (omega arith)) in
    let less : d - suc z ≡ e - z = omega arith in
    record {
      up = omega (arith, c.up);
      pos = rw (halves b z) c.pos;
      small = rw (less, halves b z) c.small;
      same = rw (less, halves b z) (subst (λ (n : ℕ). depths n b ≡ due_of (e - z) (b / 2 / 2 ^ z - 1)) (sym p) (rw (ne_eqb (b % 2) 1 (λ (y : b % 2 ≡ 1). omega arith)) c.same));
    }

pub lowest : (d b : ℕ) → Small d b → (b ≡ 0 → ⊥) → Climbed d b (trailing_zeros w64 b)
lowest d b s h =
    let most : 2 ^ d ≤ 2 ^ 65 = pow-le-pow_right (omega arith) {i = d} {j = 65} s.low in
    let fits : b < 2 ^ 64 = omega (arith, s.fits) in
    let z = bit_at-trailing_zeros w64 b (pos_of_ne-zero h) fits in
    climbed (trailing_zeros w64 b) d b (pos_of_ne-zero h) s z.1 z.2

module _ (op depth bits : ℕ) (at : 1 ≤ depth) (s : Small depth bits) where
  root : (e : ℕ) × (depth ≡ suc e)
  root = (depth - 1, omega arith)

  pub due_leaf : (l : List ℕ) → op < 3 → depths depth bits ≡ l → spend op (due_of depth bits) ≡ l
  unfolding spend due_of
  due_leaf l h d =
      let (e, p) = root in
      let there : depths (suc e) bits ≡ l = subst (λ (n : ℕ). depths n bits ≡ l) p d in
      subst (λ (n : ℕ). spend op (due_of n bits) ≡ l) (sym p) (rw (lt-ltb op 3 h) there)

  fits_more : depth ≤ 64 → 2 * (bits * 2 + 1) < 2 ^ (depth + 1)
  fits_more h = subst (λ (n : ℕ). 2 * (bits * 2 + 1) < 2 ^ n) (sym (add-one depth)) (rw (pow-succ' 2 depth) (let q : 2 * bits + 2 ≤ 2 ^ depth = even_gap depth bits at s.fits in omega arith))
    where
      even_gap : (d b : ℕ) → 1 ≤ d → 2 * b < 2 ^ d → 2 * b + 2 ≤ 2 ^ d
      even_gap zero b a k = absurd (omega arith)
      even_gap (suc e) b a k = rw (pow-succ' 2 e) (let k' : 2 * b < 2 * 2 ^ e = subst (λ (n : ℕ). 2 * b < n) (pow-succ' 2 e) k in omega arith)

  pub due_one : 3 ≤ op → op < 9 → spend op (due_of depth bits) ≡ due_of (depth + 1) (bits * 2)
  unfolding spend due_of depths
  due_one g h =
      let (e, p) = root in
      let even : eqb (bits * 2 % 2) 1 ≡ false = ne_eqb (bits * 2 % 2) 1 (λ (y : bits * 2 % 2 ≡ 1). omega arith) in
      let half : bits * 2 / 2 ≡ bits = omega arith in
      rw (add-one) (subst (λ (n : ℕ). spend op (due_of n bits) ≡ due_of (suc n) (bits * 2)) (sym p) (rw (le-ltb op 3 g, lt-ltb op 9 h, even, half) refl))

  pub two_small : depth ≤ 64 → Small (depth + 1) (bits * 2 + 1)
  two_small k = record { low = omega arith; fits = fits_more k }

  pub due_two : 9 ≤ op → spend op (due_of depth bits) ≡ due_of (depth + 1) (bits * 2 + 1)
  unfolding spend due_of depths
  due_two g =
      let (e, p) = root in
      let odd : eqb ((bits * 2 + 1) % 2) 1 ≡ true = eq-eqb ((bits * 2 + 1) % 2) 1 (omega arith) in
      let half : (bits * 2 + 1) / 2 ≡ bits = omega arith in
      rw (add-one) (subst (λ (n : ℕ). spend op (due_of n bits) ≡ due_of (suc n) (bits * 2 + 1)) (sym p) (rw (le-ltb op 3 (omega arith), le-ltb op 9 g, odd, half) refl))
