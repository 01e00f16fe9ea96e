-- What holds on the way of each loop: the rest decides the whole.
--     Blanking    the bits up to k are zero
--     Reading     n is the number of the bits from i on
--     Inking      i bits of a number are written
use mathlib.Core.Path.{◌≡◌, sym, ap, subst, ◌∙◌}
use mathlib.Core.Bool.{Bool, true, false, ◌&&◌, cond}
use mathlib.Core.Bool as bool
use mathlib.Core.List.{List}
use Prim.Native.Nat.{ℕ, suc, ◌+◌, ◌-◌, ◌*◌, ◌/◌, ◌%◌, ◌^◌, ◌≤◌, ◌<◌}
use native.Mathlib.Omega.{arith}
use native.Mathlib.Nat.{two-pow-succ}
use lib.Dec.{eqb}
use lib.ListN.{length, length-set}
use mir.Val.{bool_byte}
use Rattle.bits.specs.Bits.{blank, digits, ink_bit, ink_bits, number, spelled, Room}

-- ---- zero bits
pub record Blanking (bits : ℕ → Bool) (from to k : ℕ) : Type 0 where
  pub rest : blank bits from (to - from) ≡ blank bits k (to - k)

module _ (bits : ℕ → Bool) (from to k : ℕ) where
  module _ (w : Blanking bits from to k) where
    pub blanking_all : to ≤ k → true ≡ blank bits from (to - from)
    unfolding blank
    blanking_all h = let z : to - k ≡ 0 = omega arith in sym (w.rest ∙ ap (blank bits k) z)

    module _ (h : k < to) where
      here : (b : Bool) → b ≡ bits k → blank bits from (to - from) ≡ (bool.not b && blank bits (k + 1) (to - (k + 1)))
      unfolding blank
      here b e =
          let z : to - k ≡ suc (to - (k + 1)) = omega arith in
          w.rest ∙ ap (blank bits k) z ∙ ap (λ (x : Bool). bool.not x && blank bits (k + 1) (to - (k + 1))) (sym e)

      pub blanking_found : (b : Bool) → b ≡ bits k → b ≡ true → false ≡ blank bits from (to - from)
      blanking_found b e q = sym (here b e ∙ ap (λ (x : Bool). bool.not x && blank bits (k + 1) (to - (k + 1))) q)

      pub blanking_more : (b : Bool) → b ≡ bits k → b ≡ false → Blanking bits from to (k + 1)
      blanking_more b e q = record {
        rest = here b e ∙ ap (λ (x : Bool). bool.not x && blank bits (k + 1) (to - (k + 1))) q;
      }

-- ---- a number read
pub record Reading (bits : ℕ → Bool) (bytes : List ℕ) (at w n i : ℕ) : Type 0 where
  pub upto : i ≤ w
  pub few : w ≤ 64
  pub room : Room bytes at w
  pub is : n ≡ number (spelled bits (at + i) (w - i))
  pub small : n < 2 ^ (w - i)

module _ (bits : ℕ → Bool) (bytes : List ℕ) (at w n i : ℕ) where
  pub reading_none : Room bytes at w × (w ≤ 64) → n ≡ 0 → i ≡ w → Reading bits bytes at w n i
  unfolding spelled number
  reading_none (h, f) z e =
      let o : w - i ≡ 0 = omega arith in
      record {
        upto = omega arith;
        few = f;
        room = h;
        is = z ∙ sym (ap (λ (j : ℕ). number (spelled bits (at + i) j)) o);
        small = subst (λ (j : ℕ). n < 2 ^ j) (sym o) (omega arith);
      }

  module _ (r : Reading bits bytes at w n i) where
    module _ (h : 0 < i) where
      more : (b : Bool) (v : ℕ) → b ≡ bits (at + (i - 1)) → v ≡ cond b 1 0 + 2 * n → v < 2 ^ (w - i) + 2 ^ (w - i) → Reading bits bytes at w v (i - 1)
      unfolding spelled number
      more b v e q l =
          let o : w - (i - 1) ≡ suc (w - i) = omega (arith, r.upto) in
          let p : at + (i - 1) + 1 ≡ at + i = omega arith in
          record {
            upto = omega (arith, r.upto);
            few = r.few;
            room = r.room;
            is = q ∙ (λ j. cond (e j) 1 0 + 2 * (r.is ∙ ap (λ (x : ℕ). number (spelled bits x (w - i))) (sym p)) j) ∙ sym (ap (λ (x : ℕ). number (spelled bits (at + (i - 1)) x)) o);
            small = subst (λ (x : ℕ). v < 2 ^ x) (sym o) (omega (arith, two-pow-succ (w - i)));
          }

      module _ (b : Bool) (u : ℕ) (h' : u ≡ bool_byte b) where
        at_most : u ≤ 1
        at_most = go b u h'
          where
            go : (b : Bool) (u : ℕ) → u ≡ bool_byte b → u ≤ 1
            go true u e = omega arith
            go false u e = omega arith

        pub reading_next : b ≡ bits (at + (i - 1)) → Reading bits bytes at w (2 * n + u) (i - 1)
        reading_next e = more b (2 * n + u) e (turn b u h') (omega (arith, r.small, at_most))
          where
            turn : (b : Bool) (u : ℕ) → u ≡ bool_byte b → 2 * n + u ≡ cond b 1 0 + 2 * n
            turn true u e = omega arith
            turn false u e = omega arith

-- ---- a number written
pub record Inking (bytes₀ : List ℕ) (at w n : ℕ) (bytes : List ℕ) (rest i : ℕ) : Type 0 where
  pub whole : ink_bits bytes₀ at (digits w n) ≡ ink_bits bytes (at + i) (digits (w - i) rest)

pub ink_length : (bytes : List ℕ) (k : ℕ) (b : Bool) → length (ink_bit bytes k b) ≡ length bytes
unfolding ink_bit
ink_length bytes k b = length-set bytes (k / 8) _

module _ (bytes₀ : List ℕ) (at w n : ℕ) where
  module _ (bytes : List ℕ) (rest i : ℕ) (k : Inking bytes₀ at w n bytes rest i) where
    pub inking_all : w ≤ i → bytes ≡ ink_bits bytes₀ at (digits w n)
    unfolding digits ink_bits
    inking_all h = let z : w - i ≡ 0 = omega arith in sym (k.whole ∙ ap (λ (x : ℕ). ink_bits bytes (at + i) (digits x rest)) z)

    module _ (h : i < w) where
      pub inking_more : (bytes' : List ℕ) → bytes' ≡ ink_bit bytes (at + i) (eqb (rest % 2) 1) → Inking bytes₀ at w n bytes' (rest / 2) (i + 1)
      unfolding digits ink_bits
      inking_more bytes' e =
          let o : w - i ≡ suc (w - (i + 1)) = omega arith in
          let p : at + i + 1 ≡ at + (i + 1) = omega arith in
          record {
            whole = k.whole ∙ ap (λ (x : ℕ). ink_bits bytes (at + i) (digits x rest)) o ∙ (λ j. ink_bits (sym e j) (p j) (digits (w - (i + 1)) (rest / 2)));
          }
