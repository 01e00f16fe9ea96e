-- One read by its answer.
use Rattle.std.proofs.Common.{◌≡◌, ℕ, zero, suc, ◌≤◌, ◌<◌, List, [], length, take, refl, sym, ap, subst, ◌∙◌, arith}
use Rattle.std.specs.Prelude.{min, Option, Some, None, Result, Ok, Err}
use Rattle.std.specs.Io.{ReadsAtMost}
use Rattle.std.specs.Io.KnownBytes.{ReadConsumes, Consumes, IsAtEnd}
use Rattle.input.specs.Turn.{counted, turn_of}

counted_is : (n : ℕ) → (n ≡ 0 → ⊥) → ◌≡◌ {A = Option ℕ} (Some n) (counted n)
counted_is zero h = absurd (h refl)
counted_is (suc n) h = refl

module _ {E : Type 0} (got : Result ℕ E) (most : ℕ) where
  pub broke : (e : E) → got ≡ Err e → Err e ≡ turn_of got most
  unfolding turn_of
  broke e h = ap (λ (g : Result ℕ E). turn_of g most) (sym h)

  fine : (k n : ℕ) → got ≡ Ok k → n ≡ min k most → Ok (counted n) ≡ turn_of got most
  unfolding turn_of
  fine k n e c = ap (λ (m : ℕ). Ok (counted m)) c ∙ ap (λ (g : Result ℕ E). turn_of g most) (sym e)

  pub ended : (k n : ℕ) → got ≡ Ok k → n ≡ min k most → n ≡ 0 → Ok None ≡ turn_of got most
  ended k n e c h = ap (λ (m : ℕ). Ok (counted m)) (sym h) ∙ fine k n e c

  pub more : (k n : ℕ) → got ≡ Ok k → n ≡ min k most → (n ≡ 0 → ⊥) → Ok (Some n) ≡ turn_of got most
  more k n e c h = ap Ok (counted_is n h) ∙ fine k n e c

-- a read into xs that gave so many bytes, or its end; a and b are what the input had left before and after, where that is known
module _ {E : Type 0} (got : Result ℕ E) (xs : List ℕ) (most : ℕ) (room : most ≡ length xs) (a b : Option (List ℕ)) (w : ReadsAtMost got xs) (c : ReadConsumes a b got xs) where
  pub gave : (n : ℕ) → Ok (Some n) ≡ turn_of got most → (0 < n) × (n ≤ length xs) × Consumes a b (take n xs)
  unfolding turn_of
  gave = go got w c
    where
      is : (m k n : ℕ) → m ≡ k → ◌≡◌ {A = Result (Option ℕ) E} (Ok (Some n)) (Ok (counted m)) → (0 < n) × (n ≡ k)
      is zero k n e x = let y : ◌≡◌ {A = ℕ} 0 1 = cc in absurd (omega arith)
      is (suc m) k n e x = let y : suc m ≡ n = cc in (omega (arith, y), omega (arith, y, e))

      go : (r : Result ℕ E) → ReadsAtMost r xs → ReadConsumes a b r xs → (n : ℕ) → Ok (Some n) ≡ turn_of r most → (0 < n) × (n ≤ length xs) × Consumes a b (take n xs)
      go (Ok k) p q n e =
          let low : min k most ≡ k = omega (arith, p.0, room) in
          let (more, same) = is (min k most) k n low e in
          (more, omega (arith, same, p.0), subst (λ (m : ℕ). Consumes a b (take m xs)) (sym same) q.0)
      go (Err z) p q n e = let y : ◌≡◌ {A = ℕ} 0 1 = cc in absurd (omega arith)

  pub over : Ok None ≡ turn_of got most → 0 < length xs → Consumes a b [] × IsAtEnd b
  unfolding turn_of
  over e some = go got w c e
    where
      is : (m : ℕ) → ◌≡◌ {A = Result (Option ℕ) E} (Ok None) (Ok (counted m)) → m ≡ 0
      is zero x = refl
      is (suc m) x = let y : ◌≡◌ {A = ℕ} 0 1 = cc in absurd (omega arith)

      go : (r : Result ℕ E) → ReadsAtMost r xs → ReadConsumes a b r xs → Ok None ≡ turn_of r most → Consumes a b [] × IsAtEnd b
      go (Ok k) p q x =
          let z : min k most ≡ 0 = is (min k most) x in
          let none : k ≡ 0 = omega (arith, z, p.0, room, some) in
          (subst (λ (m : ℕ). Consumes a b (take m xs)) none q.0, q.1 none some)
      go (Err z) p q x = let y : ◌≡◌ {A = ℕ} 0 1 = cc in absurd (omega arith)
