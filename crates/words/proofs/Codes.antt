-- Bytes compared as numbers, and runs of bytes letter by letter.
use mathlib.Core.Path.{◌≡◌, refl, sym, ap, ap₂, ◌∙◌}
use mathlib.Core.Bool.{Bool, true, false, ◌&&◌}
use mathlib.Core.List.{List, [], ◌∷◌, ◌++◌}
use Prim.Native.Nat.{ℕ, zero, suc, ◌+◌, ◌*◌, ◌<◌}
use native.Mathlib.Omega.{arith}
use borrow.Author.Tests.{eqb-true, eqb-false, eq-eqb, ne_eqb}
use lib.Dec.{eqb}
use lib.ListN.{length, get_or, length-append}
use Rattle.words.specs.Coded.{code, Bytes, Coded}
use Rattle.words.specs.Same.{eqbs}

unequal : {A : Type 0} → ◌≡◌ {A = Bool} false true → A
unequal e = let z : ◌≡◌ {A = ℕ} 0 1 = cc in absurd (omega arith)

pub both_true : (t u : Bool) → (t && u) ≡ true → (t ≡ true) × (u ≡ true)
both_true true u e = (refl, e)
both_true false u e = unequal e

pub same_bytes : (a b : List ℕ) → eqbs a b ≡ true → a ≡ b
unfolding eqbs
same_bytes [] [] e = refl
same_bytes [] (y ∷ ys) e = unequal e
same_bytes (x ∷ xs) [] e = unequal e
same_bytes (x ∷ xs) (y ∷ ys) e = let (p, q) = both_true (eqb x y) (eqbs xs ys) e in ap₂ ◌∷◌ (eqb-true x y p) (same_bytes xs ys q)

pub same_itself : (a : List ℕ) → eqbs a a ≡ true
unfolding eqbs
same_itself [] = refl
same_itself (x ∷ xs) = rw (eq-eqb x x refl) (same_itself xs)

pub other_length : (a b : List ℕ) → (length a ≡ length b → ⊥) → false ≡ eqbs a b
unfolding eqbs
other_length [] [] h = absurd (h refl)
other_length [] (y ∷ ys) h = refl
other_length (x ∷ xs) [] h = refl
other_length (x ∷ xs) (y ∷ ys) h = rw (← other_length xs ys (λ e. h (ap suc e))) (go (eqb x y))
  where
    go : (p : Bool) → false ≡ (p && false)
    go true = refl
    go false = refl

-- ---- bytes as one number
-- a byte and what is above it are told apart
digit_same : (x y p q : ℕ) → x < 256 → y < 256 → eqb (x + 256 * p) (y + 256 * q) ≡ (eqb x y && eqb p q)
digit_same x y p q h k = go (eqb x y) refl
  where
    by : x ≡ y → (t : Bool) → eqb p q ≡ t → eqb (x + 256 * p) (y + 256 * q) ≡ t
    by e true f = eq-eqb _ _ (ap₂ (λ (m n : ℕ). m + 256 * n) e (eqb-true p q f))
    by e false f = ne_eqb _ _ (λ (z : x + 256 * p ≡ y + 256 * q). eqb-false p q f (omega arith))

    go : (t : Bool) → eqb x y ≡ t → eqb (x + 256 * p) (y + 256 * q) ≡ (t && eqb p q)
    go true e = by (eqb-true x y e) (eqb p q) refl
    go false e = ne_eqb _ _ (λ (z : x + 256 * p ≡ y + 256 * q). eqb-false x y e (omega arith))

code_same : (l m : List ℕ) → Bytes l → Bytes m → length l ≡ length m → eqb (code l) (code m) ≡ eqbs l m
unfolding eqbs Bytes
code_same [] [] h k e = refl
code_same [] (y ∷ ys) h k e = absurd (omega arith)
code_same (x ∷ xs) [] h k e = absurd (omega arith)
code_same (x ∷ xs) (y ∷ ys) h k e =
    digit_same x y (code xs) (code ys) h.0 k.0 ∙ ap (eqb x y &&◌) (code_same xs ys h.1 k.1 (omega arith))

-- ---- a run of bytes of known length, byte by byte
-- n bytes from place i on
abbrev pub cells : List ℕ → ℕ → ℕ → List ℕ
cells f i zero = []
cells f i (suc n) = get_or f i 0 ∷ cells f (suc i) n

cells_behind : (x : ℕ) (f : List ℕ) (i n : ℕ) → cells (x ∷ f) (suc i) n ≡ cells f i n
cells_behind x f i zero = refl
cells_behind x f i (suc n) = ap (get_or f i 0 ∷◌) (cells_behind x f (suc i) n)

cells_all : (f : List ℕ) (n : ℕ) → length f ≡ n → f ≡ cells f 0 n
cells_all [] zero e = refl
cells_all [] (suc n) e = absurd (omega arith)
cells_all (x ∷ f) zero e = absurd (omega arith)
cells_all (x ∷ f) (suc n) e = ap (x ∷◌) (cells_all f n (omega arith) ∙ sym (cells_behind x f 0 n))

cells_length : (f : List ℕ) (i n : ℕ) → length (cells f i n) ≡ n
cells_length f i zero = refl
cells_length f i (suc n) = ap suc (cells_length f (suc i) n)

-- its first n bytes and the m behind them
cells_two : (n m : ℕ) (f : List ℕ) → length f ≡ n + m → f ≡ cells f 0 n ++ cells f n m
cells_two zero m f e = cells_all f m (omega arith)
cells_two (suc n) m [] e = absurd (omega arith)
cells_two (suc n) m (x ∷ f) e =
    ap (x ∷◌) (cells_two n m f (omega arith) ∙ sym (ap₂ ◌++◌ (cells_behind x f 0 n) (cells_behind x f n m)))

-- ---- runs of bytes in two parts
parted : (a b s t : List ℕ) → length a ≡ length s → eqbs (a ++ b) (s ++ t) ≡ (eqbs a s && eqbs b t)
unfolding eqbs
parted [] b [] t e = refl
parted [] b (y ∷ s) t e = absurd (omega arith)
parted (x ∷ a) b [] t e = absurd (omega arith)
parted (x ∷ a) b (y ∷ s) t e = rw (parted a b s t (omega arith)) (go (eqb x y))
  where
    go : (p : Bool) → (p && (eqbs a s && eqbs b t)) ≡ ((p && eqbs a s) && eqbs b t)
    go true = refl
    go false = refl

-- ---- numbers compared in place of bytes, which have zeros behind them
abbrev pub zeros : ℕ → List ℕ
zeros zero = []
zeros (suc n) = 0 ∷ zeros n

and_true : (t : Bool) → (t && true) ≡ t
and_true true = refl
and_true false = refl

padded : (n : ℕ) (a s : List ℕ) (p q : ℕ) → length a ≡ length s → Coded (a ++ zeros n) p → Coded (s ++ zeros n) q → eqb p q ≡ eqbs a s
padded n a s p q e c d =
    ap₂ eqb c.is d.is
    ∙ code_same (a ++ zeros n) (s ++ zeros n) c.bytes d.bytes (simp length-append (omega arith))
    ∙ parted a (zeros n) s (zeros n) e
    ∙ rw (same_itself (zeros n)) (and_true (eqbs a s))

-- n bytes, and m zeros
module _ (n m : ℕ) (f s : List ℕ) (p q : ℕ) (h : length f ≡ n) (k : length s ≡ n) (c : Coded (cells f 0 n ++ zeros m) p) (d : Coded (s ++ zeros m) q) where
  pub by_number : eqb p q ≡ eqbs f s
  by_number =
      padded m (cells f 0 n) s p q (cells_length f 0 n ∙ sym k) c d ∙ ap (λ (l : List ℕ). eqbs l s) (sym (cells_all f n h))

-- n bytes, then m more and l zeros: the first differ, or they are the same and the others decide
module _ (n m l : ℕ) (f s : List ℕ) (p q : ℕ) (h : length f ≡ n + m) (k : length s ≡ n + m) (c : Coded (cells f 0 n ++ zeros 0) p) (d : Coded (cells s 0 n ++ zeros 0) q) where
  in_two : eqbs f s ≡ (eqb p q && eqbs (cells f n m) (cells s n m))
  in_two =
      ap₂ eqbs (cells_two n m f h) (cells_two n m s k)
      ∙ parted (cells f 0 n) (cells f n m) (cells s 0 n) (cells s n m) same_length
      ∙ ap (◌&& eqbs (cells f n m) (cells s n m)) (sym (padded 0 (cells f 0 n) (cells s 0 n) p q same_length c d))
    where
      same_length : length (cells f 0 n) ≡ length (cells s 0 n)
      same_length = cells_length f 0 n ∙ sym (cells_length s 0 n)

  pub first_differ : (p ≡ q → ⊥) → false ≡ eqbs f s
  first_differ e = sym (in_two ∙ rw (ne_eqb p q e) refl)

  pub others_decide : (u v : ℕ) → p ≡ q → Coded (cells f n m ++ zeros l) u → Coded (cells s n m ++ zeros l) v → eqb u v ≡ eqbs f s
  others_decide u v e c' d' =
      padded l (cells f n m) (cells s n m) u v (cells_length f n m ∙ sym (cells_length s n m)) c' d' ∙ sym (in_two ∙ rw (eq-eqb p q e) refl)
