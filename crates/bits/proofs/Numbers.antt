-- Numbers as bits, lowest first, and runs of bits.
--     number_digits, digits_number    a number that fits is spelled by its digits, and bits are the digits of their number
--     bit_number                      bit j of the number that bits spell
--     spelled_like                    a run depends on its own bits alone
use mathlib.Core.Path.{◌≡◌, refl, sym, ap, ap₂, ◌∙◌}
use mathlib.Core.Bool.{Bool, true, false, cond}
use mathlib.Core.Bool as bool
use mathlib.Core.List.{List, [], ◌∷◌, ◌++◌, append_assoc}
use mathlib.Core.Logic.{⊎_elim}
use Prim.Native.Nat.{ℕ, zero, suc, ◌+◌, ◌*◌, ◌/◌, ◌%◌, ◌^◌, ◌<◌}
use native.Mathlib.Omega.{arith}
use native.Mathlib.Numerals.{add-one}
use native.Mathlib.Nat.{two-pow-succ, pow-suc, pow-succ', div-div-eq-div-mul, div-one, zero-div, zero-add, add-zero}
use lib.Dec.{eqb}
use lib.ListN.{length, get_or, length-append}
use lib.Seq.{get_or-append_seam}
use Rattle.formula.specs.Pure.{bit}
use Rattle.formula.proofs.Cases.{below_or}
use Rattle.formula.proofs.Walks.{both_true}
use borrow.Author.Tests.{not-true, eq-eqb, ne_eqb, eqb-true, eqb-false}
use Rattle.bits.specs.Bits.{odd, digits, number, spelled, blank}

-- ---- one bit of a number
low_half : (b : Bool) (n : ℕ) → (cond b 1 0 + 2 * n) / 2 ≡ n
low_half true n = omega arith
low_half false n = omega arith

low_odd : (b : Bool) (n : ℕ) → odd (cond b 1 0 + 2 * n) ≡ b
low_odd true n = eq-eqb ((1 + 2 * n) % 2) 1 (omega arith)
low_odd false n = ne_eqb ((0 + 2 * n) % 2) 1 (λ e. omega arith)

odd_rest : (n : ℕ) → cond (odd n) 1 0 ≡ n % 2
odd_rest n = go (odd n) refl
  where
    go : (b : Bool) → odd n ≡ b → cond b 1 0 ≡ n % 2
    go true e = sym (eqb-true (n % 2) 1 e)
    go false e = let h = eqb-false (n % 2) 1 e in omega_zero (n % 2) (omega arith) h
      where
        omega_zero : (x : ℕ) → x < 2 → (x ≡ 1 → ⊥) → 0 ≡ x
        omega_zero x l q = ⊎_elim (λ z. omega arith) (λ z. absurd (q (omega arith))) (below_or x 1)

-- ---- digits
pub digits_length : (w n : ℕ) → length (digits w n) ≡ w
unfolding digits
digits_length zero n = refl
digits_length (suc w) n = ap suc (digits_length w (n / 2))

pub number_digits : (w n : ℕ) → n < 2 ^ w → number (digits w n) ≡ n
unfolding digits number
number_digits zero n h = omega arith
number_digits (suc w) n h =
    ap₂ (λ (a b : ℕ). a + 2 * b) (odd_rest n) (number_digits w (n / 2) (omega (arith, two-pow-succ w))) ∙ halves n
  where
    halves : (x : ℕ) → x % 2 + 2 * (x / 2) ≡ x
    halves x = omega arith

pub digits_number : (bs : List Bool) → digits (length bs) (number bs) ≡ bs
unfolding digits number
digits_number [] = refl
digits_number (b ∷ bs) = λ i. low_odd b (number bs) i ∷ (ap (digits (length bs)) (low_half b (number bs)) ∙ digits_number bs) i

pub number_small : (bs : List Bool) → number bs < 2 ^ length bs
unfolding number
number_small [] = omega arith
number_small (true ∷ bs) = omega (arith, number_small bs, two-pow-succ (length bs))
number_small (false ∷ bs) = omega (arith, number_small bs, two-pow-succ (length bs))

pub bit_number : (bs : List Bool) (j : ℕ) → bit j (number bs) ≡ get_or bs j false
unfolding number
bit_number [] j = ap (λ (x : ℕ). eqb (x % 2) 1) (zero-div (2 ^ j))
bit_number (b ∷ bs) zero = ap (λ (x : ℕ). eqb (x % 2) 1) (div-one (cond b 1 0 + 2 * number bs)) ∙ low_odd b (number bs)
bit_number (b ∷ bs) (suc j) =
    ap (λ (x : ℕ). eqb ((cond b 1 0 + 2 * number bs) / x % 2) 1) (pow-succ' 2 j)
    ∙ ap (λ (x : ℕ). eqb (x % 2) 1) (sym (div-div-eq-div-mul (cond b 1 0 + 2 * number bs) 2 (2 ^ j)))
    ∙ ap (λ (x : ℕ). eqb (x / 2 ^ j % 2) 1) (low_half b (number bs))
    ∙ bit_number bs j

-- a further bit on top
pub number_snoc : (bs : List Bool) (b : Bool) → number (bs ++ b ∷ []) ≡ number bs + cond b (2 ^ length bs) 0
unfolding number
number_snoc [] true = refl
number_snoc [] false = refl
number_snoc (true ∷ bs) true = omega (arith, number_snoc bs true, two-pow-succ (length bs))
number_snoc (true ∷ bs) false = omega (arith, number_snoc bs false)
number_snoc (false ∷ bs) true = omega (arith, number_snoc bs true, two-pow-succ (length bs))
number_snoc (false ∷ bs) false = omega (arith, number_snoc bs false)

-- ---- runs of bits
pub spelled_length : (bits : ℕ → Bool) (at n : ℕ) → length (spelled bits at n) ≡ n
unfolding spelled
spelled_length bits at zero = refl
spelled_length bits at (suc n) = ap suc (spelled_length bits (at + 1) n)

pub spelled_like : (f g : ℕ → Bool) (at at' n : ℕ) → ((j : ℕ) → j < n → f (at + j) ≡ g (at' + j)) → spelled f at n ≡ spelled g at' n
unfolding spelled
spelled_like f g at at' zero h = refl
spelled_like f g at at' (suc n) h =
    ap₂ (λ (b : Bool) (bs : List Bool). b ∷ bs)
    (ap f (sym (add-zero at)) ∙ h 0 (omega arith) ∙ ap g (add-zero at'))
    (spelled_like f g (at + 1) (at' + 1) n (λ j l.
    let o : at + 1 + j ≡ at + (j + 1) = omega arith in
    let p : at' + (j + 1) ≡ at' + 1 + j = omega arith in
    ap f o ∙ h (j + 1) (omega arith) ∙ ap g p))

pub spelled_same : (f g : ℕ → Bool) (at n : ℕ) → ((k : ℕ) → k < at + n → f k ≡ g k) → spelled f at n ≡ spelled g at n
spelled_same f g at n h = spelled_like f g at at n (λ j l. h (at + j) (omega arith))

pub spelled_append : (bits : ℕ → Bool) (at n m : ℕ) → spelled bits at (n + m) ≡ spelled bits at n ++ spelled bits (at + n) m
unfolding spelled
spelled_append bits at zero m = ap₂ (spelled bits) (sym (add-zero at)) (zero-add m)
spelled_append bits at (suc n) m =
    let o : suc n + m ≡ suc (n + m) = omega arith in
    let p : at + 1 + n ≡ at + suc n = omega arith in
    ap (spelled bits at) o ∙ ap (bits at ∷◌) (spelled_append bits (at + 1) n m ∙ ap (λ (x : ℕ). spelled bits (at + 1) n ++ spelled bits x m) p)

-- the bits of a list, from its own places
pub spelled_list : (xs ys : List Bool) → spelled (λ k. get_or (xs ++ ys) k false) (length xs) (length ys) ≡ ys
unfolding spelled
spelled_list xs [] = refl
spelled_list xs (y ∷ ys) =
    let l : length (xs ++ y ∷ []) ≡ length xs + 1 = length-append xs (y ∷ []) in
    let rest = (λ i. spelled (λ k. get_or (sym (append_assoc xs (y ∷ []) ys) i) k false) (sym l i) (length ys)) ∙ spelled_list (xs ++ y ∷ []) ys in
    λ i. get_or-append_seam xs y ys false i ∷ rest i

-- zero bits spell nothing
pub blank_number : (bits : ℕ → Bool) (at n : ℕ) → blank bits at n ≡ true → number (spelled bits at n) ≡ 0
unfolding spelled blank number
blank_number bits at zero h = refl
blank_number bits at (suc n) h =
    let (a, b) = both_true (bool.not (bits at)) (blank bits (at + 1) n) h in
    ap₂ (λ (x : Bool) (y : ℕ). cond x 1 0 + 2 * y) (not-true (bits at) a) (blank_number bits (at + 1) n b)

pub number_blank : (bs cs : List Bool) → number cs ≡ 0 → number (bs ++ cs) ≡ number bs
unfolding number
number_blank [] cs h = h
number_blank (b ∷ bs) cs h = ap (λ (x : ℕ). cond b 1 0 + 2 * x) (number_blank bs cs h)

-- the bits of a number are its digits
pub digits_spelled : (w j x : ℕ) → digits w (x / 2 ^ j) ≡ spelled (λ k. bit k x) j w
unfolding digits spelled
digits_spelled zero j x = refl
digits_spelled (suc w) j x =
    let o : 2 ^ j * 2 ≡ 2 ^ (j + 1) = sym (pow-suc 2 j) ∙ ap (2 ^◌) (sym (add-one j)) in
    ap (odd (x / 2 ^ j) ∷◌) (ap (digits w) (div-div-eq-div-mul x (2 ^ j) 2 ∙ ap (x /◌) o) ∙ digits_spelled w (j + 1) x)

pub byte_spelled : (x : ℕ) → x < 256 → number (spelled (λ k. bit k x) 0 8) ≡ x
byte_spelled x h = ap number (sym (digits_spelled 8 0 x) ∙ ap (digits 8) (div-one x)) ∙ number_digits 8 x h
