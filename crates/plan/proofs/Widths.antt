-- `ceil_log2 n` is the least k with n ≤ 2^k, for every n; so `width b` is that of b + 1, for every bound b.
use mathlib.Core.Path.{◌≡◌, refl, sym, ap, subst, ◌∙◌}
use mathlib.Core.Bool.{Bool, true, false}
use Prim.Native.Nat.{ℕ, zero, suc, ◌+◌, ◌*◌, ◌^◌, ◌≤◌, ◌<◌}
use native.Mathlib.Omega.{arith}
use native.Mathlib.Nat.{two-pow-succ, pow-le-pow_right}
use native.Mathlib.Numerals.{add-one}
use lib.Dec.{leb}
use mathlib.Core.Logic.{⊎_elim}
use Rattle.terms.specs.Choice.{pick}
use Rattle.formula.proofs.Cases.{below_or}
use borrow.Author.Tests.{leb-true, leb-false}
use Rattle.plan.specs.Width.{LeastPower, first_power, ceil_log2, width}

-- at most one number is the least
pub least_only : {n j k : ℕ} → LeastPower n j → LeastPower n k → j ≡ k
least_only {n} {j} {k} p q = omega (arith, p.least k q.enough, q.least j p.enough)

least_none : (n : ℕ) → n ≤ 1 → LeastPower n 0
least_none n h = record { enough = omega arith; least = λ j g. omega arith }

pub two_pow_pos : (k : ℕ) → 0 < 2 ^ k
two_pow_pos zero = omega arith
two_pow_pos (suc k) = omega (arith, two_pow_pos k, two-pow-succ k)

below_power : (n : ℕ) → n ≤ 2 ^ n
below_power zero = omega arith
below_power (suc n) = omega (arith, below_power n, two_pow_pos n, two-pow-succ n)

-- nothing below k is enough, and k + tries is
looked_for : (tries k n : ℕ) → n ≤ 2 ^ (k + tries) → ((j : ℕ) → n ≤ 2 ^ j → k ≤ j) → LeastPower n (first_power tries k n)
unfolding first_power
looked_for zero k n h l = record { enough = subst (λ (m : ℕ). n ≤ 2 ^ m) (add-zero k) h; least = l }
  where
    add-zero : (m : ℕ) → m + 0 ≡ m
    add-zero m = omega arith
looked_for (suc tries) k n h l = go (leb n (2 ^ k)) refl (looked_for tries (k + 1) n (subst (λ (m : ℕ). n ≤ 2 ^ m) moved h))
  where
    moved : k + suc tries ≡ k + 1 + tries
    moved = omega arith

    past : 2 ^ k < n → (j : ℕ) → n ≤ 2 ^ j → k + 1 ≤ j
    past z j g = ⊎_elim
        (λ (s : j < k + 1).
        let e : j ≡ k = omega (arith, l j g) in
        let f : n ≤ 2 ^ k = subst (λ (m : ℕ). n ≤ 2 ^ m) e g in
        absurd (omega arith))
        (λ s. s)
        (below_or j (k + 1))

    go : (t : Bool) → leb n (2 ^ k) ≡ t → (((j : ℕ) → n ≤ 2 ^ j → k + 1 ≤ j) → LeastPower n (first_power tries (k + 1) n))
        → LeastPower n (pick t k (first_power tries (k + 1) n))
    go true e later = record { enough = leb-true n (2 ^ k) e; least = l }
    go false e later = later (past (leb-false n (2 ^ k) e))

-- the law of `ceil_log2`: enough and least, for every n
pub ceil_log2_lem : (n : ℕ) → LeastPower n (ceil_log2 n)
unfolding ceil_log2
ceil_log2_lem n =
    let e : n ≡ 0 + n = omega arith in
    looked_for n 0 n (subst (λ (m : ℕ). n ≤ 2 ^ m) e (below_power n)) (λ j h. omega arith)

-- so it is k + 1 for every n past 2^k and up to 2^(k+1)
pub ceil_log2_is : (n k : ℕ) → 2 ^ k < n → n ≤ 2 ^ (k + 1) → ceil_log2 n ≡ k + 1
ceil_log2_is n k above upto = least_only (ceil_log2_lem n) (record { enough = upto; least = below })
  where
    below : (j : ℕ) → n ≤ 2 ^ j → k + 1 ≤ j
    below j h = ⊎_elim
        (λ l.
        let e : j ≤ k = omega arith in
        let z : 0 < 2 = omega arith in
        let m : 2 ^ j ≤ 2 ^ k = pow-le-pow_right z e in
        absurd (omega arith))
        (λ l. l)
        (below_or j (k + 1))

-- ---- the bits of a bound
pub width_nought : width 0 ≡ 0
width_nought = least_only (ceil_log2_lem (0 + 1)) (least_none (0 + 1) (omega arith))

-- 64 bits hold every bound
pub width_most : (b : ℕ) → b < 2 ^ 64 → width b ≤ 64
width_most b h = (ceil_log2_lem (b + 1)).least 64 (omega arith)

pub width_zero : (b : ℕ) → b ≡ 0 → 0 ≡ width b
width_zero b e = sym (ap width e ∙ width_nought)

-- the place of the highest bit
pub width_is : (b k : ℕ) → 2 ^ k ≤ b → b < 2 * 2 ^ k → k + 1 ≡ width b
width_is b k h l = sym (ceil_log2_is (b + 1) k (omega arith) (subst (λ (m : ℕ). b + 1 ≤ 2 ^ m) (sym (add-one k)) (omega (arith, two-pow-succ k))))

pub log_none : (n : ℕ) → n ≡ 0 → 0 ≡ ceil_log2 n
log_none n e = least_only (least_none n (omega arith)) (ceil_log2_lem n)
