-- A bit's place value in its byte, and one bit read or written by it.
use mathlib.Core.Path.{◌≡◌, ap, ◌∙◌}
use Prim.Native.Nat.{ℕ, ◌*◌, ◌%◌, ◌^◌, ◌≤◌}
use native.Mathlib.Omega.{arith}
use native.Mathlib.Nat.{one-mul, mod-eq_of_lt, pow-le-pow_right}

pub value_most : (k : ℕ) → 2 ^ (k % 8) ≤ 128
value_most k = pow-le-pow_right {n = 2} (omega arith) {i = k % 8} {j = 7} (omega arith)

pub shifted : (k : ℕ) → 1 * 2 ^ (k % 8) % 256 ≡ 2 ^ (k % 8)
shifted k = ap (λ (n : ℕ). n % 256) (one-mul (2 ^ (k % 8))) ∙ mod-eq_of_lt (omega (arith, value_most k))
