-- Document 01, "Layout": ceil(log2(n)) (`ceil_log2` of src/mc/plan.rs), and the bits of a bound.
--     LeastPower    k is the least number with n ≤ 2^k
--     ceil_log2      that number, looked for from 0 on. `ceil_log2_lem` (proofs/Widths.antt): it is found, for every n
--     width         ceil(log2(b+1)), the bits that hold the numbers 0 to b
use Rattle.std.specs.Prelude.{ℕ, zero, suc, ◌+◌, ◌^◌, ◌≤◌, leb}
use Rattle.terms.specs.Choice.{pick}

pub record LeastPower (n k : ℕ) : Type 0 where
  pub enough : n ≤ 2 ^ k
  pub least : (j : ℕ) → n ≤ 2 ^ j → k ≤ j

-- the first of k, k + 1 and on whose power is n at least; so many are tried
unfoldable pub first_power : ℕ → ℕ → ℕ → ℕ
first_power zero k n = k
first_power (suc tries) k n = pick (leb n (2 ^ k)) k (first_power tries (k + 1) n)

unfoldable pub ceil_log2 : ℕ → ℕ
ceil_log2 n = first_power n 0 n

abbrev pub width : ℕ → ℕ
width b = ceil_log2 (b + 1)
