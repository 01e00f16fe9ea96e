-- Document 01, "The book": decimal numbers below 2^64 without leading zeros except `0`, and words of 16 lowercase hexadecimal digits.
--     places      the sum of the digits' places in a base
--     decimal_of, hex_of      the value that bytes write, or that they write none that fits
-- `hex_fits` (proofs/Numbers.antt): sixteen hexadecimal digits always fit.
use Rattle.std.specs.Prelude.{◌≡◌, Bool, true, false, ◌&&◌, not, List, [], ◌∷◌, ℕ, ◌+◌, ◌-◌, ◌*◌, ◌^◌, ◌≤◌, ltb, eqb, length}
use Rattle.terms.specs.Choice.{pick}
use Rattle.std.specs.Prelude.{None, Option, Some}

-- what a byte is worth as a digit: `0` to `9`, `a` to `f`; 16 where it is none
unfoldable pub digit_of : ℕ → ℕ
digit_of b = pick (ltb b 48) 16 (pick (ltb b 58) (b - 48) (pick (ltb b 97) 16 (pick (ltb b 103) (b - 87) 16)))

-- what reading a digit answers
pub record Digit (b r : ℕ) : Type 0 where
  pub is : r ≡ digit_of b
  pub small : r ≤ 16

-- every byte is a digit of the base
unfoldable pub below : ℕ → List ℕ → Bool
below base [] = true
below base (b ∷ r) = ltb (digit_of b) base && below base r

-- the first digit counts base ^ (the number of digits behind it), and so on
unfoldable pub places : ℕ → List ℕ → ℕ
places base [] = 0
places base (b ∷ r) = digit_of b * base ^ length r + places base r

-- the value, where the bytes are digits of the base and it fits
unfoldable pub value_in : ℕ → List ℕ → Option ℕ
value_in base l = pick (below base l && ltb (places base l) (2 ^ 64)) (Some (places base l)) None

-- at least one byte, and no zero in front of others
unfoldable pub plain : List ℕ → Bool
plain [] = false
plain (b ∷ []) = true
plain (b ∷ c ∷ r) = not (eqb b 48)

unfoldable pub decimal_of : List ℕ → Option ℕ
decimal_of l = pick (plain l) (value_in 10 l) None

unfoldable pub hex_of : List ℕ → Option ℕ
hex_of l = pick (eqb (length l) 16) (value_in 16 l) None
