-- Document 02, order 3: bit k is bit k mod 8, lowest first, of byte k div 8; a number lies lowest bit first.
--     bit_in      bit k of bytes
--     digits     the lowest bits of a number, lowest first
--     number     the number that bits spell so
--     spelled    so many bits from one on
--     packed     bits as bytes; unused bits of the last one are zero. `packed_bit` (proofs/Packing.antt): bit k of them is bit k of the list
--     ink_bit     bytes with bit k written, and those above it in its byte zero
use Rattle.std.specs.Prelude.{Bool, true, ◌&&◌, cond, List, [], ◌∷◌, ℕ, zero, suc, ◌+◌, ◌*◌, ◌/◌, ◌%◌, ◌^◌, ◌≤◌, ◌<◌, eqb, length, get_or, set, take, drop}
use Rattle.std.proofs.Math.Bool as bool
use Rattle.formula.specs.Pure.{bit}
use Rattle.plan.specs.Book.{listed}
use Rattle.encoding.specs.Encoding.{bytes_for}

abbrev pub bit_in : List ℕ → ℕ → Bool
bit_in bytes k = bit (k % 8) (get_or bytes (k / 8) 0)

abbrev pub odd : ℕ → Bool
odd n = eqb (n % 2) 1

unfoldable pub digits : ℕ → ℕ → List Bool
digits zero n = []
digits (suc w) n = odd n ∷ digits w (n / 2)

unfoldable pub number : List Bool → ℕ
number [] = 0
number (b ∷ bs) = cond b 1 0 + 2 * number bs

-- bits at, at + 1 and on
unfoldable pub spelled : (ℕ → Bool) → ℕ → ℕ → List Bool
spelled bits at zero = []
spelled bits at (suc n) = bits at ∷ spelled bits (at + 1) n

-- n bits from one on are zero
unfoldable pub blank : (ℕ → Bool) → ℕ → ℕ → Bool
blank bits at zero = true
blank bits at (suc n) = bool.not (bits at) && blank bits (at + 1) n

abbrev pub byte_of : List Bool → ℕ → ℕ
byte_of bs i = number (take 8 (drop (8 * i) bs))

unfoldable pub packed : List Bool → List ℕ
packed bs = listed (byte_of bs) (bytes_for (length bs))

-- ---- writing
unfoldable pub ink_bit : List ℕ → ℕ → Bool → List ℕ
ink_bit bytes k b = set bytes (k / 8) (get_or bytes (k / 8) 0 % 2 ^ (k % 8) + cond b (2 ^ (k % 8)) 0)

unfoldable pub ink_bits : List ℕ → ℕ → List Bool → List ℕ
ink_bits bytes at [] = bytes
ink_bits bytes at (b ∷ bs) = ink_bits (ink_bit bytes at b) (at + 1) bs

-- w bits from bit `at` on are there, and places a little past it are numbers
pub record Room (bytes : List ℕ) (at w : ℕ) : Type 0 where
  pub inside : at + w ≤ 8 * length bytes
  pub low : at < 2 ^ 63
