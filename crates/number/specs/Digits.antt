-- The texts of numbers, in a book and in a listing. `decimal_back` and `hex_back` (book_laws/proofs/Texts.antt): reading them gives the numbers.
--     decimal      a number below 2^64 in decimal digits
--     hex_digits    the low digits of a number in base 16
use Rattle.std.specs.Prelude.{List, [], ◌∷◌, ◌++◌, ℕ, zero, suc, ◌+◌, ◌/◌, ◌%◌, ltb}
use Rattle.terms.specs.Choice.{pick}

-- at most k decimal digits
unfoldable pub digits : ℕ → ℕ → List ℕ
digits zero n = []
digits (suc k) n = pick (ltb n 10) ((48 + n) ∷ []) (digits k (n / 10) ++ (48 + n % 10) ∷ [])

-- below 2^64 there are at most 20
abbrev pub decimal : ℕ → List ℕ
decimal n = digits 20 n

abbrev pub hex_byte : ℕ → ℕ
hex_byte d = pick (ltb d 10) (48 + d) (87 + d)

-- exactly k hexadecimal digits
unfoldable pub hex_digits : ℕ → ℕ → List ℕ
hex_digits zero n = []
hex_digits (suc k) n = hex_digits k (n / 16) ++ hex_byte (n % 16) ∷ []
