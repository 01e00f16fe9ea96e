-- The four bytes of a book's name are ASCII, so they are text.
use Rattle.std.proofs.Common.{ℕ, zero, suc, ◌+◌, ◌<◌, ◌/◌, ◌%◌, List, [], ◌∷◌, refl, arith}
use Rattle.std.specs.Prelude.{Result, Ok, Err, MatchResult, IsOk}
use Rattle.std.specs.Str.{IsUtf8, IsAscii}
use Rattle.std.proofs.lemmas.Str.{IsUtf8-from_ascii}
use Rattle.book_tests.proofs.run.Goals as goal

is_ok : {A E : Type 0} (r : Result A E) (bs : List ℕ) (P : A → Type 0) (Q : E → Type 0) → IsUtf8 bs → MatchResult r P (λ e. (IsUtf8 bs → ⊥) × Q e) → IsOk r
is_ok (Ok a) bs P Q u m = refl
is_ok (Err e) bs P Q u m = absurd (m.0 u)

four : (a b c d : ℕ) → a < 128 → b < 128 → c < 128 → d < 128 → IsAscii (a ∷ b ∷ c ∷ d ∷ [])
four a b c d p q r s zero = p
four a b c d p q r s (suc zero) = q
four a b c d p q r s (suc (suc zero)) = r
four a b c d p q r s (suc (suc (suc zero))) = s
four a b c d p q r s (suc (suc (suc (suc i)))) = omega arith

digits : (n : ℕ) → n < 256 → IsAscii (98 ∷ (48 + n / 100) ∷ (48 + n / 10 % 10) ∷ (48 + n % 10) ∷ [])
digits n h = four 98 (48 + n / 100) (48 + n / 10 % 10) (48 + n % 10) (omega arith) (omega arith) (omega arith) (omega arith)

pub unwrap-path-requires : goal.unwrap-path-requires
unwrap-path-requires g c = is_ok _ _ _ _ (IsUtf8-from_ascii _ (digits c.args.n (omega (arith, c.ranges.n.fits)))) c.from_utf8.ensures.cases
