-- What inner functions say of letters.
--     Coded      r is bytes as one number, the first lowest
--     sized      the words of a length
use Rattle.std.specs.Prelude.{◌≡◌, List, [], ◌∷◌, ℕ, ◌+◌, ◌*◌, ◌<◌, eqb, length}
use Rattle.terms.specs.Choice.{pick}
use Rattle.words.specs.Word.{Entry}

abbrev pub code : List ℕ → ℕ
code [] = 0
code (b ∷ l) = b + 256 * code l

unfoldable pub Bytes : List ℕ → Type 0
Bytes [] = Unit
Bytes (b ∷ l) = (b < 256) × Bytes l

pub record Coded (l : List ℕ) (r : ℕ) : Type 0 where
  pub is : r ≡ code l
  pub bytes : Bytes l

abbrev pub sized : ℕ → List Entry → List Entry
sized n [] = []
sized n (e ∷ es) = pick (eqb (length e.spelling) n) (e ∷ sized n es) (sized n es)
