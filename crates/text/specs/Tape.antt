-- Text in lent memory: a tape is a lent slice and the place where the next byte goes.
--     puts       writing bytes: one for which there is no room is left out, and the place stays
--     Wrote      a tape after some text
--     decimal    (crate number) a number's decimal digits, the same as in a book
-- `wrote_all` (proofs/Tapes.antt): a text that fits stands there whole, and the rest is as before.
use Rattle.std.specs.Prelude.{◌≡◌, List, [], ◌∷◌, ◌++◌, ℕ, suc, ◌+◌, ltb, ℤ, pos, negsuc, length, set}
use Rattle.terms.specs.Choice.{pick}
use Rattle.number.specs.Digits.{decimal}

pub data Tape : Type 0 where
  tape : List ℕ → ℕ → Tape

unfoldable pub put : Tape → ℕ → Tape
put (tape l i) b = pick (ltb i (length l)) (tape (set l i b) (i + 1)) (tape l i)

unfoldable pub puts : Tape → List ℕ → Tape
puts t [] = t
puts t (b ∷ bs) = puts (put t b) bs

pub record Wrote (before : Tape) (text : List ℕ) (after : Tape) : Type 0 where
  pub is : after ≡ puts before text

-- texts one behind the other
unfoldable pub joined : List (List ℕ) → List ℕ
joined [] = []
joined (t ∷ ts) = t ++ joined ts

-- a number with its sign
unfoldable pub signed : ℤ → List ℕ
signed (pos n) = decimal n
signed (negsuc n) = 45 ∷ decimal (suc n)

-- a culprit: minus 1, or a step from 0 up
pub data Culprit : ℤ → Type 0 where
  nobody : Culprit (negsuc 0)
  step : (n : ℕ) → Culprit (pos n)
