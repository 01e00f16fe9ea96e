-- Runs of bytes: lines end in LF, fields are parted by one tab.
--     parts c e l      l cut at each byte c; what stands past the last c goes in front of the first of e, if there is one
--     lines, fields    of a text; of a line
use Rattle.std.specs.Prelude.{◌≡◌, List, [], ◌∷◌, ℕ, zero, suc, ◌≤◌, eqb, length}
use Rattle.terms.specs.Choice.{pick}

-- a byte in front of the first part, if there is one
unfoldable pub onto : ℕ → List (List ℕ) → List (List ℕ)
onto b [] = []
onto b (p ∷ ps) = (b ∷ p) ∷ ps

unfoldable pub parts : ℕ → List (List ℕ) → List ℕ → List (List ℕ)
parts c e [] = e
parts c e (b ∷ r) = pick (eqb b c) ([] ∷ parts c e r) (onto b (parts c e r))

-- the lines of a text: each ends in LF, and what stands past the last LF is no line
abbrev pub lines : List ℕ → List (List ℕ)
lines = parts 10 []

-- the fields of a line: there is always a last one, perhaps empty
abbrev pub fields : List ℕ → List (List ℕ)
fields = parts 9 ([] ∷ [])

-- the first place of a byte, or the length
unfoldable pub first_at : ℕ → List ℕ → ℕ
first_at c [] = zero
first_at c (b ∷ r) = pick (eqb b c) zero (suc (first_at c r))

pub record Found (c : ℕ) (l : List ℕ) (r : ℕ) : Type 0 where
  pub is : r ≡ first_at c l
  pub inside : r ≤ length l
