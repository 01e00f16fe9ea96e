-- Document 01, "The listing": a line is fields parted by one tab, and ends in LF. Absent is `-`.
use Rattle.std.specs.Prelude.{List, [], ◌∷◌, ◌++◌, ℕ}

unfoldable pub line : List (List ℕ) → List ℕ
line [] = 10 ∷ []
line (t ∷ []) = t ++ 10 ∷ []
line (t ∷ u ∷ ts) = t ++ 9 ∷ line (u ∷ ts)

-- the first fields of a line, a tab behind each
unfoldable pub tabbed : List (List ℕ) → List ℕ
tabbed [] = []
tabbed (t ∷ ts) = t ++ 9 ∷ tabbed ts

-- a field and the mark behind it, a tab or LF
abbrev pub marked : List ℕ → ℕ → List ℕ
marked t mark = t ++ mark ∷ []

abbrev pub absent : List ℕ
absent = 45 ∷ []
