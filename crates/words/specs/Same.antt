-- Two runs of bytes are the same.
use Rattle.std.specs.Prelude.{Bool, true, false, ◌&&◌, List, [], ◌∷◌, ℕ, eqb}

unfoldable pub eqbs : List ℕ → List ℕ → Bool
eqbs [] [] = true
eqbs [] (y ∷ ys) = false
eqbs (x ∷ xs) [] = false
eqbs (x ∷ xs) (y ∷ ys) = eqb x y && eqbs xs ys
