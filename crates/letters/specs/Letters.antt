-- What the functions of single words say: r is the letter at i of a word whose letters from place o on are listed, 0 past its end.
use Rattle.std.specs.Prelude.{◌≡◌, List, [], ◌∷◌, ℕ, suc, ◌≤◌}

abbrev pub Letters : List ℕ → ℕ → ℕ → ℕ → Type 0
Letters [] o i r = o ≤ i → r ≡ 0
Letters (b ∷ l) o i r = (i ≡ o → r ≡ b) × Letters l (suc o) i r
