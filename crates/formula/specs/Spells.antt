-- A table as a function from places to tokens, and the tree that stands at a place of it.
--     run      the tokens of n places from i on
--     Spells   the tokens from i on are the tree's, in prefix order
--     nodes_at  how many nodes the tree at i has, read within n places: the measure of the walks over a table
use Rattle.std.specs.Prelude.{◌≡◌, List, [], ◌∷◌, ℕ, suc, zero, ◌+◌}
use Rattle.formula.specs.Tree.{Tree, leaf, one, two, Token, leaf_of, one_of, two_of, unknown, size}

module _ {L O T : Type 0} where
  unfoldable pub run : (ℕ → Token L O T) → ℕ → ℕ → List (Token L O T)
  run tok i zero = []
  run tok i (suc n) = tok i ∷ run tok (i + 1) n

  unfoldable pub Spells : (ℕ → Token L O T) → ℕ → Tree L O T → Type 0
  Spells tok i (leaf a) = tok i ≡ leaf_of a
  Spells tok i (one o t) = (tok i ≡ one_of o) × Spells tok (i + 1) t
  Spells tok i (two o l r) =
      (tok i ≡ two_of o) × Spells tok (i + 1) l × Spells tok (i + 1 + size l) r

  -- operands due behind a token, where d are due besides
  abbrev pub due : Token L O T → ℕ → ℕ
  due (leaf_of a) d = d
  due (one_of o) d = suc d
  due (two_of o) d = suc (suc d)
  due unknown d = d

  -- the tokens from i on that d trees take, of n places
  unfoldable pub reach : (ℕ → Token L O T) → ℕ → ℕ → ℕ → ℕ
  reach tok i zero d = 0
  reach tok i (suc n) zero = 0
  reach tok i (suc n) (suc d) = 1 + reach tok (i + 1) n (due (tok i) d)

  -- `nodes_at_lem` (proofs/Trees.antt): where a tree stands at i within n places, its size
  abbrev pub nodes_at : (ℕ → Token L O T) → ℕ → ℕ → ℕ
  nodes_at tok n i = reach tok i n 1
