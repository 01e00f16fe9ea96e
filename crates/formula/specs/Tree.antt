-- Trees in prefix order: a node has no operand, one or two, and a run of tokens reads as a tree in at most one way.
--     prefix      a tree's tokens, parents first and left before right
--     tree_of      the tree that a list of tokens is, if it is one
--     size, depth    the number of nodes; the longest way down, the root counted as 1
-- `tree_of_inv` and `tree_of_prefix` (proofs/Trees.antt) say that `tree_of` finds a tree exactly where the list is that tree's tokens.
use Rattle.std.specs.Prelude.{Bool, ◌&&◌, List, [], ◌∷◌, ◌++◌, ℕ, ◌+◌, max}
use Rattle.std.proofs.Math.Option.{Option, none, some}

pub data Tree (L O T : Type 0) : Type 0 where
  leaf : L → Tree L O T
  one : O → Tree L O T → Tree L O T
  two : T → Tree L O T → Tree L O T → Tree L O T

-- what stands at one place of a table: a node without its operands, or nothing that is known
pub data Token (L O T : Type 0) : Type 0 where
  leaf_of : L → Token L O T
  one_of : O → Token L O T
  two_of : T → Token L O T
  unknown : Token L O T

module _ {L O T : Type 0} where
  unfoldable pub size : Tree L O T → ℕ
  size (leaf a) = 1
  size (one o t) = 1 + size t
  size (two o l r) = 1 + size l + size r

  unfoldable pub depth : Tree L O T → ℕ
  depth (leaf a) = 1
  depth (one o t) = 1 + depth t
  depth (two o l r) = 1 + max (depth l) (depth r)

  unfoldable pub prefix : Tree L O T → List (Token L O T)
  prefix (leaf a) = leaf_of a ∷ []
  prefix (one o t) = one_of o ∷ prefix t
  prefix (two o l r) = two_of o ∷ prefix l ++ prefix r

  -- every node without operands passes the test
  unfoldable pub all : (L → Bool) → Tree L O T → Bool
  all ok (leaf a) = ok a
  all ok (one o t) = all ok t
  all ok (two o l r) = all ok l && all ok r

  -- a token before what follows it: it takes its operands off the front
  unfoldable pub push : Token L O T → Option (List (Tree L O T)) → Option (List (Tree L O T))
  push t none = none
  push (leaf_of a) (some ts) = some (leaf a ∷ ts)
  push (one_of o) (some []) = none
  push (one_of o) (some (t ∷ ts)) = some (one o t ∷ ts)
  push (two_of o) (some []) = none
  push (two_of o) (some (l ∷ [])) = none
  push (two_of o) (some (l ∷ r ∷ ts)) = some (two o l r ∷ ts)
  push unknown (some ts) = none

  -- the trees that stand one behind the other
  unfoldable pub forest : List (Token L O T) → Option (List (Tree L O T))
  forest [] = some []
  forest (t ∷ ts) = push t (forest ts)

  abbrev pub single : Option (List (Tree L O T)) → Option (Tree L O T)
  single none = none
  single (some []) = none
  single (some (t ∷ [])) = some t
  single (some (t ∷ u ∷ ts)) = none

  unfoldable pub tree_of : List (Token L O T) → Option (Tree L O T)
  tree_of ts = single (forest ts)
