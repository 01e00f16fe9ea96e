-- What a walk over a table answers at a place: where the tree that stands there ends, or that no tree within the limits does.
use Rattle.std.specs.Prelude.{◌≡◌, Bool, true, ℕ, ◌+◌, ◌≤◌}
use Rattle.formula.specs.Tree.{Tree, Token, size, depth, all}
use Rattle.formula.specs.Spells.{Spells}
use Rattle.std.specs.Prelude.{None, Option, Some}

-- a tree stands at i, ends at e, and keeps the limits: it ends by `end`, is at most `room` deep, and its leaves pass the test
pub record Stands {L O T : Type 0} (tok : ℕ → Token L O T) (ok : L → Bool) (i end room e : ℕ) (t : Tree L O T) : Type 0 where
  pub spells : Spells tok i t
  pub ends : e ≡ i + size t
  pub inside : e ≤ end
  pub shallow : depth t ≤ room
  pub good : all ok t ≡ true

-- the walk's answer is right in both directions
pub record Walked {L O T : Type 0} (tok : ℕ → Token L O T) (ok : L → Bool) (i end room : ℕ) (r : Option ℕ) : Type 0 where
  pub found : (e : ℕ) → r ≡ Some e → (t : Tree L O T) × Stands tok ok i end room e t
  pub stuck : r ≡ None → (e : ℕ) (t : Tree L O T) → Stands tok ok i end room e t → ⊥
