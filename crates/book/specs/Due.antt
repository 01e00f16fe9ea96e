-- The depths at which operands are due, as a depth and bits.
use Rattle.std.specs.Prelude.{List, [], ◌∷◌, ℕ, zero, suc, ◌*◌, ◌/◌, ◌%◌, ◌^◌, ◌≤◌, ◌<◌, eqb}
use Rattle.terms.specs.Choice.{pick}

-- the depths from d down whose bits are set, bit 0 for d itself
unfoldable pub depths : ℕ → ℕ → List ℕ
depths zero bits = []
depths (suc d) bits = pick (eqb (bits % 2) 1) (suc d ∷ depths d (bits / 2)) (depths d (bits / 2))

-- the next one at depth d, those behind it by the bits; none at depth 0
unfoldable pub due_of : ℕ → ℕ → List ℕ
due_of zero bits = []
due_of (suc d) bits = suc d ∷ depths (suc d) bits

-- the root is never due behind another, so the bits fit one word down to depth 65
pub record Small (depth bits : ℕ) : Type 0 where
  pub low : depth ≤ 65
  pub fits : 2 * bits < 2 ^ depth
