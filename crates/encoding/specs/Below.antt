-- A test of every number below n.
use Rattle.std.specs.Prelude.{Bool, true, ◌&&◌, ℕ, zero, suc}

unfoldable pub all_below : (ℕ → Bool) → ℕ → Bool
all_below ok zero = true
all_below ok (suc r) = all_below ok r && ok r
