-- A slice that a struct of lent slices has before and after a call.
use denote.Ref.{MutBor}
use Rattle.std.specs.Prelude.{◌≡◌, List, length}

-- the same memory is lent afterwards, of the same length
pub record Same {A : Type 0} (old new : MutBor (List A)) : Type 0 where
  pub name : new.ghost_name ≡ old.ghost_name
  pub size : length new.now ≡ length old.now
