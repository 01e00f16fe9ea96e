-- What the walks over a formula table answer: whether a formula has liveness, and the first refusal of its split.
use Rattle.std.specs.Prelude.{◌≡◌, Bool, not, List, [], ◌∷◌, ℕ, ◌+◌}
use Rattle.formula.specs.Tree.{size}
use Rattle.formula.specs.Spells.{Spells}
use Rattle.formula.specs.Formula.{Formula}
use Rattle.formula.specs.Table.{node_at}
use Rattle.formula.specs.Signal.{end_if}
use Rattle.formula.specs.Pure.{pure, unless}
use Rattle.std.specs.Prelude.{Option, Ok, Err}
use Rattle.std.specs.Prelude.{Result as Returned}
use Rattle.result.specs.declared.Refusal.{Refusal}
use Rattle.liveness.specs.Split.{live, faults}

-- where the formula at i ends, if it has no liveness
pub record Calm (ops nums : List ℕ) (i : ℕ) (r : Option ℕ) : Type 0 where
  pub is : (f : Formula) → Spells (node_at ops nums) i f → r ≡ end_if (not (live f)) (i + size f)

pub record Lives (ops nums : List ℕ) (i : ℕ) (r : Bool) : Type 0 where
  pub is : (f : Formula) → Spells (node_at ops nums) i f → r ≡ live f

-- the first fault of the formula at i, or where it ends
abbrev pub top_of : List Refusal → ℕ → Returned ℕ Refusal
top_of [] e = Ok e
top_of (n ∷ ns) e = Err n

pub record Judged (ops nums : List ℕ) (i : ℕ) (r : Returned ℕ Refusal) : Type 0 where
  pub is : (f : Formula) → Spells (node_at ops nums) i f → r ≡ top_of (faults f) (i + size f)

-- an operand at i that has to be pure, else refusal n
pub record Operand (ops nums : List ℕ) (i : ℕ) (n : Refusal) (r : Returned ℕ Refusal) : Type 0 where
  pub is : (f : Formula) → Spells (node_at ops nums) i f → r ≡ top_of (unless (pure f) n) (i + size f)
