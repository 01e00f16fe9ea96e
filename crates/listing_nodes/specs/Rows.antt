-- The `node` lines of a compiled rule are written row by row from its node table.
use Rattle.std.specs.Prelude.{◌≡◌, List, [], ◌∷◌, ℕ, ◌+◌}
use Rattle.std.proofs.Math.Option.{some}
use Rattle.monitor.specs.Mon.{Mon}
use Rattle.monitor.specs.Table.{Cell, compiled_of}
use Rattle.text.specs.Tape.{Tape, Wrote, joined}
use Rattle.listing_line.specs.Node.{node_lines, cell_line}

-- the lines of a run of rows, the first of them number k
unfoldable pub cell_lines : List Cell → ℕ → List (List ℕ)
cell_lines [] k = []
cell_lines (c ∷ cs) k = cell_line k c ∷ cell_lines cs (k + 1)

-- the tables hold a rule and its compiled nodes
pub record Compiled (ops nums nodes : List ℕ) (nfirst ncount : ℕ) : Type 0 where
  pub first : ℕ
  pub count : ℕ
  pub mon : Mon
  pub is : compiled_of ops nums first count nodes nfirst ncount ≡ some mon

-- the lines of the compiled rule that the tables hold
pub record NodesWrote (ops nums nodes : List ℕ) (nfirst ncount : ℕ) (before after : Tape) : Type 0 where
  pub is : (first count : ℕ) (m : Mon) → compiled_of ops nums first count nodes nfirst ncount ≡ some m → Wrote before (joined (node_lines m 0)) after
