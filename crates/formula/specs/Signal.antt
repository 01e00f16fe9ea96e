-- A signal in a table: what the walks over a pure formula ask of its place, and what they answer.
use Rattle.std.specs.Prelude.{Bool, true, false, List, ◌≡◌, ℕ, ◌+◌, length}
use Rattle.formula.specs.Tree.{size, all}
use Rattle.formula.specs.Spells.{Spells, nodes_at}
use Rattle.formula.specs.Formula.{Formula}
use Rattle.formula.specs.Table.{node_at, in_word, Placed}
use Rattle.formula.specs.Pure.{pure, value}
use Rattle.std.specs.Prelude.{None, Option, Some}
use Rattle.formula.specs.declared.signal.Value.{Value}

-- the formula there is a signal: pure, of atoms within a word
pub record Signalled (ops nums : List ℕ) (i : ℕ) : Type 0 where
  pub place : Placed ops nums i
  pub is_pure : pure place.formula ≡ true
  pub word_fits : all in_word place.formula ≡ true

-- what the purity walk answers at i: where the formula there ends, if it is pure
abbrev pub end_if : Bool → ℕ → Option ℕ
end_if true e = Some e
end_if false e = None

pub record Purely (ops nums : List ℕ) (i : ℕ) (r : Option ℕ) : Type 0 where
  pub is : (f : Formula) → Spells (node_at ops nums) i f → r ≡ end_if (pure f) (i + size f)

-- what evaluating the pure formula at i answers: its value, and where it ends
pub record Valued (ops nums : List ℕ) (i w : ℕ) (v : Value) : Type 0 where
  pub is : (f : Formula) → Spells (node_at ops nums) i f → (v.value ≡ value f w) × (v.end ≡ i + size f)

-- the formula at i and below: the count of its nodes, which falls from a walk to its calls
abbrev pub signal_nodes : List ℕ → List ℕ → ℕ → ℕ
signal_nodes ops nums i = nodes_at (node_at ops nums) (length ops) i
