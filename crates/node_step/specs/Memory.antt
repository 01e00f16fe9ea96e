-- A monitor's memory: four lists with an entry for each node, and a node's entry.
use Rattle.std.specs.Prelude.{Bool, false, List, ℕ, ◌≤◌, ℤ, pos, length, get_or, set}
use Rattle.meaning.specs.Culprit.{minus_one}
use Rattle.node_step.specs.declared.state.MonState.{MonState}

pub record Memory : Type 0 where
  pub held : List Bool
  pub remaining : List ℕ
  pub failed : List Bool
  pub culprits : List ℤ

abbrev pub entries : List Bool → List ℕ → List Bool → List ℤ → Memory
entries held remaining failed culprits = record { held = held; remaining = remaining; failed = failed; culprits = culprits }

abbrev pub get : Memory → ℕ → MonState
get mem i = record {
  held = get_or mem.held i false;
  remaining = get_or mem.remaining i 0;
  failed = get_or mem.failed i false;
  culprit = get_or mem.culprits i (pos 0);
}

abbrev pub put : Memory → ℕ → MonState → Memory
put mem i st = record {
  held = set mem.held i st.held;
  remaining = set mem.remaining i st.remaining;
  failed = set mem.failed i st.failed;
  culprits = set mem.culprits i st.culprit;
}

-- a node's entry in a fresh monitor: nothing pending, failed or remembered, and no step to blame
abbrev pub initial_entry : MonState
initial_entry = record { held = false; remaining = 0; failed = false; culprit = minus_one }

-- the first n nodes have their entries
pub record Inside (mem : Memory) (n : ℕ) : Type 0 where
  pub held : n ≤ length mem.held
  pub remaining : n ≤ length mem.remaining
  pub failed : n ≤ length mem.failed
  pub culprits : n ≤ length mem.culprits
