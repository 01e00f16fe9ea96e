-- The calls on a monitor struct: it is read as the lent monitor of crates/stepping, and each call is that crate's call on it.
use Rattle.std.specs.Prelude.{ℕ, Result}
use Rattle.std.specs.Result.{result_unwrap_or}
use Rattle.result.specs.declared.Refusal.{Refusal}
use Rattle.node_step.specs.Memory.{Memory, entries}
use Rattle.lent.specs.Lent.{LentTables, LentMonitor, monitor_of}
use Rattle.stepping.specs.Call.{step_call}
use Rattle.stepping.specs.Fresh.{Making, fresh_call}
use Rattle.in_place.specs.declared.ReferenceMonitor.{ReferenceMonitor}
use Rattle.in_place.specs.declared.step.Advanced.{Advanced}
use Rattle.in_place.specs.declared.fresh.Started.{Started}

-- the node states of a monitor struct
abbrev pub memory_of : ReferenceMonitor → Memory
memory_of m = entries m.held m.remaining m.failed m.culprits

-- the monitor that a struct holds
abbrev pub held_by : ReferenceMonitor → LentMonitor
held_by m = monitor_of m.size m.forms m.bounds (memory_of m)

-- the struct that holds a monitor
abbrev pub struct_of : LentMonitor → ReferenceMonitor
struct_of k = record {
  size = k.size;
  forms = k.forms;
  bounds = k.bounds;
  held = k.memory.held;
  remaining = k.memory.remaining;
  failed = k.memory.failed;
  culprits = k.memory.culprits;
}

-- a step call: the count of nodes, the forms and the bounds stay, and a refusal leaves the states as they were (`step_call`)
unfoldable pub step_in : LentTables → ReferenceMonitor → ℕ → ℕ → Advanced
step_in t m s w = record {
  monitor = struct_of (monitor_of m.size m.forms m.bounds (step_call t (held_by m) s w).memory);
  verdict = (step_call t (held_by m) s w).answer;
}

-- the count of nodes after making a monitor: a refusal leaves it
abbrev pub size_after : Result ℕ Refusal → ℕ → ℕ
size_after r size = result_unwrap_or r size

-- what a call that makes a monitor leaves of a struct of `size` nodes
abbrev pub started_of : Making → ℕ → Started
started_of c size = record {
  monitor = struct_of (monitor_of (size_after c.answer size) c.forms c.bounds c.memory);
  outcome = c.answer;
}

-- making a monitor: its nodes' forms and bounds and cleared states, or the refusal and the struct as it was (`fresh_call`)
unfoldable pub fresh_in : LentTables → ReferenceMonitor → Started
fresh_in t m = started_of (fresh_call t m.forms m.bounds (memory_of m)) m.size
