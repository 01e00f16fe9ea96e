-- Restoring a monitor struct: it is read as the lent monitor of crates/saving, and the call is that crate's on it. Saving leaves it (`SaveAnswers`).
use Rattle.std.specs.Prelude.{List, ℕ}
use Rattle.lent.specs.Lent.{LentTables}
use Rattle.in_place.specs.declared.ReferenceMonitor.{ReferenceMonitor}
use Rattle.in_place.specs.declared.fresh.Started.{Started}
use Rattle.in_place.specs.InPlace.{memory_of, started_of}
use Rattle.saving.specs.Restore.{restore_call}

-- the state that the bytes hold, or the refusal and the struct, its count of nodes included, as it was
unfoldable pub restore_in : LentTables → ReferenceMonitor → List ℕ → Started
restore_in t m bytes = started_of (restore_call t m.forms m.bounds (memory_of m) bytes) m.size
