-- What restoring leaves of a monitor struct, from the contract of the call on lists.
use mathlib.Core.Bool.{Bool}
use mathlib.Core.List.{List}
use mathlib.Core.Path.{◌≡◌, ap, ◌∙◌}
use Prim.Native.Nat.{ℕ}
use lib.IntN.{ℤ}
use Rattle.std.specs.Prelude.{Result}
use Rattle.result.specs.declared.Refusal.{Refusal}
use Rattle.node_step.specs.Memory.{entries}
use Rattle.lent.specs.Lent.{LentTables, monitor_of}
use Rattle.stepping.specs.Fresh.{Making}
use Rattle.in_place.specs.declared.ReferenceMonitor.{ReferenceMonitor}
use Rattle.in_place.specs.declared.fresh.Started.{Started}
use Rattle.in_place.specs.InPlace.{memory_of, struct_of, size_after}
use Rattle.saving.specs.Restore.{RestoreAnswers, restore_call}
use Rattle.saving_in_place.specs.SavedInPlace.{restore_in}

restores : (t : LentTables) (m : ReferenceMonitor) (bytes : List ℕ) (r : Result ℕ Refusal) (size : ℕ) (forms bounds : List ℕ)
    (held : List Bool) (remaining : List ℕ) (failed : List Bool) (culprits : List ℤ)
    → RestoreAnswers (restore_call t m.forms m.bounds (memory_of m) bytes) r forms bounds (entries held remaining failed culprits) → size ≡ size_after r m.size
    → ◌≡◌ {A = Started} (record { monitor = struct_of (monitor_of size forms bounds (entries held remaining failed culprits)); outcome = r }) (restore_in t m bytes)
unfolding restore_in
restores t m bytes r size forms bounds held remaining failed culprits d e =
    let c : Making = restore_call t m.forms m.bounds (memory_of m) bytes in
    let f : size ≡ size_after c.answer m.size = e ∙ ap (λ (x : Result ℕ Refusal). size_after x m.size) d.answers in
    λ i. record {
      monitor = struct_of (monitor_of (f i) (d.forms_are i) (d.bounds_are i) (d.memory_is i));
      outcome = d.answers i;
    }

pub restores_in : (t : LentTables) (m : ReferenceMonitor) (bytes : List ℕ) (r : Result ℕ Refusal) (size : ℕ) (forms bounds : List ℕ)
    (held : List Bool) (remaining : List ℕ) (failed : List Bool) (culprits : List ℤ)
    → RestoreAnswers (restore_call t m.forms m.bounds (memory_of m) bytes) r forms bounds (entries held remaining failed culprits) → size ≡ size_after r m.size
    → (r ≡ (restore_in t m bytes).outcome) × (struct_of (monitor_of size forms bounds (entries held remaining failed culprits)) ≡ (restore_in t m bytes).monitor)
restores_in t m bytes r size forms bounds held remaining failed culprits d e =
    let p = restores t m bytes r size forms bounds held remaining failed culprits d e in
    (ap (λ (x : Started). x.outcome) p, ap (λ (x : Started). x.monitor) p)
