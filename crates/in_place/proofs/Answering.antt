-- What the by-value calls return, from the contracts of the calls on lists.
use mathlib.Core.Bool.{Bool}
use mathlib.Core.List.{List}
use mathlib.Core.Path.{◌≡◌, ap, ◌∙◌}
use Prim.Native.Nat.{ℕ}
use lib.IntN.{ℤ}
use Rattle.std.specs.Prelude.{Result}
use Rattle.result.specs.declared.Refusal.{Refusal}
use Rattle.node_step.specs.Memory.{entries}
use Rattle.lent.specs.Lent.{LentTables, monitor_of}
use Rattle.stepping.specs.Call.{Answers, step_call}
use Rattle.stepping.specs.Fresh.{FreshAnswers, fresh_call}
use Rattle.in_place.specs.declared.ReferenceMonitor.{ReferenceMonitor}
use Rattle.in_place.specs.declared.step.Advanced.{Advanced}
use Rattle.in_place.specs.declared.fresh.Started.{Started}
use Rattle.in_place.specs.InPlace.{memory_of, held_by, struct_of, step_in, size_after, fresh_in}

pub steps : (t : LentTables) (m : ReferenceMonitor) (s w : ℕ) (r : Result Bool Refusal) (held : List Bool) (remaining : List ℕ) (failed : List Bool) (culprits : List ℤ)
    → Answers (step_call t (held_by m) s w) r (entries held remaining failed culprits)
    → ◌≡◌ {A = Advanced} (record { monitor = struct_of (monitor_of m.size m.forms m.bounds (entries held remaining failed culprits)); verdict = r }) (step_in t m s w)
unfolding step_in
steps t m s w r held remaining failed culprits d = λ i. record {
  monitor = struct_of (monitor_of m.size m.forms m.bounds (d.leaves i));
  verdict = d.answers i;
}

pub makes : (t : LentTables) (m : ReferenceMonitor) (r : Result ℕ Refusal) (size : ℕ) (forms bounds : List ℕ)
    (held : List Bool) (remaining : List ℕ) (failed : List Bool) (culprits : List ℤ)
    → FreshAnswers t m.forms m.bounds (memory_of m) r forms bounds (entries held remaining failed culprits) → size ≡ size_after r m.size
    → ◌≡◌ {A = Started} (record { monitor = struct_of (monitor_of size forms bounds (entries held remaining failed culprits)); outcome = r }) (fresh_in t m)
unfolding fresh_in
makes t m r size forms bounds held remaining failed culprits d e =
    let f : size ≡ size_after (fresh_call t m.forms m.bounds (memory_of m)).answer m.size = e ∙ ap (λ (x : Result ℕ Refusal). size_after x m.size) d.answers in
    λ i. record {
      monitor = struct_of (monitor_of (f i) (d.forms_are i) (d.bounds_are i) (d.memory_is i));
      outcome = d.answers i;
    }
