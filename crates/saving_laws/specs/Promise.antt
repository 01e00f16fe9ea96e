-- Document 02, order 3: the promise of saving, as statements about the calls.
--     Later          a later call on a monitor, with whatever tables it is lent: a step, a run, or saving it again
--     answers_of      the answers of a list of them, each on the monitor as the one before left it
--     ComesBack      saved and restored: the state that comes back, the answers of every list of later calls, and the culprits
--     SavedAgain     restored and saved: the bytes that were read
--     SaveRestore    both, of what the calls answer
use Rattle.std.specs.Prelude.{Bool, true, false, List, [], ◌∷◌, ◌≡◌, ℕ, ◌<◌, ◌≤◌, length, get_or, take}
use Rattle.std.proofs.Math.Option.{some}
use Rattle.std.proofs.lemmas.List.Edits.{sets}
use Rattle.std.specs.Prelude.{None, Option as Opt, Some, Result, Ok, Err}
use Rattle.result.specs.declared.Refusal.{Refusal}
use Rattle.monitor.specs.Mon.{Mon}
use Rattle.meaning.specs.Calls.{step_count}
use Rattle.meaning.specs.Demand.{run_all, calls_of, AllFair}
use Rattle.node_step.specs.Memory.{Memory}
use Rattle.lent.specs.Lent.{LentTables, LentMonitor, monitor_room, rule_mon, Ready, table_room}
use Rattle.stepping.specs.Call.{step_call}
use Rattle.stepping.specs.Walk.{read_mon}
use Rattle.runs.specs.Run.{run_call}
use Rattle.reports.specs.Calls.{Event, step_event, run_event, after_event, on_slices, made_monitor}
use Rattle.resumed.specs.Since.{EachSince, Unblamed, calls_since}
use Rattle.saving.specs.Save.{Saving, save_call}
use Rattle.saving.specs.Restore.{restore_call}
use Rattle.saving_laws.specs.Off.{switched_off}

-- ---- later calls
pub data Later : Type 0 where
  event : Event → Later
  save_event : LentTables → List ℕ → Later

-- what the caller of one gets: of a step or a run the refusal, or the step that is reported if one is; of saving all that it answers and leaves
pub data Got : Type 0 where
  told : Result (Opt ℕ) Refusal → Got
  saved : Saving → Got

abbrev pub step_told : Result Bool Refusal → ℕ → Result (Opt ℕ) Refusal
step_told (Ok true) s = Ok (Some s)
step_told (Ok false) s = Ok None
step_told (Err r) s = Err r

abbrev pub event_told : Event → LentMonitor → Result (Opt ℕ) Refusal
event_told (step_event t s w) k = step_told (step_call t k s w).answer s
event_told (run_event t s ws) k = (run_call t k s ws).answer

abbrev pub answer : Later → LentMonitor → Got
answer (event e) k = told (event_told e k)
answer (save_event t bytes) k = saved (save_call t k bytes)

-- saving leaves the monitor
abbrev pub after_later : Later → LentMonitor → LentMonitor
after_later (event e) k = after_event e k
after_later (save_event t bytes) k = k

unfoldable pub answers_of : LentMonitor → List Later → List Got
answers_of k [] = []
answers_of k (c ∷ cs) = answer c k ∷ answers_of (after_later c k) cs

-- ---- saved and restored: the monitor k of rule m, and the one that came back
pub record ComesBack (m : Mon) (k back : LentMonitor) : Type 0 where
  -- it fits the rule, and its state is the saved one in all that has bits
  pub ready : Ready back m
  pub state : read_mon m back.memory 0 ≡ switched_off m (read_mon m k.memory 0)
  -- every list of later calls, over whatever tables, refused ones included: both answer every call alike
  pub alike : (cs : List Later) → answers_of k cs ≡ answers_of back cs
  -- after every list of calls of which the accepted ones go over the rule's own table, at whatever steps: each node's mark and culprit are what document
  -- 01's rule gives from the state that came back, in which nothing is marked and no step is to blame
  pub unblamed : Unblamed m (read_mon m back.memory 0)
  pub culprits : (es : List Event) → AllFair on_slices m back es →
      EachSince m (read_mon m back.memory 0) (calls_since (calls_of on_slices back es)) (step_count (calls_of on_slices back es))
      (read_mon m (run_all on_slices back es).memory 0)

-- ---- restored and saved
-- each number of a list is a byte
abbrev pub AreBytes : List ℕ → Type 0
AreBytes bytes = (i : ℕ) → get_or bytes i 0 < 256

-- the monitor that the bytes gave, saved over tables that hold the same rule into bytes that are enough: the front is what was read, the rest stays
pub record SavedAgain (stored : List ℕ) (back : LentMonitor) (t : LentTables) (bytes : List ℕ) (n : ℕ) : Type 0 where
  pub answers : (save_call t back bytes).answer ≡ Ok n
  pub same : (save_call t back bytes).bytes ≡ sets bytes 0 (take n stored)

-- ---- the whole
pub record SaveRestore : Type 0 where
  -- a monitor k was saved into n bytes. Wherever those bytes stand in front, over tables that hold the same rule and with room for a monitor, restoring
  -- succeeds, and what comes back is as above
  pub comes_back : (t t' : LentTables) (k : LentMonitor) (bytes stored : List ℕ) (n : ℕ) → (save_call t k bytes).answer ≡ Ok n →
      take n stored ≡ take n (save_call t k bytes).bytes →
      rule_mon t' ≡ rule_mon t → table_room t'.ops t'.nums t'.nodes ≡ true →
      (forms bounds : List ℕ) (mem : Memory) → monitor_room forms bounds mem ≡ true →
      ((restore_call t' forms bounds mem stored).answer ≡ Ok t'.ncount)
      × ((m : Mon) → rule_mon t ≡ some m → ComesBack m k (made_monitor t'.ncount (restore_call t' forms bounds mem stored)))
  -- a monitor was restored from bytes. Saved, it gives these bytes
  pub saved_again : (t t' : LentTables) (stored : List ℕ) → AreBytes stored → (forms bounds : List ℕ) (mem : Memory) (c : ℕ) →
      (restore_call t forms bounds mem stored).answer ≡ Ok c →
      rule_mon t' ≡ rule_mon t → table_room t'.ops t'.nums t'.nodes ≡ true →
      (n : ℕ) × (n ≤ length stored)
      × ((bytes : List ℕ) → n ≤ length bytes → SavedAgain stored (made_monitor c (restore_call t forms bounds mem stored)) t' bytes n)
