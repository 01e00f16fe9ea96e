-- A run and the calls of `step` that it stands for (`answers_of`, `memory_after`: specs/Run.antt), for whatever is lent.
--     is_calls           a run that is taken answers and leaves what those calls do
--     all_accepted       each of those calls is accepted
--     refused_iff        with a word or more, a run is refused exactly where one of the calls is, with the lowest number among them
--     refused_by         which is the first call's, or 24
--     refused_untouched  a refused run leaves the monitor as it was
--     reports_once       at most one of the calls reports, so the first report is the only one
--     reported_iff       a run reports a step exactly where it is taken and the call at that step reports
--     fits_again         over tables that hold its rule a ready monitor is run where each step is below 2^63, and is ready again afterwards
--     no_words           a run of no words is handed no step
use mathlib.Core.Path.{◌≡◌}
use mathlib.Core.List.{List, [], ◌∷◌}
use mathlib.Core.Logic.{◌⊎◌, ◌↔◌}
use Rattle.std.specs.Prelude.{Some, Ok, Err}
use Prim.Native.Nat.{ℕ, ◌+◌, ◌≤◌}
use lib.ListN.{length}
use Rattle.monitor.specs.Mon.{Mon}
use Rattle.result.specs.declared.Refusal.{Refusal}
use Rattle.result.specs.declared.Refusal.TheVariants.{Late}
use Rattle.lent.specs.Lent.{LentTables, LentMonitor, HoldsRule, Ready}
use Rattle.stepping.specs.Call.{step_call}
use Rattle.runs.specs.Run.{answers_of, many_steps, run_call, RunTaken, Accepts, Each, Lowest, ReportsAt}
use Rattle.runs.proofs.Calls as calls
use Rattle.runs.proofs.Calls.{RunStays, case_of}

module _ (t : LentTables) (k : LentMonitor) (s : ℕ) (ws : List ℕ) where
  pub is_calls : RunTaken (run_call t k s ws) → run_call t k s ws ≡ many_steps t k s ws
  is_calls h = calls.taken_is t k s ws (case_of t k s ws) h

  pub all_accepted : RunTaken (run_call t k s ws) → Each Accepts (answers_of t k s ws)
  all_accepted h = calls.taken_accepts t k s ws (case_of t k s ws) h

  pub refused_untouched : (r : Refusal) → (run_call t k s ws).answer ≡ Err r → (run_call t k s ws).memory ≡ k.memory
  refused_untouched r h = calls.untouched t k s ws (case_of t k s ws) r h

  pub reports_once : (i j : ℕ) → ReportsAt (answers_of t k s ws) i → ReportsAt (answers_of t k s ws) j → i ≡ j
  reports_once i j p q = calls.at_most_once t k s ws (case_of t k s ws) i j p q

  pub reported_iff : (i : ℕ) → ((run_call t k s ws).answer ≡ Ok (Some (s + i))) ↔ (RunTaken (run_call t k s ws) × ReportsAt (answers_of t k s ws) i)
  reported_iff i = calls.reported t k s ws (case_of t k s ws) i

  pub fits_again : (m : Mon) → HoldsRule t m → Ready k m → s + length ws ≤ 9223372036854775808 → RunStays t k m s ws
  fits_again m a d h = calls.run_stays t k m s ws a d h

pub no_words : (t : LentTables) (k : LentMonitor) (s other : ℕ) → run_call t k s [] ≡ run_call t k other []
no_words t k s other = calls.without_words t k s other

module _ (t : LentTables) (k : LentMonitor) (s w : ℕ) (ws : List ℕ) where
  pub refused_iff : (r : Refusal) → ((run_call t k s (w ∷ ws)).answer ≡ Err r) ↔ Lowest r (answers_of t k s (w ∷ ws))
  refused_iff r = calls.refused_where t k s w ws (case_of t k s (w ∷ ws)) r

  pub refused_by : (r : Refusal) → (run_call t k s (w ∷ ws)).answer ≡ Err r → ((step_call t k s w).answer ≡ Err r) ⊎ (r ≡ Late)
  refused_by r h = calls.refused_first t k s w ws (case_of t k s (w ∷ ws)) r h
