-- The calls on lent slices as a machine (crate meaning, specs/Demand.antt): its memory is the lent monitor, and an event is a call of `step` or of
-- `run` with whatever tables it is lent. The contracts of `step` and `run` are equality with `step_call` and `run_call`, of which the machine is made.
--     on_slices      the machine
--     DemandThree   demand 3 of these calls, from the answers of `compile_formula` and `fresh` on
use Rattle.std.specs.Prelude.{Bool, true, false, List, [], ◌∷◌, ◌≡◌, ℕ, ◌+◌}
use Rattle.std.proofs.Math.Option.{Option, none, some}
use Rattle.std.specs.Prelude.{None, Option as Opt, Some, Result, Ok, Err}
use Rattle.result.specs.Result.{given}
use Rattle.result.specs.declared.Refusal.{Refusal}
use Rattle.formula.specs.Formula.{Formula}
use Rattle.formula.specs.Table.{rule_of}
use Rattle.monitor.specs.Mon.{Mon}
use Rattle.monitor.specs.Compile.{rule_node}
use Rattle.compiler.specs.Compiled.{compile_call}
use Rattle.meaning.specs.Calls.{Call, accepted}
use Rattle.meaning.specs.Calls as calls
use Rattle.meaning.specs.Demand.{Machine, Demand}
use Rattle.meaning.specs.State.{State}
use Rattle.node_step.specs.Memory.{Memory}
use Rattle.lent.specs.Lent.{LentTables, LentMonitor, table_room, rule_mon, monitor_of, tables}
use Rattle.stepping.specs.Walk.{read_mon}
use Rattle.stepping.specs.Call.{step_call, with}
use Rattle.stepping.specs.Fresh.{Making, fresh_call}
use Rattle.runs.specs.Run.{run_call}

-- a call of `step` at s with truths w, or of `run` from s on over words
pub data Event : Type 0 where
  step_event : LentTables → (s w : ℕ) → Event
  run_event : LentTables → (s : ℕ) → List ℕ → Event

abbrev pub tables_of : Event → LentTables
tables_of (step_event t s w) = t
tables_of (run_event t s ws) = t

-- s, s + 1 and on, a word each
unfoldable pub in_turn : ℕ → List ℕ → List Call
in_turn s [] = []
in_turn s (w ∷ ws) = accepted s w ∷ in_turn (s + 1) ws

abbrev pub asked : Event → List Call
asked (step_event t s w) = accepted s w ∷ []
asked (run_event t s ws) = in_turn s ws

-- where a call is not refused, all that was asked for was accepted
abbrev pub calls_by : {A : Type 0} → Result A Refusal → List Call → List Call
calls_by (Ok a) cs = cs
calls_by (Err r) cs = calls.refused ∷ []

-- a step call that is accepted and finds the rule newly broken reports its step
abbrev pub step_report : Result Bool Refusal → ℕ → Option ℕ
step_report (Ok true) s = some s
step_report (Ok false) s = none
step_report (Err r) s = none

-- a run names the step that it reports
abbrev pub named : Opt ℕ → Option ℕ
named (Some s) = some s
named None = none

abbrev pub run_report : Result (Opt ℕ) Refusal → Option ℕ
run_report (Ok r) = named r
run_report (Err r) = none

abbrev pub event_calls : Event → LentMonitor → List Call
event_calls (step_event t s w) k = calls_by (step_call t k s w).answer (accepted s w ∷ [])
event_calls (run_event t s ws) k = calls_by (run_call t k s ws).answer (in_turn s ws)

abbrev pub event_report : Event → LentMonitor → Option ℕ
event_report (step_event t s w) k = step_report (step_call t k s w).answer s
event_report (run_event t s ws) k = run_report (run_call t k s ws).answer

abbrev pub after_event : Event → LentMonitor → LentMonitor
after_event (step_event t s w) k = with k (step_call t k s w).memory
after_event (run_event t s ws) k = with k (run_call t k s ws).memory

abbrev pub on_slices : Machine LentMonitor Event
on_slices = record {
  asks = asked;
  Own = λ e m. rule_mon (tables_of e) ≡ some m;
  Roomy = λ e. table_room (tables_of e).ops (tables_of e).nums (tables_of e).nodes ≡ true;
  calls = event_calls;
  reports = event_report;
  run = after_event;
}

-- the monitor reads as a state of m
abbrev pub ReadsAs : (m : Mon) → LentMonitor → State m → Type 0
ReadsAs m k st = read_mon m k.memory 0 ≡ st

-- ---- from the answers on
-- the tables after compiling the rule at `first` of `count` nodes into `out`, n nodes
abbrev pub compiled_tables : List ℕ → List ℕ → ℕ → ℕ → List ℕ → ℕ → LentTables
compiled_tables ops nums first count out n =
    tables ops nums first count (compile_call ops nums first count out).out 0 n

-- the monitor of n nodes after making it
abbrev pub made_monitor : ℕ → Making → LentMonitor
made_monitor n c = monitor_of n c.forms c.bounds c.memory

-- the rule f compiles to n nodes, and its fresh monitor is made of n nodes in what is lent: demand 3 holds from there on
abbrev pub DemandThree : Type 0
DemandThree =
    (ops nums : List ℕ) (first count : ℕ) (f : Formula) → rule_of ops nums first count ≡ some f →
    (out : List ℕ) (n : ℕ) → (compile_call ops nums first count out).answer ≡ given n →
    (forms bounds : List ℕ) (mem : Memory) → (fresh_call (compiled_tables ops nums first count out n) forms bounds mem).answer ≡ Ok n →
    Demand on_slices f (rule_node f first) (ReadsAs (rule_node f first))
    (made_monitor n (fresh_call (compiled_tables ops nums first count out n) forms bounds mem))
