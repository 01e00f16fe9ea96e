-- A call on a monitor as one total function from what it is lent to its answer and the monitor afterwards.
--     called      any call: 1, then 2, then 24, else what it does
--     step_call    the step call
--     Answers     what a call answers and leaves is what such a function says
use Rattle.std.specs.Prelude.{Bool, true, false, ◌≡◌, ℕ, ltb, Result, Ok, Err}
use Rattle.std.proofs.Math.Option.{Option, none, some}
use Rattle.terms.specs.Limits.{steps}
use Rattle.result.specs.declared.Refusal.{Refusal}
use Rattle.result.specs.declared.Refusal.TheVariants.{Short, Unfit, Late}
use Rattle.monitor.specs.Mon.{Mon}
use Rattle.meaning.specs.State.{step, newly_failed}
use Rattle.node_step.specs.Memory.{Memory}
use Rattle.lent.specs.Lent.{LentTables, LentMonitor, is_lent, rule_mon, fits, HoldsRule, Ready, monitor_of}
use Rattle.stepping.specs.Walk.{read_mon, write_mon}

-- ---- a call on a monitor
-- what it does: the answer, or the refusal, whose number is document 01's (crate result), and the memory afterwards
pub record Effect (A : Type 0) : Type 0 where
  pub answer : Result A Refusal
  pub memory : Memory

abbrev pub refuse : {A : Type 0} → Refusal → Memory → Effect A
refuse r mem = record { answer = Err r; memory = mem }

abbrev pub or_refuse : {A : Type 0} → Bool → Refusal → Memory → Effect A → Effect A
or_refuse true r mem c = c
or_refuse false r mem c = refuse r mem

abbrev pub over_rule : {A : Type 0} → Option Mon → LentMonitor → Bool → (Mon → Effect A) → Effect A
over_rule none k timely does = refuse Unfit k.memory
over_rule (some m) k timely does = or_refuse (fits m k) Unfit k.memory (or_refuse timely Late k.memory (does m))

-- for whatever is lent: 1, then 2, then 24 where it is not timely, else what the call does to a monitor of the rule
abbrev pub called : {A : Type 0} → LentTables → LentMonitor → Bool → (Mon → Effect A) → Effect A
called t k timely does = or_refuse (is_lent t k) Short k.memory (over_rule (rule_mon t) k timely does)

pub record Answers {A : Type 0} (c : Effect A) (r : Result A Refusal) (mem : Memory) : Type 0 where
  pub answers : r ≡ c.answer
  pub leaves : mem ≡ c.memory

-- a monitor with another memory: the one that a call leaves
abbrev pub with : LentMonitor → Memory → LentMonitor
with k mem = monitor_of k.size k.forms k.bounds mem

-- ---- the step call
abbrev pub accept : Mon → Memory → ℕ → ℕ → Effect Bool
accept m mem s w = record {
  answer = Ok (newly_failed m (read_mon m mem 0) s w);
  memory = write_mon m (step m (read_mon m mem 0) s w).state mem 0;
}

unfoldable pub step_call : LentTables → LentMonitor → ℕ → ℕ → Effect Bool
step_call t k s w = called t k (ltb s steps) (λ m. accept m k.memory s w)

-- ---- what the parts of a call ask
-- the tables hold a rule, the monitor fits it, and no step is late
pub record Fit (t : LentTables) (k : LentMonitor) (timely : Bool) : Type 0 where
  pub mon : Mon
  pub holds : HoldsRule t mon
  pub ready : Ready k mon
  pub on_time : timely ≡ true

abbrev pub accept_mon : Option Mon → Memory → ℕ → ℕ → Effect Bool
accept_mon none mem s w = refuse Unfit mem
accept_mon (some m) mem s w = accept m mem s w

abbrev pub accept_of : LentTables → LentMonitor → ℕ → ℕ → Effect Bool
accept_of t k s w = accept_mon (rule_mon t) k.memory s w
