-- A run of many words as one total function of what it is lent: that many calls of `step`, at s, s + 1 and on, each on the monitor as
-- the one before left it.
--     answers_of     the answers of those calls, in order
--     memory_after   the memory that the last of them leaves
--     report_among   the first step whose call reported, among such answers
--     run_call       the answer to a run: refused as a whole, or that many calls of `step`
use Rattle.std.specs.Prelude.{Bool, true, false, ◌&&◌, List, [], ◌∷◌, ◌⊎◌, ◌≡◌, ℕ, ◌+◌, ◌≤◌, ltb, get_or, Option, None, Some, Result, Ok, Err}
use Rattle.terms.specs.Limits.{steps}
use Rattle.result.specs.Refusal.{number_of}
use Rattle.result.specs.declared.Refusal.{Refusal}
use Rattle.result.specs.declared.Refusal.TheVariants.{Short}
use Rattle.node_step.specs.Memory.{Memory}
use Rattle.lent.specs.Lent.{LentTables, LentMonitor}
use Rattle.stepping.specs.Call.{Effect, called, step_call, with}

-- the answer to a call of `step`
abbrev pub Answer : Type 0
Answer = Result Bool Refusal

-- one thing for an answer that reports, and another for one that does not
abbrev pub on_report : {A : Type 0} → Answer → A → A → A
on_report (Ok true) a b = a
on_report (Ok false) a b = b
on_report (Err r) a b = b

-- ---- calls of `step`, one word each
unfoldable pub answers_of : LentTables → LentMonitor → ℕ → List ℕ → List Answer
answers_of t k s [] = []
answers_of t k s (w ∷ ws) = (step_call t k s w).answer ∷ answers_of t (with k (step_call t k s w).memory) (s + 1) ws

unfoldable pub memory_after : LentTables → LentMonitor → ℕ → List ℕ → Memory
memory_after t k s [] = k.memory
memory_after t k s (w ∷ ws) = memory_after t (with k (step_call t k s w).memory) (s + 1) ws

unfoldable pub report_among : ℕ → List Answer → Option ℕ
report_among s [] = None
report_among s (v ∷ vs) = on_report v (Some s) (report_among (s + 1) vs)

-- ---- a run
abbrev pub many_steps : LentTables → LentMonitor → ℕ → List ℕ → Effect (Option ℕ)
many_steps t k s ws = record { answer = Ok (report_among s (answers_of t k s ws)); memory = memory_after t k s ws }

-- each step that a word is handed over at is below 2^63
unfoldable pub in_time : ℕ → List ℕ → Bool
in_time s [] = true
in_time s (w ∷ ws) = ltb s steps && in_time (s + 1) ws

-- the answer to a run, for whatever is lent: 1, then 2, then 24, else that many calls of `step`
unfoldable pub run_call : LentTables → LentMonitor → ℕ → List ℕ → Effect (Option ℕ)
run_call t k s ws = called t k (in_time s ws) (λ m. many_steps t k s ws)

-- ---- what is said of a run and of a list of answers
abbrev pub RunTaken : Effect (Option ℕ) → Type 0
RunTaken c = (r : Refusal) → c.answer ≡ Err r → ⊥

abbrev pub Accepts : Answer → Type 0
Accepts v = (b : Bool) × (v ≡ Ok b)

unfoldable pub Each : (Answer → Type 0) → List Answer → Type 0
Each P [] = Unit {0}
Each P (v ∷ vs) = P v × Each P vs

unfoldable pub SomeOf : (Answer → Type 0) → List Answer → Type 0
SomeOf P [] = ⊥
SomeOf P (v ∷ vs) = P v ⊎ SomeOf P vs

-- r is the refusal with the lowest number that some of them are refused with
pub record Lowest (r : Refusal) (vs : List Answer) : Type 0 where
  pub given : SomeOf (λ v. v ≡ Err r) vs
  pub least : Each (λ v. (q : Refusal) → v ≡ Err q → number_of r ≤ number_of q) vs

-- the answer to word i reports
abbrev pub ReportsAt : List Answer → ℕ → Type 0
ReportsAt vs i = get_or vs i (Err Short) ≡ Ok true
