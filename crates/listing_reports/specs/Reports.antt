-- Document 01, "The listing": the reports of a book's rules, and what `end` counts of them.
--     reports     by step line and then rule, each rule's monitor being stepped once for each step line
--     end_count    the number on the line `end`, from the reports and the rules' kinds
use Rattle.std.specs.Prelude.{Bool, ◌&&◌, List, [], ◌∷◌, ◌++◌, ℕ, zero, suc, ℤ, length}
use Rattle.terms.specs.Choice.{pick}
use Rattle.meaning.specs.State.{State, initial_state, step, culprit, newly_failed}
use Rattle.book.specs.Book.{StepLine}
use Rattle.listing_rules.specs.Rules.{Rule, compiles, mon}

-- the monitors' states, one for each rule
abbrev pub States : (ℕ → Rule) → Type 0
States R = (r : ℕ) → State (mon (R r))

abbrev pub fresh_states : (R : ℕ → Rule) → States R
fresh_states R r = initial_state (mon (R r))

-- the states after a step line
abbrev pub next_states : (R : ℕ → Rule) → States R → StepLine → States R
next_states R st x r = (step (mon (R r)) (st r) x.number x.truths).state

-- a report: its step line and that line's place among the step lines, from 0; the rule and the culprit
pub record Report : Type 0 where
  pub place : ℕ
  pub at : StepLine
  pub rule : ℕ
  pub culprit : ℤ

-- rule r compiles and is newly broken at a step line
unfoldable pub breaks : (R : ℕ → Rule) → States R → StepLine → ℕ → Bool
breaks R st x r = compiles (R r) && newly_failed (mon (R r)) (st r) x.number x.truths

unfoldable pub report_of : (R : ℕ → Rule) → States R → ℕ → StepLine → ℕ → Report
report_of R st i x r = record { place = i; at = x; rule = r; culprit = culprit (mon (R r)) (next_states R st x r) }

-- at the step line at place i, of the first n rules
unfoldable pub reports_at : (R : ℕ → Rule) → States R → ℕ → StepLine → ℕ → List Report
reports_at R st i x zero = []
reports_at R st i x (suc r) = reports_at R st i x r ++ pick (breaks R st x r) (report_of R st i x r ∷ []) []

-- over a list of step lines, the first at place i
unfoldable pub reports : (R : ℕ → Rule) → ℕ → States R → ℕ → List StepLine → List Report
reports R n st i [] = []
reports R n st i (x ∷ xs) = reports_at R st i x n ++ reports R n (next_states R st x) (suc i) xs

-- a book's: fresh monitors, and all its step lines
abbrev pub book_reports : (ℕ → Rule) → ℕ → List StepLine → List Report
book_reports R n xs = reports R n (fresh_states R) 0 xs

-- each rule's kind
abbrev pub kinds_of : (ℕ → Rule) → ℕ → ℕ
kinds_of R r = (R r).kind

-- `end` counts all reports, of rules of either kind
unfoldable pub end_count : (ℕ → ℕ) → List Report → ℕ
end_count kinds ps = length ps
