-- The step lines of a text from a place on, one by one and all together.
--     next_step     the step line at a place with the place behind it: what `next_step` answers
--     steps_from    the steps from a place on, up to the first line that is none
-- The laws between them and with a book are in proofs/StepsOfBook.antt.
use Rattle.std.specs.Prelude.{List, [], ◌∷◌, ℕ, ◌+◌, ltb, length, take, drop}
use Rattle.std.proofs.Math.Option.{Option, none, some}
use Rattle.terms.specs.Choice.{pick}
use Rattle.result.specs.Result.{Result, given}
use Rattle.line.specs.Text.{lines, first_at}
use Rattle.line.specs.Line.{Content, rule, node, step, states, slot, Line, bad, wrong, right, parse}
use Rattle.book.specs.Book.{StepLine}
use Rattle.std.specs.Prelude.{Option as Opt, Some, None}
use Rattle.reader.specs.declared.steps.StepLine as code

-- the step that a line is, if it is one
abbrev pub step_in : Content → Option StepLine
step_in (rule l k) = none
step_in (node op v) = none
step_in (step s w) = some (record { number = s; truths = w })
step_in (states c) = none
step_in (slot l w) = none

abbrev pub as_step : Line → Option StepLine
as_step bad = none
as_step (wrong s f) = none
as_step (right c) = step_in c

-- ---- one step line
pub record Next : Type 0 where
  pub line : StepLine
  pub next : ℕ

abbrev pub next_at : Option StepLine → ℕ → Option Next
next_at none p = none
next_at (some x) p = some (record { line = x; next = p })

-- the bytes from a place on begin with a line, up to their first LF, that is a step; the next place is just behind that LF
unfoldable pub next_in : List ℕ → ℕ → Option Next
next_in rest at =
    let n : ℕ = first_at 10 rest in
    pick (ltb n (length rest)) (next_at (as_step (parse (take n rest))) (at + (n + 1))) none

unfoldable pub next_step : List ℕ → ℕ → Option Next
next_step text at = next_in (drop at text) at

-- document 01's result for each case of the answer: never a refusal
abbrev pub result_of : Opt code.StepLine → Result (Option Next)
result_of (Some x) = given (some (record { line = record { number = x.step; truths = x.truths }; next = x.next }))
result_of None = given none

-- ---- all step lines
abbrev pub before : Option StepLine → List StepLine → List StepLine
before none r = []
before (some x) r = x ∷ r

unfoldable pub steps_of : List (List ℕ) → List StepLine
steps_of [] = []
steps_of (l ∷ ls) = before (as_step (parse l)) (steps_of ls)

unfoldable pub steps_from : List ℕ → ℕ → List StepLine
steps_from text at = steps_of (lines (drop at text))
