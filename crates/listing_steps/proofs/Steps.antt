-- The steps that stand in a text: each number is below 2^63, and there are no more of them than bytes.
use mathlib.Core.Path.{◌≡◌, ap, subst}
use mathlib.Core.List.{List, [], ◌∷◌}
use mathlib.Core.Option.{Option, none, some}
use Prim.Native.Nat.{ℕ, suc, ◌≤◌, ◌<◌}
use native.Mathlib.Omega.{arith}
use lib.ListN.{length, drop, length-drop}
use Rattle.line.specs.Text.{lines}
use Rattle.line.proofs.Parts.{lines_few}
use Rattle.line.specs.Line.{rule, node, step, states, slot, Line, bad, wrong, right, parse}
use Rattle.line.proofs.Sane.{SaneLine, parse_sane}
use Rattle.book.specs.Book.{StepLine}
use Rattle.result.specs.Result.{given}
use Rattle.reader.specs.Steps.{as_step, next_step, result_of, before, steps_of, steps_from}
use Rattle.std.specs.Prelude.{Option as Opt, Some}
use Rattle.reader.specs.declared.steps.StepLine as code
use Rattle.reader.proofs.StepsOfBook.{one_more}

-- ---- the steps of some lines
abbrev Below : List StepLine → Type 0
Below [] = Unit {0}
Below (x ∷ xs) = x.number < 9223372036854775808

before_below : (x : Line) (r : List StepLine) → SaneLine x → Below (before (as_step x) r)
before_below bad r h = tt
before_below (wrong o f) r h = tt
before_below (right (rule l k)) r h = tt
before_below (right (node op v)) r h = tt
before_below (right (step s w)) r h = h
before_below (right (states c)) r h = tt
before_below (right (slot l w)) r h = tt

steps_below : (ls : List (List ℕ)) → Below (steps_of ls)
unfolding steps_of
steps_below [] = tt
steps_below (l ∷ ls) = before_below (parse l) (steps_of ls) (parse_sane l)

before_few : (o : Option StepLine) (r : List StepLine) → length (before o r) ≤ suc (length r)
before_few none r = omega arith
before_few (some x) r = omega arith

steps_few : (ls : List (List ℕ)) → length (steps_of ls) ≤ length ls
unfolding steps_of
steps_few [] = omega arith
steps_few (l ∷ ls) = omega (arith, before_few (as_step (parse l)) (steps_of ls), steps_few ls)

-- ---- the cursor
pub from_few : (text : List ℕ) (at : ℕ) → length (steps_from text at) ≤ length text
unfolding steps_from
from_few text at = omega (arith, steps_few (lines (drop at text)), lines_few (drop at text), length-drop at text)

module _ (text : List ℕ) (at : ℕ) (r : Opt code.StepLine) (h : result_of r ≡ given (next_step text at)) (x : code.StepLine) (e : r ≡ Some x) where
  pub step_low : x.step < 9223372036854775808
  unfolding steps_from
  step_low = subst Below (one_more text at r h x e) (steps_below (lines (drop at text)))

  pub fewer : length (steps_from text x.next) < length (steps_from text at)
  fewer = omega (arith, ap length (one_more text at r h x e))
