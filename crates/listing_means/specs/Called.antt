-- Step lines of any numbers, with gaps, repeats or steps back: each line is one call of a rule's monitor. What is reported of a rule then depends
-- on that rule and the step lines alone.
use Rattle.std.specs.Prelude.{true, false, List, [], ◌∷◌, ◌≡◌, ℕ, zero, suc, ◌<◌, ℤ, length}
use Rattle.monitor.specs.Mon.{Mon}
use Rattle.meaning.specs.State.{State, failed, culprit, step}
use Rattle.book.specs.Book.{StepLine}
use Rattle.listing_rules.specs.Rules.{Rule, compiles, mon}
use Rattle.listing_reports.specs.Reports.{Report}
use Rattle.listing_means.specs.Reports.{line_at}

-- the state after the first i lines
unfoldable pub state_at : (m : Mon) → State m → List StepLine → ℕ → State m
state_at m st xs zero = st
state_at m st [] (suc i) = st
state_at m st (x ∷ xs) (suc i) = state_at m (step m st x.number x.truths).state xs i

-- rule q, its monitor being in state st before the first line, is reported at the line at place i, which is x, with culprit c
pub record Called (q : Rule) (st : State (mon q)) (xs : List StepLine) (i : ℕ) (x : StepLine) (c : ℤ) : Type 0 where
  pub rule_compiles : compiles q ≡ true
  pub place_there : i < length xs
  pub line_is : x ≡ line_at xs i
  -- the line's call marks it failed
  pub unfailed_before : failed (mon q) (state_at (mon q) st xs i) ≡ false
  pub failed_after : failed (mon q) (state_at (mon q) st xs (suc i)) ≡ true
  pub culprit_after : c ≡ culprit (mon q) (state_at (mon q) st xs (suc i))

-- a report as in a book with that rule alone
abbrev pub alone : Report → Report
alone p = record { place = p.place; at = p.at; rule = 0; culprit = p.culprit }
