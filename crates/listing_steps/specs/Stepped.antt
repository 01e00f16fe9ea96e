-- What stepping asks and leaves: of one rule, of one step line, of all step lines.
use Rattle.std.specs.Prelude.{Bool, List, [], ◌∷◌, ◌≡◌, ℕ, ◌+◌, ◌≤◌, ◌<◌, ltb, length}
use Rattle.terms.specs.Limits.{book_bytes, book_rules, steps}
use Rattle.terms.specs.Choice.{pick}
use Rattle.monitor.specs.Mon.{Mon, count}
use Rattle.meaning.specs.State.{step, newly_failed}
use Rattle.node_step.specs.Memory.{Memory, Inside}
use Rattle.lent.specs.Nodes.{NodesAt}
use Rattle.stepping.specs.Walk.{ShapedAt, read_mon, write_mon}
use Rattle.book.specs.Book.{StepLine}
use Rattle.reader.specs.Steps.{steps_from}
use Rattle.text.specs.Tape.{Tape, Wrote}
use Rattle.listing_rules.specs.Rules.{Rule}
use Rattle.listing_reports.specs.Reports.{States, next_states, Report, breaks, report_of, reports_at, reports, book_reports, kinds_of, end_count}
use Rattle.listing_reports.specs.Tail.{report_lines}
use Rattle.listing_steps.specs.Holding.{Rows, Holding}

abbrev pub line_of : ℕ → ℕ → StepLine
line_of s w = record { number = s; truths = w }

-- the states while a step line is in hand: the first r rules have stepped
unfoldable pub stepped : (R : ℕ → Rule) → States R → StepLine → ℕ → States R
stepped R st x r q = pick (ltb q r) (next_states R st x q) (st q)

-- the report of rule r at the step line at place i, if it is newly broken there
abbrev pub report_if : (R : ℕ → Rule) → States R → ℕ → StepLine → ℕ → List Report
report_if R st i x r = pick (breaks R st x r) (report_of R st i x r ∷ []) []

-- ---- one monitor, its root at entry k: whether it is newly failed, and the memory afterwards
pub record RuleStepped (ops nums nodes : List ℕ) (mem : Memory) (k s w : ℕ) (mem' : Memory) (broken : Bool) : Type 0 where
  pub is :
      (m : Mon) → NodesAt ops nums nodes k m → ShapedAt m mem k → Inside mem (k + count m)
      → (broken ≡ newly_failed m (read_mon m mem k) s w) × (mem' ≡ write_mon m (step m (read_mon m mem k) s w).state mem k)

-- ---- rule r at a step line, which may stand at any place
pub record Due (ops nums nodes nfirsts refusals : List ℕ) (n r : ℕ) (mem : Memory) (s w : ℕ) : Type 0 where
  pub rules : ℕ → Rule
  pub states : States rules
  pub rows : Rows ops nums nodes nfirsts refusals rules n
  pub holding : Holding nfirsts rules n (stepped rules states (line_of s w) r) mem
  pub inside : r < n
  pub below : s < steps

pub record OneStepped (ops nums nodes nfirsts refusals : List ℕ) (n r : ℕ) (mem : Memory) (s w : ℕ) (before : Tape) (mem' : Memory)
    (after : Tape) (written : ℕ) : Type 0 where
  pub few : written ≤ 1
  pub holding :
      (R : ℕ → Rule) (st : States R) → Rows ops nums nodes nfirsts refusals R n → Holding nfirsts R n (stepped R st (line_of s w) r) mem
      → Holding nfirsts R n (stepped R st (line_of s w) (r + 1)) mem'
  pub wrote :
      (R : ℕ → Rule) (st : States R) (i : ℕ) → Rows ops nums nodes nfirsts refusals R n → Holding nfirsts R n (stepped R st (line_of s w) r) mem
      → Wrote before (report_lines (report_if R st i (line_of s w) r)) after
  pub counted :
      (R : ℕ → Rule) (st : States R) (i : ℕ) → Rows ops nums nodes nfirsts refusals R n → Holding nfirsts R n (stepped R st (line_of s w) r) mem
      → written ≡ length (report_if R st i (line_of s w) r)

-- ---- all rules at a step line
pub record LineDue (ops nums nodes nfirsts refusals : List ℕ) (n : ℕ) (mem : Memory) (s : ℕ) : Type 0 where
  pub rules : ℕ → Rule
  pub states : States rules
  pub rows : Rows ops nums nodes nfirsts refusals rules n
  pub holding : Holding nfirsts rules n states mem
  pub below : s < steps

pub record LineStepped (ops nums nodes nfirsts refusals : List ℕ) (n : ℕ) (mem : Memory) (s w : ℕ) (before : Tape) (mem' : Memory)
    (after : Tape) (written : ℕ) : Type 0 where
  pub few : written ≤ book_rules
  pub holding :
      (R : ℕ → Rule) (st : States R) → Rows ops nums nodes nfirsts refusals R n → Holding nfirsts R n st mem
      → Holding nfirsts R n (next_states R st (line_of s w)) mem'
  pub wrote :
      (R : ℕ → Rule) (st : States R) (i : ℕ) → Rows ops nums nodes nfirsts refusals R n → Holding nfirsts R n st mem
      → Wrote before (report_lines (reports_at R st i (line_of s w) n)) after
  pub counted :
      (R : ℕ → Rule) (st : States R) (i : ℕ) → Rows ops nums nodes nfirsts refusals R n → Holding nfirsts R n st mem
      → written ≡ length (reports_at R st i (line_of s w) n)

-- ---- all step lines of a text from a place on; a book has at most 65,535 bytes
-- the states after some step lines
unfoldable pub last_states : (R : ℕ → Rule) → States R → List StepLine → States R
last_states R st [] = st
last_states R st (x ∷ xs) = last_states R (next_states R st x) xs

pub record LinesDue (text ops nums nodes nfirsts refusals : List ℕ) (n : ℕ) (mem : Memory) : Type 0 where
  pub rules : ℕ → Rule
  pub states : States rules
  pub rows : Rows ops nums nodes nfirsts refusals rules n
  pub holding : Holding nfirsts rules n states mem
  pub short : length text ≤ book_bytes

pub record LinesStepped (text : List ℕ) (from : ℕ) (ops nums nodes nfirsts refusals : List ℕ) (n : ℕ) (mem : Memory) (before : Tape) (mem' : Memory)
    (after : Tape) (written : ℕ) : Type 0 where
  pub holding :
      (R : ℕ → Rule) (st : States R) → Rows ops nums nodes nfirsts refusals R n → Holding nfirsts R n st mem
      → Holding nfirsts R n (last_states R st (steps_from text from)) mem'
  pub wrote :
      (R : ℕ → Rule) (st : States R) → Rows ops nums nodes nfirsts refusals R n → Holding nfirsts R n st mem
      → Wrote before (report_lines (reports R n st 0 (steps_from text from))) after
  pub counted :
      (R : ℕ → Rule) (st : States R) → Rows ops nums nodes nfirsts refusals R n → Holding nfirsts R n st mem
      → written ≡ end_count (kinds_of R) (reports R n st 0 (steps_from text from))

-- ---- the same from fresh monitors
pub record StepsDue (text ops nums nodes nfirsts refusals : List ℕ) (n : ℕ) : Type 0 where
  pub rules : ℕ → Rule
  pub rows : Rows ops nums nodes nfirsts refusals rules n
  pub short : length text ≤ book_bytes

pub record StepsReported (text : List ℕ) (from : ℕ) (ops nums nodes nfirsts refusals : List ℕ) (n : ℕ) (before after : Tape) (total : ℕ) : Type 0 where
  pub wrote :
      (R : ℕ → Rule) → Rows ops nums nodes nfirsts refusals R n
      → Wrote before (report_lines (book_reports R n (steps_from text from))) after
  pub counted :
      (R : ℕ → Rule) → Rows ops nums nodes nfirsts refusals R n
      → total ≡ end_count (kinds_of R) (book_reports R n (steps_from text from))
