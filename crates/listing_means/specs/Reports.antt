-- WHAT A REPORT SAYS, read from the rules and the step lines of a book; no monitor is in it. The theorems stand in proofs/Reports.antt.
--     InOrderLines    the step lines are numbered 0, 1, 2 and on
--     Begins          the first words of an endless record are the truths of the step lines
--     Says            a report that document 01 asks for
--     Reported        a rule has a report
--     Ascending       reports by step line and then by rule
--     Listed          all of it, of a book's listing
use Rattle.std.specs.Prelude.{true, List, [], ◌∷◌, ◌++◌, ◌⊎◌, ◌↔◌, ◌≡◌, ℕ, suc, ◌≤◌, ◌<◌, length, get_or}
use Rattle.meaning.specs.Alarm.{Record, Alarm, First}
use Rattle.meaning.specs.Culprit.{Culprit}
use Rattle.meaning.specs.Logic.{Fails}
use Rattle.encoding.specs.Encoding.{monitors_base}
use Rattle.book.specs.Book.{Book, StepLine, count_in}
use Rattle.listing_line.specs.Plan.{plan_line}
use Rattle.listing_rules.specs.Rules.{Rule, compiles, mon, encoding_for}
use Rattle.listing_head.specs.Head.{rules_text}
use Rattle.listing_reports.specs.Reports.{Report, book_reports, kinds_of, end_count}
use Rattle.listing_reports.specs.Tail.{report_lines, end_line}
use Rattle.listing_text.specs.Listing.{rule_at, listing}

-- a report stands in a list
infix 50 ◌∈◌
abbrev pub ◌∈◌ : Report → List Report → Type 0
p ∈ [] = ⊥
p ∈ (q ∷ qs) = (p ≡ q) ⊎ (p ∈ qs)

-- ---- step lines
-- the line at place i; past the end, one without truths
abbrev pub line_at : List StepLine → ℕ → StepLine
line_at xs i = get_or xs i (record { number = 0; truths = 0 })

abbrev pub InOrderLines : List StepLine → Type 0
InOrderLines xs = (i : ℕ) → i < length xs → (line_at xs i).number ≡ i

-- their truths, as a record
abbrev pub truths_of : List StepLine → Record
truths_of xs s = (line_at xs s).truths

abbrev pub Begins : Record → List StepLine → Type 0
Begins rec xs = (i : ℕ) → i < length xs → rec i ≡ (line_at xs i).truths

-- ---- a report p of the first n of the rules R, over step lines numbered in order
pub record Says (R : ℕ → Rule) (n : ℕ) (xs : List StepLine) (rec : Record) (p : Report) : Type 0 where
  -- its rule is one of them, and compiles
  pub rule_there : p.rule < n
  pub rule_compiles : compiles (R p.rule) ≡ true
  -- its step is that of a step line, and that line is its own
  pub step_there : p.at.number < length xs
  pub place_is : p.place ≡ p.at.number
  pub line_is : p.at ≡ line_at xs p.at.number
  -- the rule's alarm holds at that step and at no earlier one
  pub alarm_here : Alarm (mon (R p.rule)) rec p.at.number
  pub none_earlier : (u : ℕ) → u < p.at.number → Alarm (mon (R p.rule)) rec u → ⊥
  -- its culprit is the rule's after that step
  pub culprit_then : Culprit (mon (R p.rule)) rec (suc p.at.number) p.culprit

-- rule r has a report
abbrev pub Reported : (ℕ → Rule) → ℕ → List StepLine → ℕ → Type 0
Reported R n xs r = (p : Report) × (p.rule ≡ r) × (p ∈ book_reports R n xs)

-- a plain rule, over a record that begins with the truths of the step lines
pub record PlainSays (R : ℕ → Rule) (n : ℕ) (xs : List StepLine) (rec : Record) (r : ℕ) : Type 0 where
  -- reported: in temporal logic it is false at step 0
  pub false_if_reported : Reported R n xs r → Fails (R r).formula rec 0
  -- not reported: no alarm held at a step of the book
  pub silent_if_not : (Reported R n xs r → ⊥) → (s : ℕ) → s < length xs → Alarm (mon (R r)) rec s → ⊥
  -- false at step 0 and not reported: its first alarm is past the book
  pub late_if_false : (Reported R n xs r → ⊥) → Fails (R r).formula rec 0 → (s : ℕ) × (length xs ≤ s) × First (Alarm (mon (R r)) rec) s

-- ---- their order
abbrev pub Earlier : Report → Report → Type 0
Earlier p q =
    (p.place < q.place) ⊎ ((p.place ≡ q.place) × (p.rule < q.rule))

-- each report is earlier than all that follow it
abbrev pub Ascending : List Report → Type 0
Ascending [] = Unit {0}
Ascending (p ∷ ps) = ((q : Report) → q ∈ ps → Earlier p q) × Ascending ps

-- ---- the listing of a book
-- its `report` lines are those of a list of reports, in order, that holds what is asked for and nothing else
pub record Listed (text : List ℕ) (b : Book) : Type 0 where
  pub found : List Report
  pub prints :
      listing text ≡ rules_text (monitors_base (count_in b.states) b.widths) (rule_at b) (length b.labels)
      ++ (plan_line (encoding_for (count_in b.states) b.widths (rule_at b) (length b.labels))
      ++ (report_lines found ++ end_line (end_count (kinds_of (rule_at b)) found)))
  pub says : (p : Report) → (p ∈ found) ↔ Says (rule_at b) (length b.labels) b.steps (truths_of b.steps) p
  pub ascending : Ascending found
