-- What the report of a watch says, where the step lines are numbered 0, 1, 2 and on: it is the report of their record.
use Rattle.std.specs.Prelude.{List, [], ◌∷◌, map, ◌↔◌, ◌≡◌, ℕ, suc, ◌<◌, ℤ, length, get_or}
use Rattle.book.specs.Book.{StepLine}
use Rattle.monitor.specs.Mon.{Mon}
use Rattle.meaning.specs.Alarm.{Record, Alarm, NoneBelow}
use Rattle.meaning.specs.Culprit as meaning
use Rattle.watch.specs.Watch.{Watched, no_report, reported}

-- numbered s, s + 1 and on
unfoldable pub NumberedFrom : ℕ → List StepLine → Type 0
NumberedFrom s [] = Unit {0}
NumberedFrom s (l ∷ ls) = (l.number ≡ s) × NumberedFrom (suc s) ls

abbrev pub truths_of : List StepLine → List ℕ
truths_of ls = map (λ l. l.truths) ls

-- the truths of the step lines in their order
abbrev pub line_record : List StepLine → Record
line_record ls s = get_or (truths_of ls) s 0

pub record SaysReport (m : Mon) (ls : List StepLine) (w : Watched) : Type 0 where
  -- a report with its culprit is printed exactly where it is the record's
  pub reports : (s : ℕ) (c : ℤ) → (w ≡ reported s c) ↔ ((s < length ls) × meaning.Report m (line_record ls) s c)
  -- and none exactly where the alarm holds at no step line
  pub quiet : (w ≡ no_report) ↔ NoneBelow (Alarm m (line_record ls)) (length ls)
