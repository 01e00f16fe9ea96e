-- Lists of step calls, refused ones included, from a fresh monitor on.
--     step_all, report_of   each call gets the state as the last one left it; the step of the first report
--     InOrder             the accepted calls are at k, k+1, k+2 and on
--     AcceptedAt, Below   a call is accepted at s; each is below 2^63
--     record_of            the truths of the accepted calls in their order
--     Over                they are the first words of a record
--     first_report         stepping over a list of words up to the first report
use Rattle.std.specs.Prelude.{cond, List, [], ◌∷◌, ◌⊎◌, ◌≡◌, ℕ, suc, ◌<◌, ℤ, length, get_or}
use Rattle.std.proofs.Math.Option.{Option, none, some}
use Rattle.terms.specs.Limits as limits
use Rattle.monitor.specs.Mon.{Mon}
use Rattle.meaning.specs.Alarm.{Record}
use Rattle.meaning.specs.State.{State, culprit, step, newly_failed}

-- a call: refused, or accepted at a step with its truths
pub data Call : Type 0 where
  refused : Call
  accepted : (s w : ℕ) → Call

-- a refused call leaves no trace
abbrev pub after_call : (m : Mon) → State m → Call → State m
after_call m st refused = st
after_call m st (accepted s w) = (step m st s w).state

unfoldable pub step_all : (m : Mon) → State m → List Call → State m
step_all m st [] = st
step_all m st (c ∷ cs) = step_all m (after_call m st c) cs

-- the step that a list of calls reports, if it reports
unfoldable pub report_of : (m : Mon) → State m → List Call → Option ℕ
report_of m st [] = none
report_of m st (refused ∷ cs) = report_of m st cs
report_of m st (accepted s w ∷ cs) = cond (newly_failed m st s w) (some s) (report_of m (step m st s w).state cs)

unfoldable pub InOrder : ℕ → List Call → Type 0
InOrder k [] = Unit {0}
InOrder k (refused ∷ cs) = InOrder k cs
InOrder k (accepted s w ∷ cs) = (s ≡ k) × InOrder (suc k) cs

-- a call of the list is accepted at s
unfoldable pub AcceptedAt : ℕ → List Call → Type 0
AcceptedAt s [] = ⊥
AcceptedAt s (refused ∷ cs) = AcceptedAt s cs
AcceptedAt s (accepted t w ∷ cs) = (s ≡ t) ⊎ AcceptedAt s cs

-- each is below 2^63
unfoldable pub Below : List Call → Type 0
Below [] = Unit {0}
Below (refused ∷ cs) = Below cs
Below (accepted s w ∷ cs) = (s < limits.steps) × Below cs

unfoldable pub words_of : List Call → List ℕ
words_of [] = []
words_of (refused ∷ cs) = words_of cs
words_of (accepted s w ∷ cs) = w ∷ words_of cs

-- how many calls were accepted
abbrev pub step_count : List Call → ℕ
step_count cs = length (words_of cs)

abbrev pub record_of : List Call → Record
record_of cs s = get_or (words_of cs) s 0

abbrev pub Over : Record → List Call → Type 0
Over rec cs = (i : ℕ) → i < step_count cs → record_of cs i ≡ rec i

-- ---- many words at once, from step s on: the step and the culprit of the first report, if there is one
unfoldable pub first_report : (m : Mon) → State m → ℕ → List ℕ → Option (ℕ × ℤ)
first_report m st s [] = none
first_report m st s (w ∷ ws) =
    let next = (step m st s w).state in
    cond (newly_failed m st s w) (some (s, culprit m next)) (first_report m next (suc s) ws)
