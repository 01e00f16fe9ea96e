-- What C is told of a result: one number, and the further numbers that go to the front of the lent `found`.
--     0         given
--     1 to 27   the refusal; for a book the line, 256 times, is added to it
--     100       given, and the rule is newly broken
--     101       given: there is no further step line
-- Nothing goes to `found` after a refusal.
use Rattle.std.specs.Prelude.{Bool, true, false, List, [], ◌∷◌, ℕ, ◌+◌, ◌*◌}
use Rattle.std.proofs.Math.Option.{Option, none, some}
use Rattle.result.specs.Result.{Result, given, refused}
use Rattle.book.specs.Book.{count_in, BookResult, contents, refusal}
use Rattle.std.specs.Prelude.{None, Some}
use Rattle.std.specs.Prelude.{Option as Opt}
use Rattle.reader.specs.Steps.{Next}

pub record Told : Type 0 where
  pub number : ℕ
  pub numbers : List ℕ

abbrev pub tell : ℕ → List ℕ → Told
tell n ns = record { number = n; numbers = ns }

abbrev pub told : {A : Type 0} → (A → Told) → Result A → Told
told f (given a) = f a
told f (refused n) = tell n []

-- 1 where a `states` line stood, else 0
abbrev pub stood_in : Opt ℕ → ℕ
stood_in None = 0
stood_in (Some c) = 1

-- a book: the counts of rules and nodes, the place of the first step line, the count of slots, whether a `states` line stood, the count of states
abbrev pub book_told : BookResult → Told
book_told (contents r n s m c) = tell 0 (r ∷ n ∷ s ∷ m ∷ stood_in c ∷ count_in c ∷ [])
book_told (refusal n k) = tell (n + 256 * k) []

-- a step line: its step, its truths, the place behind it
abbrev pub line_told : Option Next → Told
line_told none = tell 101 []
line_told (some x) = tell 0 (x.line.number ∷ x.line.truths ∷ x.next ∷ [])

-- a count: of a compiled rule's nodes, of the bytes that hold a saved state, of a listing's bytes
abbrev pub count_told : ℕ → Told
count_told n = tell 0 (n ∷ [])

-- a monitor that is made or restored has as many nodes as were handed over
abbrev pub made_told : ℕ → Told
made_told n = tell 0 []

-- a step: its culprit is the root's, in the monitor
abbrev pub step_told : Bool → Told
step_told true = tell 100 []
step_told false = tell 0 []

-- a run: the first step that is reported
abbrev pub run_told : Opt ℕ → Told
run_told None = tell 0 []
run_told (Some s) = tell 100 (s ∷ [])
