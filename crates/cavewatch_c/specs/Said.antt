-- How a result is said: the number is the answer, the further numbers stand in front of what `found` held.
use Rattle.std.specs.Prelude.{List, [], ◌∷◌, ◌≡◌, ℕ, ◌≤◌, Result, Ok, Err}
use Rattle.std.proofs.lemmas.List.Edits.{sets}
use Rattle.terms.specs.Limits.{book_bytes}
use Rattle.result.specs.Refusal.{number_of}
use Rattle.book.specs.declared.check.Refused.{Refused}
use Rattle.book.specs.declared.check.Read.{Read}
use Rattle.cavewatch_c.specs.Numbers.{Told, tell}
use Rattle.cavewatch_c.specs.declared.tell.Said.{Said}
use Rattle.cavewatch_c.specs.declared.tell.Said.TheVariants.{Number, One, Three, Six}

pub record SaysTold (t : Told) (found : List ℕ) (r : ℕ) (found' : List ℕ) : Type 0 where
  pub number_is : r ≡ t.number
  pub found_is : found' ≡ sets found 0 t.numbers

abbrev pub told_by : Said → Told
told_by (Number n) = tell n []
told_by (One n a) = tell n (a ∷ [])
told_by (Three a b c) = tell 0 (a ∷ b ∷ c ∷ [])
told_by (Six a b c d e f) = tell 0 (a ∷ b ∷ c ∷ d ∷ e ∷ f ∷ [])

-- a refusal of a book has a number up to 25 and a line up to 65,535
abbrev pub SmallLine : Result Read Refused → Type 0
SmallLine (Ok a) = Unit
SmallLine (Err r) = (number_of r.refusal ≤ 25) × (r.line ≤ book_bytes)
