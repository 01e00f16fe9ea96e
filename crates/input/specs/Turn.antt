-- What one read gives, by its answer and the room that it was lent.
use Rattle.std.specs.Prelude.{ℕ, zero, suc, min, Option, Some, None, Result, Ok, Err}

abbrev pub counted : ℕ → Option ℕ
counted zero = None
counted (suc k) = Some (suc k)

-- an error is a failure, 0 bytes the input's end, any other number so many bytes
unfoldable pub turn_of : {E : Type 0} → Result ℕ E → ℕ → Result (Option ℕ) E
turn_of (Ok k) most = Ok (counted (min k most))
turn_of (Err e) most = Err e
