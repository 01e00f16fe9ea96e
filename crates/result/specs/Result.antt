-- Document 01's result of a call: what is given, or the number of the refusal, which then is the whole result.
--     Result    `told` (Refusal.antt) says of an answer which result it is; the contracts are stated with it
--     or_else    the result where a test holds, else a refusal
use Rattle.std.specs.Prelude.{Bool, true, false, ℕ}

pub data Result (A : Type 0) : Type 0 where
  given : A → Result A
  refused : ℕ → Result A

-- the result where the test holds, else refusal n
abbrev pub or_else : {A : Type 0} → Bool → ℕ → Result A → Result A
or_else true n r = r
or_else false n r = refused n
