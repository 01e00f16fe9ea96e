-- What listing a book answers and leaves in the lent output.
use Rattle.std.specs.Prelude.{Bool, true, false, List, ◌++◌, ◌≡◌, ℕ, ◌≤◌, leb, length, drop, Ok, Err}
use Rattle.std.specs.Prelude.{Result as Returned}
use Rattle.terms.specs.Limits.{listing_bytes}
use Rattle.result.specs.Result.{Result, given, refused}
use Rattle.result.specs.Refusal.{told}
use Rattle.result.specs.declared.Refusal.{Refusal}
use Rattle.listing_text.specs.Listing.{listing}

-- document 01's result, the length of the text, and the output afterwards
pub record Call : Type 0 where
  pub answer : Result ℕ
  pub out : List ℕ

abbrev pub or_short : Bool → List ℕ → Call → Call
or_short true out c = c
or_short false out c = record { answer = refused 1; out = out }

-- 1, where the output is shorter than 262,144 bytes, and nothing is written; else the listing stands in front, its length is the answer, and
-- the rest is as before. No listing is longer (`listing_fits`, crate listing_size)
unfoldable pub list_call : List ℕ → List ℕ → Call
list_call text out =
    or_short (leb listing_bytes (length out)) out
    (record { answer = given (length (listing text)); out = listing text ++ drop (length (listing text)) out })

pub record Answers (c : Call) (r : Returned ℕ Refusal) (out : List ℕ) : Type 0 where
  pub answers : told r ≡ c.answer
  pub leaves : out ≡ c.out

-- the text lies in the output
abbrev pub Within : Returned ℕ Refusal → List ℕ → Type 0
Within (Ok n) out = n ≤ length out
Within (Err r) out = 0 ≤ length out
