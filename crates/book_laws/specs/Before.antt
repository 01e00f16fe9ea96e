-- A book as document 01 alone reads it: without the words of the opening lines, and with document 01's own order of tests.
--     read_before    what document 01 says of a text
--     NoOpening     no line begins with `states` or `slot`
use Rattle.std.specs.Prelude.{◌≡◌, false, List, [], ◌∷◌, ℕ, ◌+◌, leb, length, take}
use Rattle.std.specs.Prelude.{None}
use Rattle.std.proofs.Math.Option.{Option}
use Rattle.result.specs.declared.Refusal.{Refusal}
use Rattle.result.specs.declared.Refusal.TheVariants as why
use Rattle.terms.specs.Limits.{book_bytes}
use Rattle.terms.specs.Choice.{pick}
use Rattle.words.specs.Same.{eqbs}
use Rattle.line.specs.Text.{lines, fields}
use Rattle.words.specs.Word.{Entry, vocabulary, lookup}
use Rattle.line.specs.Line.{Line, bad, content}
use Rattle.book.specs.Book.{Book, empty, whole, no_word, by_sort, wrong_field, stands, within, first_fault, add_line, Outcome, accepted, refused, unless, ended}

-- document 01's words
abbrev pub words_before : List Entry
words_before = take 15 vocabulary

unfoldable pub of_fields_before : List (List ℕ) → Line
of_fields_before [] = bad
of_fields_before (w ∷ fs) = content (lookup words_before w) fs

unfoldable pub parse_before : List ℕ → Line
parse_before l = of_fields_before (fields l)

-- 5, 6, 7 or 8, 9
abbrev pub order_before : List (Book → Line → Option Refusal)
order_before = no_word ∷ by_sort stands why.Place ∷ wrong_field ∷ by_sort within why.Limit ∷ []

unfoldable pub read_on_before : Book → ℕ → List (List ℕ) → Outcome
read_on_before b k [] = pick (whole b) (accepted b) (refused 10 k)
read_on_before b k (l ∷ ls) =
    unless (first_fault order_before b (parse_before l)) k (read_on_before (add_line (length l + 1) b (parse_before l)) (k + 1) ls)

unfoldable pub read_before : List ℕ → Outcome
read_before t = pick (leb (length t) book_bytes) (pick (ended t) (read_on_before empty 0 (lines t)) (refused 4 0)) (refused 3 0)

-- ---- a text without opening lines
abbrev pub first_field : List (List ℕ) → List ℕ
first_field [] = []
first_field (w ∷ fs) = w

-- its first field is neither word
pub record NoOpeningLine (l : List ℕ) : Type 0 where
  pub states : eqbs (first_field (fields l)) (115 ∷ 116 ∷ 97 ∷ 116 ∷ 101 ∷ 115 ∷ []) ≡ false
  pub slot : eqbs (first_field (fields l)) (115 ∷ 108 ∷ 111 ∷ 116 ∷ []) ≡ false

abbrev pub NoOpenings : List (List ℕ) → Type 0
NoOpenings [] = Unit
NoOpenings (l ∷ ls) = NoOpeningLine l × NoOpenings ls

abbrev pub NoOpening : List ℕ → Type 0
NoOpening t = NoOpenings (lines t)

-- a book that document 01 reads has no state and no slot
pub record Unopened (b : Book) : Type 0 where
  pub states : b.states ≡ None
  pub names : b.names ≡ []
  pub widths : b.widths ≡ []
