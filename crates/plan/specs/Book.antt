-- Document 01, "Layout", over a book: properties come first, then assumptions, each in book order; rules that do not compile are skipped. The
-- first rule's bits begin at bit `base`: 0 in document 01, behind the state and the slots in document 02, order 1.
-- A book is given by what is known of rule r: whether it is a property, whether it compiles, and its bits.
use Rattle.std.specs.Prelude.{Bool, true, false, ◌&&◌, not, List, [], ◌∷◌, ◌++◌, ◌≡◌, ℕ, zero, suc, ◌+◌, ◌*◌, ◌≤◌, ◌<◌, eqb, length, get_or, set}
use Rattle.std.proofs.lemmas.List.Edits.{sets}
use Rattle.terms.specs.Limits.{book_rules}
use Rattle.terms.specs.Choice.{pick}
use Rattle.monitor.specs.declared.table.Part.{Part}
use Rattle.plan.specs.Rows.{row_bits, RowsPart}

-- the bits of the rules below r that are chosen
unfoldable pub bits_below : (ℕ → Bool) → (ℕ → ℕ) → ℕ → ℕ
bits_below chosen bits zero = 0
bits_below chosen bits (suc r) = bits_below chosen bits r + pick (chosen r) (bits r) 0

-- a rule is what is asked: a property, or else an assumption
abbrev pub asked : Bool → Bool → Bool
asked true property = property
asked false property = not property

-- the rules of a kind that compile
abbrev pub of_kind : Bool → (ℕ → Bool) → (ℕ → Bool) → ℕ → Bool
of_kind kind property compiled r = compiled r && asked kind (property r)

abbrev pub properties : (ℕ → Bool) → (ℕ → Bool) → ℕ → Bool
properties = of_kind true

abbrev pub assumptions : (ℕ → Bool) → (ℕ → Bool) → ℕ → Bool
assumptions = of_kind false

-- the first bit of rule r among n: behind the properties before it, or, for an assumption, behind all properties and the assumptions before it
abbrev pub first_bit : ℕ → ℕ → (ℕ → Bool) → (ℕ → Bool) → (ℕ → ℕ) → ℕ → ℕ
first_bit base n property compiled bits r =
    base
    + pick (property r) (bits_below (properties property compiled) bits r)
    (bits_below (properties property compiled) bits n + bits_below (assumptions property compiled) bits r)

-- the first r values of a function
unfoldable pub listed : (ℕ → ℕ) → ℕ → List ℕ
listed f zero = []
listed f (suc r) = listed f r ++ (f r ∷ [])

-- a lent list with the values of the n rules in it; a rule that does not compile, and what stands past the rules, keeps what was there
abbrev pub kept : (ℕ → Bool) → (ℕ → ℕ) → List ℕ → ℕ → ℕ
kept compiled f old r = pick (compiled r) (f r) (get_or old r 0)

abbrev pub filled_in : (ℕ → Bool) → (ℕ → ℕ) → List ℕ → ℕ → List ℕ
filled_in compiled f old n = sets old 0 (listed (kept compiled f old) n)

-- ---- a book in lent slices, with the bits of its rules by the rows of a node table
abbrev pub is_zero : List ℕ → ℕ → Bool
is_zero l r = eqb (get_or l r 0) 0

-- rule r's part of the tables
abbrev pub part_at : List ℕ → List ℕ → List ℕ → List ℕ → ℕ → Part
part_at firsts counts nfirsts ncounts r =
    record { first = get_or firsts r 0; count = get_or counts r 0; nfirst = get_or nfirsts r 0; ncount = get_or ncounts r 0 }

abbrev pub part_bits : List ℕ → List ℕ → List ℕ → ℕ → ℕ
part_bits nodes nfirsts ncounts r = row_bits nodes (get_or nfirsts r 0) (get_or ncounts r 0)

-- n rules of at most 64; the part of each one that compiles is in the node table
pub record Rowed (kinds refusals nodes nfirsts ncounts : List ℕ) (n : ℕ) : Type 0 where
  pub few : n ≤ book_rules
  pub in_kinds : n ≤ length kinds
  pub in_refusals : n ≤ length refusals
  pub in_nfirsts : n ≤ length nfirsts
  pub in_ncounts : n ≤ length ncounts
  pub parts : (r : ℕ) → r < n → get_or refusals r 0 ≡ 0 → RowsPart nodes (get_or nfirsts r 0) (get_or ncounts r 0)

-- the bits of rule r where it is chosen, at most 65 for each of 256 nodes
pub record Chosen (chosen : ℕ → Bool) (bits : ℕ → ℕ) (r b : ℕ) : Type 0 where
  pub is : b ≡ pick (chosen r) (bits r) 0
  pub most : b ≤ 16640

pub record Counted (chosen : ℕ → Bool) (bits : ℕ → ℕ) (r b : ℕ) : Type 0 where
  pub is : b ≡ bits_below chosen bits r
  pub most : b ≤ 16640 * r

-- the values of rule r, stored where it compiles
pub record Stored (compiled property : Bool) (r x y b : ℕ) (firsts firsts' bits bits' : List ℕ) : Type 0 where
  pub first_is : firsts' ≡ set firsts r (pick compiled (pick property x y) (get_or firsts r 0))
  pub bits_are : bits' ≡ set bits r (pick compiled b (get_or bits r 0))

-- what the layout of n rules leaves in the two outputs
pub record Arranged (base n : ℕ) (property compiled : ℕ → Bool) (width : ℕ → ℕ) (firsts firsts' bits bits' : List ℕ) : Type 0 where
  pub firsts_are : firsts' ≡ filled_in compiled (first_bit base n property compiled width) firsts n
  pub bits_are : bits' ≡ filled_in compiled width bits n
