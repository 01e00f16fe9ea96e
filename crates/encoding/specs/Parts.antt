-- The parts of a configuration, and that they tile its bits.
--     Part       the state, a slot or a rule
--     span_of     its bits, by the definitions that the outputs are filled by
--     parts      all parts in order: state, slots, properties, assumptions
--     Adjoins    each part begins where the one before it ends
--     Tiles      each bit of the whole is one part's, and no other's
-- `encoding_tiles` (proofs/Spans.antt) is the theorem.
use Rattle.std.specs.Prelude.{Bool, true, List, [], ◌∷◌, ◌++◌, ◌≡◌, ℕ, zero, suc, ◌+◌, ◌≤◌, ◌<◌, length, get_or}
use Rattle.terms.specs.Choice.{pick}
use Rattle.plan.specs.Book.{properties, assumptions, first_bit}
use Rattle.encoding.specs.Encoding.{state_bits_of, slot_first, monitors_base, encoding_of}

pub data Part : Type 0 where
  of_state : Part
  of_slot : ℕ → Part
  of_rule : ℕ → Part

pub record Span : Type 0 where
  pub first : ℕ
  pub width : ℕ

abbrev pub Holds : Span → ℕ → Type 0
Holds s p = (s.first ≤ p) × (p < s.first + s.width)

-- the first part begins at `from`, each other where the one before it ends, and the last ends at `to`
unfoldable pub Adjoins : (Part → Span) → ℕ → List Part → ℕ → Type 0
Adjoins span from [] to = from ≡ to
Adjoins span from (x ∷ xs) to = ((span x).first ≡ from) × Adjoins span (from + (span x).width) xs to

-- the parts of the numbers below n that are chosen, in their order
unfoldable pub numbered : (ℕ → Bool) → (ℕ → Part) → ℕ → List Part
numbered chosen part zero = []
numbered chosen part (suc n) = numbered chosen part n ++ pick (chosen n) (part n ∷ []) []

-- a book with a count of states, slots of widths ws, and n rules
module _ (count : ℕ) (ws : List ℕ) (n : ℕ) (property compiled : ℕ → Bool) (bits : ℕ → ℕ) where
  abbrev pub span_of : Part → Span
  span_of of_state = record { first = 0; width = state_bits_of count }
  span_of (of_slot k) = record { first = slot_first count ws k; width = get_or ws k 0 }
  span_of (of_rule r) = record { first = first_bit (monitors_base count ws) n property compiled bits r; width = bits r }

  -- the state, the book's slots, and its rules that compile
  abbrev pub IsPart : Part → Type 0
  IsPart of_state = Unit
  IsPart (of_slot k) = k < length ws
  IsPart (of_rule r) = (r < n) × (compiled r ≡ true)

  unfoldable pub parts : List Part
  parts =
      of_state
      ∷ numbered (λ (k : ℕ). true) of_slot (length ws)
      ++ (numbered (properties property compiled) of_rule n ++ numbered (assumptions property compiled) of_rule n)

  abbrev pub total : ℕ
  total = (encoding_of count ws n compiled bits).total_bits

  pub record Tiles : Type 0 where
    pub in_order : Adjoins span_of 0 parts total
    pub inside : (x : Part) → IsPart x → (span_of x).first + (span_of x).width ≤ total
    pub apart : (x y : Part) → IsPart x → IsPart y → (p : ℕ) → Holds (span_of x) p → Holds (span_of y) p → x ≡ y
    pub filled : (p : ℕ) → p < total → (x : Part) × (IsPart x × Holds (span_of x) p)
