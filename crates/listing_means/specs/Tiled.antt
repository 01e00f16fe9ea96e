-- The bits of an accepted book's listing: the first bits on its `rule` lines and the numbers of its `plan` line are those of parts that tile the whole
-- (`Tiles`, crate encoding): state, slots, properties, assumptions.
use Rattle.std.specs.Prelude.{◌≡◌, Bool, ℕ, length}
use Rattle.encoding.specs.Encoding.{monitors_base}
use Rattle.encoding.specs.Parts.{of_rule, span_of, total, Tiles}
use Rattle.book.specs.Book.{Book, count_in}
use Rattle.listing_rules.specs.Rules.{property, compiles, bits_of, first_bit_of, encoding_for}
use Rattle.listing_text.specs.Listing.{rule_at}

module _ (b : Book) where
  abbrev pub rules : ℕ
  rules = length b.labels

  abbrev pub properties : ℕ → Bool
  properties r = property (rule_at b r)

  abbrev pub compiled : ℕ → Bool
  compiled r = compiles (rule_at b r)

  abbrev pub bits_at : ℕ → ℕ
  bits_at r = bits_of (rule_at b r)

  pub record Tiled : Type 0 where
    pub tiles : Tiles (count_in b.states) b.widths rules properties compiled bits_at
    -- rule r's first bit is its part's
    pub first : (r : ℕ) → first_bit_of (monitors_base (count_in b.states) b.widths) (rule_at b) rules r
        ≡ (span_of (count_in b.states) b.widths rules properties compiled bits_at (of_rule r)).first
    -- the total on the `plan` line is the end of the last part
    pub whole : (encoding_for (count_in b.states) b.widths (rule_at b) rules).total_bits
        ≡ total (count_in b.states) b.widths rules properties compiled bits_at
