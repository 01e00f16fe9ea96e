-- Document 02, order 1 (`config_encoding` of src/mc/plan.rs): a configuration's bits are the state's, then the slots', then the monitors'.
--     state_bits_of       ceil(log2(count)), so 0 for counts 0 and 1
--     slot_bits        the bits of slots, by their widths
--     slot_first       the first bit of slot k
--     monitors_base    the first bit of the monitors
--     monitor_bits     the bits of the rules that compile, which crate plan gives by functions of their number
--     bytes_for        bits rounded up to whole bytes. `bytes_least` (proofs/Sums.antt): the fewest that hold so many bits
--     encoding_of      the numbers of a configuration
--     opening         what a book may open with
use Rattle.std.specs.Prelude.{Bool, ◌&&◌, List, [], ◌∷◌, ◌≡◌, ℕ, ◌+◌, ◌*◌, ◌/◌, ◌^◌, ◌≤◌, ◌<◌, leb, ltb, length, get_or, take}
use Rattle.terms.specs.Limits.{book_slots, state_counts, slot_most}
use Rattle.plan.specs.Width.{ceil_log2}
use Rattle.plan.specs.Book.{bits_below}
use Rattle.encoding.specs.Below.{all_below}
use Rattle.encoding.specs.declared.ConfigEncoding.{ConfigEncoding}

abbrev pub state_bits_of : ℕ → ℕ
state_bits_of count = ceil_log2 count

unfoldable pub slot_bits : List ℕ → ℕ
slot_bits [] = 0
slot_bits (w ∷ ws) = w + slot_bits ws

-- where slot k begins, behind the slots before it, the first of them at bit `base`
abbrev pub slot_from : ℕ → List ℕ → ℕ → ℕ
slot_from base ws k = base + slot_bits (take k ws)

abbrev pub slot_first : ℕ → List ℕ → ℕ → ℕ
slot_first count = slot_from (state_bits_of count)

abbrev pub monitors_base : ℕ → List ℕ → ℕ
monitors_base count ws = state_bits_of count + slot_bits ws

abbrev pub monitor_bits : ℕ → (ℕ → Bool) → (ℕ → ℕ) → ℕ
monitor_bits n compiled bits = bits_below compiled bits n

abbrev pub bytes_for : ℕ → ℕ
bytes_for t = (t + 7) / 8

-- k bytes hold t bits, and no fewer do
pub record LeastBytes (t k : ℕ) : Type 0 where
  pub enough : t ≤ 8 * k
  pub least : (j : ℕ) → t ≤ 8 * j → k ≤ j

-- from the bits of the state, of the slots and of the monitors
abbrev pub encoding_by : ℕ → ℕ → ℕ → ConfigEncoding
encoding_by state vars monitors = record {
  state_bits = state;
  vars_bits = vars;
  monitors_bits = monitors;
  total_bits = state + vars + monitors;
  total_bytes = bytes_for (state + vars + monitors);
}

-- of a book with a count of states, slots of widths ws, and n rules
unfoldable pub encoding_of : ℕ → List ℕ → ℕ → (ℕ → Bool) → (ℕ → ℕ) → ConfigEncoding
encoding_of count ws n compiled bits = encoding_by (state_bits_of count) (slot_bits ws) (monitor_bits n compiled bits)

-- ---- what a book may open with: a count up to 65,535 and at most 32 slots, each of at most 64 bits
abbrev pub narrow : List ℕ → ℕ → Bool
narrow widths m = all_below (λ (k : ℕ). leb (get_or widths k 0) slot_most) m

unfoldable pub opening : ℕ → List ℕ → ℕ → Bool
opening count widths m = ltb count state_counts && (leb m book_slots && narrow widths m)

-- the first m of a list are the widths of slots
pub record Widths (widths : List ℕ) (m : ℕ) : Type 0 where
  pub few : m ≤ book_slots
  pub inside : m ≤ length widths
  pub each : (k : ℕ) → k < m → get_or widths k 0 ≤ slot_most

-- ---- sums and their bounds
pub record StateSum (count r : ℕ) : Type 0 where
  pub is : r ≡ state_bits_of count
  pub most : r ≤ 16

pub record SlotSum (ws : List ℕ) (m r : ℕ) : Type 0 where
  pub is : r ≡ slot_bits ws
  pub most : r ≤ slot_most * m

pub record MonitorSum (n : ℕ) (compiled : ℕ → Bool) (bits : ℕ → ℕ) (r : ℕ) : Type 0 where
  pub is : r ≡ monitor_bits n compiled bits
  pub most : r < 2 ^ 60
