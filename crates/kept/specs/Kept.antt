-- Document 02, order 3: a monitor's state in the bits of its layout (document 01, "Layout"), the rule's own first bit being bit 0.
--     keeps        what each node keeps, in prefix order
--     state_bits_of    the bits of a state: of a delayed check its remembered antecedent; of an obligation from bound 1 pending, then remaining, lowest bit
--                  first, zero where nothing is pending
--     spent        the root, an obligation or a delayed check is marked failed
--     entries_in    the entries that bits say: no mark, and culprits of minus 1
--     stored       bits that a state can have: a pending remaining from 1 to the bound, none without pending, unused bits zero
-- `kept_bits_lem`, `kept_slot` (crate saving_laws, proofs/Slots.antt): these are the bits of crate plan's layout, each node's in its slot.
use Rattle.std.specs.Prelude.{Bool, true, false, ◌&&◌, ◌||◌, cond, List, [], ◌∷◌, ◌++◌, ◌≡◌, ℕ, zero, suc, ◌+◌, ◌-◌, ◌*◌, ◌≤◌, eqb, leb, length, get_or}
use Rattle.terms.specs.Choice.{pick}
use Rattle.monitor.specs.declared.node.MonNode.{MonNode}
use Rattle.monitor.specs.declared.node.MonNode.TheVariants.{RangeCheck, DelayedCheck, Obligation, And as AndNode, Or as OrNode}
use Rattle.std.specs.Prelude.{None, Option, Some}
use Rattle.monitor.specs.Mon.{Mon, check, And, Or, node_of}
use Rattle.monitor.specs.Table.{row_of}
use Rattle.plan.specs.Width.{width}
use Rattle.plan.specs.Rows.{row_bits, RowsPart}
use Rattle.encoding.specs.Encoding.{bytes_for}
use Rattle.meaning.specs.Culprit.{minus_one}
use Rattle.node_step.specs.declared.state.MonState.{MonState}
use Rattle.node_step.specs.Memory.{Memory, put, initial_entry, Inside}
use Rattle.bits.specs.Bits.{digits, number, spelled, blank, ink_bits}
use Rattle.kept.specs.declared.Keep.{Keep}
use Rattle.kept.specs.declared.Keep.TheVariants.{Nothing, Antecedent, Window}

-- ---- what is kept
abbrev pub keep_node : MonNode → Keep
keep_node (RangeCheck s r) = Nothing
keep_node (DelayedCheck s t r) = Antecedent
keep_node (Obligation b s t r) = Window b
keep_node AndNode = Nothing
keep_node OrNode = Nothing

unfoldable pub keeps : Mon → List Keep
keeps (check c) = keep_node (node_of c) ∷ []
keeps (And m n) = Nothing ∷ keeps m ++ keeps n
keeps (Or m n) = Nothing ∷ keeps m ++ keeps n

abbrev pub window_bits : ℕ → ℕ
window_bits zero = 0
window_bits (suc b) = 1 + width (suc b)

abbrev pub keep_width : Keep → ℕ
keep_width Nothing = 0
keep_width Antecedent = 1
keep_width (Window b) = window_bits b

unfoldable pub kept_bits : List Keep → ℕ
kept_bits [] = 0
kept_bits (x ∷ xs) = keep_width x + kept_bits xs

-- the bytes that are needed
abbrev pub kept_bytes : List Keep → ℕ
kept_bytes xs = bytes_for (kept_bits xs)

-- ---- writing
-- a window of bound b
abbrev pub window_written : ℕ → Bool → ℕ → List Bool
window_written zero held remaining = []
window_written (suc b) held remaining = held ∷ digits (width (suc b)) (cond held remaining 0)

abbrev pub keep_written : Keep → Bool → ℕ → List Bool
keep_written Nothing held remaining = []
keep_written Antecedent held remaining = held ∷ []
keep_written (Window b) held remaining = window_written b held remaining

-- the nodes from node k on
unfoldable pub state_bits_of : List Keep → List Bool → List ℕ → ℕ → List Bool
state_bits_of [] held remaining k = []
state_bits_of (x ∷ xs) held remaining k = keep_written x (get_or held k false) (get_or remaining k 0) ++ state_bits_of xs held remaining (k + 1)

-- a mark of a delayed check or an obligation, whatever its bound
abbrev pub keep_spent : Keep → Bool → Bool
keep_spent Nothing failed = false
keep_spent Antecedent failed = failed
keep_spent (Window b) failed = failed

unfoldable pub spent_from : List Keep → List Bool → ℕ → Bool
spent_from [] failed k = false
spent_from (x ∷ xs) failed k = keep_spent x (get_or failed k false) || spent_from xs failed (k + 1)

-- the root's is entry 0
abbrev pub spent : List Keep → List Bool → Bool
spent xs failed = get_or failed 0 false || spent_from xs failed 0

-- ---- reading
-- an entry without a mark, and with no step to blame
abbrev pub unmarked : Bool → ℕ → MonState
unmarked held remaining = record { held = held; remaining = remaining; failed = false; culprit = minus_one }

abbrev pub window_entry : ℕ → (ℕ → Bool) → ℕ → MonState
window_entry zero bits at = initial_entry
window_entry (suc b) bits at = unmarked (bits at) (number (spelled bits (at + 1) (width (suc b))))

abbrev pub keep_entry : Keep → (ℕ → Bool) → ℕ → MonState
keep_entry Nothing bits at = initial_entry
keep_entry Antecedent bits at = unmarked (bits at) 0
keep_entry (Window b) bits at = window_entry b bits at

unfoldable pub entries_in : List Keep → (ℕ → Bool) → ℕ → List MonState
entries_in [] bits at = []
entries_in (x ∷ xs) bits at = keep_entry x bits at ∷ entries_in xs bits (at + keep_width x)

-- a pending window has from 1 to its bound left, one that is not pending nothing
abbrev pub entry_sound : Keep → MonState → Bool
entry_sound Nothing e = true
entry_sound Antecedent e = true
entry_sound (Window b) e = pick e.held (leb 1 e.remaining && leb e.remaining b) (eqb e.remaining 0)

unfoldable pub sound_from : List Keep → (ℕ → Bool) → ℕ → Bool
sound_from [] bits at = true
sound_from (x ∷ xs) bits at = entry_sound x (keep_entry x bits at) && sound_from xs bits (at + keep_width x)

abbrev pub stored : List Keep → (ℕ → Bool) → Bool
stored xs bits = sound_from xs bits 0 && blank bits (kept_bits xs) (8 * kept_bytes xs - kept_bits xs)

-- entries k, k + 1 and on are these; the others stay
unfoldable pub entered : Memory → ℕ → List MonState → Memory
entered mem k [] = mem
entered mem k (e ∷ es) = entered (put mem k e) (k + 1) es

-- ---- by the rows of a node table. `rows_keep` (crate saving, proofs/Rows.antt): where they hold a compiled rule they are what that rule keeps
abbrev pub keep_row : Option MonNode → Keep
keep_row (Some n) = keep_node n
keep_row None = Nothing

-- n rows from row i on
unfoldable pub row_keeps : List ℕ → ℕ → ℕ → List Keep
row_keeps nodes i zero = []
row_keeps nodes i (suc n) = keep_row (row_of nodes i) ∷ row_keeps nodes (i + 1) n

-- ---- what the parts of the calls ask and leave
-- w bits from bit `at` on are there; no rule's bits reach past 65,536
pub record Space (bytes : List ℕ) (at w : ℕ) : Type 0 where
  pub inside : at + w ≤ 8 * length bytes
  pub low : at ≤ 65536

pub record PutKept (bytes : List ℕ) (at : ℕ) (x : Keep) (held : Bool) (remaining : ℕ) (bytes' : List ℕ) : Type 0 where
  pub is : bytes' ≡ ink_bits bytes at (keep_written x held remaining)

-- n rows whose bits are those of the layout
pub record BitsPart (nodes : List ℕ) (nfirst n : ℕ) : Type 0 where
  pub rows : RowsPart nodes nfirst n
  pub laid : row_bits nodes nfirst n ≡ kept_bits (row_keeps nodes nfirst n)

pub record MarkedPart (nodes : List ℕ) (nfirst n : ℕ) (failed : List Bool) : Type 0 where
  pub rows : RowsPart nodes nfirst n
  pub some : 1 ≤ n
  pub in_failed : n ≤ length failed

pub record StatePart (nodes : List ℕ) (nfirst n : ℕ) (held : List Bool) (remaining bytes : List ℕ) : Type 0 where
  pub rows : RowsPart nodes nfirst n
  pub in_held : n ≤ length held
  pub in_remaining : n ≤ length remaining
  pub room : kept_bits (row_keeps nodes nfirst n) ≤ 8 * length bytes

pub record StoredPart (nodes : List ℕ) (nfirst n : ℕ) (bytes : List ℕ) : Type 0 where
  pub rows : RowsPart nodes nfirst n
  pub room : kept_bits (row_keeps nodes nfirst n) ≤ 8 * length bytes

-- with as many bytes as are needed
pub record WholePart (nodes : List ℕ) (nfirst n need : ℕ) (bytes : List ℕ) : Type 0 where
  pub part : BitsPart nodes nfirst n
  pub need_is : need ≡ kept_bytes (row_keeps nodes nfirst n)
  pub room : need ≤ length bytes

pub record EntriesPart (nodes : List ℕ) (nfirst n : ℕ) (mem : Memory) (bytes : List ℕ) : Type 0 where
  pub rows : RowsPart nodes nfirst n
  pub inside : Inside mem n
  pub room : kept_bits (row_keeps nodes nfirst n) ≤ 8 * length bytes
