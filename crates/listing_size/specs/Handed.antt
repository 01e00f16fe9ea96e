-- What reading hands to the listing: tables that hold a book's rules, the place where its step lines begin, and the bits of its states and of its slots.
-- `handed` (proofs/Handing.antt): so it is after `read_book` has answered and those bits are counted.
use Rattle.std.specs.Prelude.{◌≡◌, List, ℕ, ◌+◌, ◌*◌, ◌≤◌, ◌<◌, length, get_or, take, drop, Option, Result, Ok, Err}
use Rattle.terms.specs.Limits.{book_rules, label_bytes, labels_room}
use Rattle.terms.specs.Limits.{state_counts}
use Rattle.encoding.specs.Encoding.{state_bits_of, slot_bits, Widths, StateSum, SlotSum}
use Rattle.book.specs.Book.{Book, count_in, accepted, read}
use Rattle.book.specs.declared.check.Refused.{Refused}
use Rattle.reader.specs.BookTables.{BookTables}
use Rattle.reader.specs.Steps.{steps_from}
use Rattle.result.specs.Refusal.{number_of}
use Rattle.book.specs.declared.check.Read.{Read}
use Rattle.listing_rules.specs.Tabled.{Held}
use Rattle.listing_reports.specs.Tail.{refused_line}
use Rattle.listing_text.specs.Listing.{rule_at, rules_listing, listing}

pub record Handed (text : List ℕ) (t : BookTables) (rules steps-at state vars : ℕ) : Type 0 where
  pub book : Book
  pub is : read text ≡ accepted book
  pub rules_is : rules ≡ length book.labels
  pub held : Held t.ops t.nums t.kinds t.firsts t.counts (rule_at book) rules
  -- rule r's label: the first of its own 32 bytes
  pub len : (r : ℕ) → r < rules → get_or t.lens r 0 ≡ length (rule_at book r).label
  pub label : (r : ℕ) → r < rules → take (get_or t.lens r 0) (drop (label_bytes * r) t.labels) ≡ (rule_at book r).label
  pub in_label : (r : ℕ) → r < rules → label_bytes * r + get_or t.lens r 0 ≤ labels_room
  pub in_labels : labels_room ≤ length t.labels
  pub in_lens : book_rules ≤ length t.lens
  -- at most 16 bits for the state, and 64 for each of 32 slots
  pub state_is : state ≡ state_bits_of (count_in book.states)
  pub vars_is : vars ≡ slot_bits book.widths
  pub state_most : state ≤ 16
  pub vars_most : vars ≤ 2048
  -- the text's listing, by the rules and the steps from that place on
  pub lists : listing text ≡ rules_listing (count_in book.states) book.widths (rule_at book) rules (steps_from text steps-at)

-- so much is handed once the bits of the states and of the slots are counted
pub record HandedOpening (text : List ℕ) (t : BookTables) (widths : List ℕ) (rules steps-at slots : ℕ) (states : Option ℕ) : Type 0 where
  pub low : count_in states < state_counts
  pub wide : Widths widths slots
  pub hands : (state vars : ℕ) → StateSum (count_in states) state → SlotSum (take slots widths) slots vars → Handed text t rules steps-at state vars

-- what each answer of reading hands over
abbrev pub AnswerHands : List ℕ → BookTables → List ℕ → Result Read Refused → Type 0
AnswerHands text t widths (Ok a) = HandedOpening text t widths a.rules a.steps_at a.slots a.states
AnswerHands text t widths (Err e) = listing text ≡ refused_line (number_of e.refusal) e.line
