-- What a book in memory of its own holds: what `read_book` leaves in tables of zeros.
--     Opens         the answer to reading one
--     ReadsIn       .. to reading one into tables that hold whatever they do
--     CompilesAt    the answer to compiling a rule of it, with the rows before and afterwards
use Rattle.std.specs.Prelude.{◌≡◌, List, ℕ, ◌*◌, ◌≤◌, ◌<◌, take, drop, replicate, Result, Ok, Err, None, ⊤}
use Rattle.terms.specs.Limits.{book_nodes, book_rules, book_slots, labels_room, names_room, row_cells}
use Rattle.result.specs.declared.Refusal.{Refusal}
use Rattle.result.specs.declared.Refusal.TheVariants.{Unfit}
use Rattle.compiler.specs.Compiled.{Answers, compile_call}
use Rattle.book.specs.Book.{book_result}
use Rattle.book.specs.declared.check.Refused.{Refused}
use Rattle.reader.specs.BookTables.{BookTables, SlotTables, columns, slot_columns, read_into}
use Rattle.book.specs.Answer.{result_of}
use Rattle.reader.specs.Answer.{Reads}
use Rattle.opened.specs.declared.Book.{Book}

abbrev pub blank : BookTables
blank =
    columns
    (replicate labels_room 0)
    (replicate book_rules 0)
    (replicate book_rules 0)
    (replicate book_rules 0)
    (replicate book_rules 0)
    (replicate book_nodes 0)
    (replicate book_nodes 0)

abbrev pub blank_slots : SlotTables
blank_slots = slot_columns (replicate names_room 0) (replicate book_slots 0) (replicate book_slots 0)

abbrev pub blank_book : Book
blank_book = record {
  read = record { rules = 0; nodes = 0; steps_at = 0; slots = 0; states = None };
  labels = replicate labels_room 0;
  lens = replicate book_rules 0;
  kinds = replicate book_rules 0;
  firsts = replicate book_rules 0;
  counts = replicate book_rules 0;
  ops = replicate book_nodes 0;
  nums = replicate book_nodes 0;
  names = replicate names_room 0;
  sizes = replicate book_slots 0;
  widths = replicate book_slots 0;
}

abbrev pub tables_in : Book → BookTables
tables_in b = columns b.labels b.lens b.kinds b.firsts b.counts b.ops b.nums

abbrev pub slots_in : Book → SlotTables
slots_in b = slot_columns b.names b.sizes b.widths

abbrev pub ReadsIn : List ℕ → Book → Result ⊤ Refused → Book → Type 0
ReadsIn text b (Ok u) b' = Reads text (tables_in b) (slots_in b) (Ok b'.read) (tables_in b') (slots_in b')
ReadsIn text b (Err r) b' = Reads text (tables_in b) (slots_in b) (Err r) (tables_in b') (slots_in b') × (b'.read ≡ b.read)

-- a book that is read, with no more rules than it has places for; or the refusal of its text
pub record Opened (text : List ℕ) (b : Book) : Type 0 where
  pub reads : Reads text blank blank_slots (Ok b.read) (columns b.labels b.lens b.kinds b.firsts b.counts b.ops b.nums) (slot_columns b.names b.sizes b.widths)
  pub few : b.read.rules ≤ book_rules

abbrev pub Opens : List ℕ → Result Book Refused → Type 0
Opens text (Ok b) = Opened text b
Opens text (Err r) = result_of (Err r) ≡ book_result (read_into text blank blank_slots)

-- into the rows from row `first` on, and those before them stay; no formula begins past the table
pub record CompilesAt (ops nums : List ℕ) (first count : ℕ) (nodes : List ℕ) (r : Result ℕ Refusal) (nodes' : List ℕ) : Type 0 where
  pub rows : first ≤ book_nodes → Answers (compile_call ops nums first count (drop (row_cells * first) nodes)) r (drop (row_cells * first) nodes')
  pub before : first ≤ book_nodes → take (row_cells * first) nodes' ≡ take (row_cells * first) nodes
  pub past : book_nodes < first → (r ≡ Err Unfit) × (nodes' ≡ nodes)
