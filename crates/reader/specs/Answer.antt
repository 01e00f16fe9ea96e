-- What reading a book into lent tables answers: document 01's number and line of a refusal, or how much was read, and what every
-- table holds afterwards.
use Rattle.std.specs.Prelude.{◌≡◌, List, ℕ, ◌≤◌, length}
use Rattle.terms.specs.Limits.{book_nodes, book_rules, book_slots, labels_room, names_room}
use Rattle.book.specs.Book.{book_result}
use Rattle.book.specs.Answer.{result_of}
use Rattle.reader.specs.BookTables.{BookTables, SlotTables, read_into, after, slots_after}
use Rattle.std.specs.Prelude.{Result}
use Rattle.book.specs.declared.check.Refused.{Refused}
use Rattle.book.specs.declared.check.Read.{Read}

pub record Reads (text : List ℕ) (t : BookTables) (u : SlotTables) (r : Result Read Refused) (t' : BookTables) (u' : SlotTables) : Type 0 where
  pub answer : result_of r ≡ book_result (read_into text t u)
  pub tables : t' ≡ after (read_into text t u) t
  pub slots : u' ≡ slots_after (read_into text t u) u

-- the room of every table
pub record Roomy (t : BookTables) : Type 0 where
  pub labels : labels_room ≤ length t.labels
  pub lens : book_rules ≤ length t.lens
  pub kinds : book_rules ≤ length t.kinds
  pub firsts : book_rules ≤ length t.firsts
  pub counts : book_rules ≤ length t.counts
  pub ops : book_nodes ≤ length t.ops
  pub nums : book_nodes ≤ length t.nums

pub record RoomySlots (u : SlotTables) : Type 0 where
  pub names : names_room ≤ length u.names
  pub lens : book_slots ≤ length u.lens
  pub widths : book_slots ≤ length u.widths
