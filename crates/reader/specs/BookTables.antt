-- The lent tables, and what they hold after a book is read into them.
--     BookTables     the rule list (labels of 32 bytes a rule, their lengths, kinds, first places, counts) and the formula table
--     SlotTables     the slot list (names of 32 bytes a slot, their lengths, widths)
--     written    the tables with a book in front; every place past it keeps what it held, and so do the bytes behind a label
--                in the 32 of its rule
--     read_into   refusal 1, then what the book's bytes say
use Rattle.std.specs.Prelude.{Bool, ◌&&◌, List, [], ◌∷◌, ◌++◌, map, ℕ, leb, length, take, drop}
use Rattle.terms.specs.Limits.{book_nodes, book_rules, book_slots, label_bytes, labels_room, names_room}
use Rattle.terms.specs.Choice.{pick}
use Rattle.book.specs.Book.{Book, Outcome, accepted, refused, read}

pub record BookTables : Type 0 where
  pub labels : List ℕ
  pub lens : List ℕ
  pub kinds : List ℕ
  pub firsts : List ℕ
  pub counts : List ℕ
  pub ops : List ℕ
  pub nums : List ℕ

abbrev pub columns : List ℕ → List ℕ → List ℕ → List ℕ → List ℕ → List ℕ → List ℕ → BookTables
columns labels lens kinds firsts counts ops nums = record {
  labels = labels;
  lens = lens;
  kinds = kinds;
  firsts = firsts;
  counts = counts;
  ops = ops;
  nums = nums;
}

pub record SlotTables : Type 0 where
  pub names : List ℕ
  pub lens : List ℕ
  pub widths : List ℕ

abbrev pub slot_columns : List ℕ → List ℕ → List ℕ → SlotTables
slot_columns names lens widths = record { names = names; lens = lens; widths = widths }

-- a column in front of what a table held past it
unfoldable pub over : List ℕ → List ℕ → List ℕ
over xs l = xs ++ drop (length xs) l

-- labels or names, each in front of its own 32 bytes
unfoldable pub cells : List (List ℕ) → List ℕ → List ℕ
cells [] l = l
cells (x ∷ xs) l = (x ++ drop (length x) (take label_bytes l)) ++ cells xs (drop label_bytes l)

unfoldable pub written : Book → BookTables → BookTables
written b t = record {
  labels = cells b.labels t.labels;
  lens = over (map length b.labels) t.lens;
  kinds = over b.kinds t.kinds;
  firsts = over b.firsts t.firsts;
  counts = over b.counts t.counts;
  ops = over b.ops t.ops;
  nums = over b.nums t.nums;
}

unfoldable pub slots_written : Book → SlotTables → SlotTables
slots_written b u = record {
  names = cells b.names u.names;
  lens = over (map length b.names) u.lens;
  widths = over b.widths u.widths;
}

-- room for 64 rules and 1,024 formula nodes
unfoldable pub roomy : BookTables → Bool
roomy t =
    leb labels_room (length t.labels)
    && (leb book_rules (length t.lens)
    && (leb book_rules (length t.kinds)
    && (leb book_rules (length t.firsts)
    && (leb book_rules (length t.counts)
    && (leb book_nodes (length t.ops)
    && leb book_nodes (length t.nums))))))

-- room for 32 slots
unfoldable pub roomy_slots : SlotTables → Bool
roomy_slots u = leb names_room (length u.names) && (leb book_slots (length u.lens) && leb book_slots (length u.widths))

unfoldable pub read_into : List ℕ → BookTables → SlotTables → Outcome
read_into text t u = pick (roomy t && roomy_slots u) (read text) (refused 1 0)

-- the tables afterwards: as before on a refusal
unfoldable pub after : Outcome → BookTables → BookTables
after (accepted b) t = written b t
after (refused n k) t = t

unfoldable pub slots_after : Outcome → SlotTables → SlotTables
slots_after (accepted b) u = slots_written b u
slots_after (refused n k) u = u
