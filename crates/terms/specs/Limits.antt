-- Document 01's limits and sizes, one name each; terms/src/limit.rt has the code's.
use Rattle.std.specs.Prelude.{ℕ, ◌^◌}

-- formula nodes of a book: the places of a formula table
abbrev pub book_nodes : ℕ
book_nodes = 1024

-- nodes of a rule, of its formula and of its monitor
abbrev pub rule_nodes : ℕ
rule_nodes = 256

-- rules of a book
abbrev pub book_rules : ℕ
book_rules = 64

-- bytes of a label, and of the labels of a book's rules
abbrev pub label_bytes : ℕ
label_bytes = 32

abbrev pub labels_room : ℕ
labels_room = 2048

-- depth of a formula, the root at depth 1
abbrev pub deepest : ℕ
deepest = 64

-- slots of a book (document 02, order 1), and the bytes of their names
abbrev pub book_slots : ℕ
book_slots = 32

abbrev pub names_room : ℕ
names_room = 1024

-- counts of states lie below it
abbrev pub state_counts : ℕ
state_counts = 65536

-- the most bits of a slot
abbrev pub slot_most : ℕ
slot_most = 64

-- signals: bits of a word of truths
abbrev pub signals : ℕ
signals = 64

-- numbers of a row of a compiled node, and of the rows that compiling a rule is lent
abbrev pub row_cells : ℕ
row_cells = 7

abbrev pub node_cells : ℕ
node_cells = 1792

-- rows that the rules of a book are compiled into: one for each of its nodes, and a rule's more in which the last is tried; and their numbers
abbrev pub book_rows : ℕ
book_rows = 1280

abbrev pub book_cells : ℕ
book_cells = 8960

-- numbers that splitting a rule is lent: two an entry of the skeleton, three an obligation
abbrev pub skeleton_room : ℕ
skeleton_room = 512

abbrev pub owed_room : ℕ
owed_room = 768

-- bytes of a book, and of the output that its listing is lent
abbrev pub book_bytes : ℕ
book_bytes = 65535

abbrev pub listing_bytes : ℕ
listing_bytes = 262144

-- steps handed to a monitor, and step numbers of a book, lie below this
abbrev pub steps : ℕ
steps = 2 ^ 63
