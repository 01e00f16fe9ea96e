-- What the functions of the filling pass ask and leave.
use Rattle.std.specs.Prelude.{◌≡◌, true, List, ◌++◌, ℕ, ◌+◌, ◌-◌, ◌*◌, ◌≤◌, ◌<◌, length, take, drop, set}
use Rattle.terms.specs.Limits.{book_nodes, book_rules, book_slots, label_bytes, labels_room, names_room, rule_nodes}
use Rattle.line.specs.Line.{Content, rule, node, step, states, slot, right, parse}
use Rattle.book.specs.Book.{Book, accepted, read}
use Rattle.reader.specs.BookTables.{BookTables, SlotTables, written, slots_written, roomy, roomy_slots}
use Rattle.reader.specs.declared.fill.Tally.{Tally}

-- a list with another written into it from a place on
abbrev pub placed : List ℕ → ℕ → List ℕ → List ℕ
placed l k xs = take k l ++ xs ++ drop (k + length xs) l

pub record RuleRoom (label : List ℕ) (t : BookTables) (f : Tally) : Type 0 where
  pub in_labels : labels_room ≤ length t.labels
  pub in_lens : book_rules ≤ length t.lens
  pub in_kinds : book_rules ≤ length t.kinds
  pub in_firsts : book_rules ≤ length t.firsts
  pub in_counts : book_rules ≤ length t.counts
  pub few : f.rules < book_rules
  pub short : length label ≤ label_bytes

-- a rule's head is stored at its place, and the formula table stays
pub record RuleDone (label : List ℕ) (kind : ℕ) (t : BookTables) (f : Tally) (t' : BookTables) (f' : Tally) : Type 0 where
  pub labels_is : t'.labels ≡ placed t.labels (label_bytes * f.rules) label
  pub lens_is : t'.lens ≡ set t.lens f.rules (length label)
  pub kinds_is : t'.kinds ≡ set t.kinds f.rules kind
  pub firsts_is : t'.firsts ≡ set t.firsts f.rules f.nodes
  pub counts_is : t'.counts ≡ set t.counts f.rules 0
  pub ops_kept : t'.ops ≡ t.ops
  pub nums_kept : t'.nums ≡ t.nums
  pub rules_is : f'.rules ≡ f.rules + 1
  pub nodes_is : f'.nodes ≡ f.nodes
  pub own_is : f'.own ≡ 0

pub record NodeRoom (t : BookTables) (f : Tally) : Type 0 where
  pub in_counts : book_rules ≤ length t.counts
  pub in_ops : book_nodes ≤ length t.ops
  pub in_nums : book_nodes ≤ length t.nums
  pub begun : 1 ≤ f.rules
  pub few : f.rules ≤ book_rules
  pub less : f.nodes < book_nodes
  pub own : f.own < rule_nodes

-- a node is stored at its place and counted in its rule, and the rest of the rule list stays
pub record NodeDone (op v : ℕ) (t : BookTables) (f : Tally) (t' : BookTables) (f' : Tally) : Type 0 where
  pub labels_kept : t'.labels ≡ t.labels
  pub lens_kept : t'.lens ≡ t.lens
  pub kinds_kept : t'.kinds ≡ t.kinds
  pub firsts_kept : t'.firsts ≡ t.firsts
  pub counts_is : t'.counts ≡ set t.counts (f.rules - 1) (f.own + 1)
  pub ops_is : t'.ops ≡ set t.ops f.nodes op
  pub nums_is : t'.nums ≡ set t.nums f.nodes v
  pub rules_is : f'.rules ≡ f.rules
  pub nodes_is : f'.nodes ≡ f.nodes + 1
  pub own_is : f'.own ≡ f.own + 1

-- a line's room and what it leaves, by what it holds; a step stays in the text, and the opening lines have a pass of their own
abbrev pub RoomFor : Content → BookTables → Tally → Type 0
RoomFor (rule l k) t f = RuleRoom l t f
RoomFor (node op v) t f = NodeRoom t f
RoomFor (step s w) t f = Unit
RoomFor (states c) t f = Unit
RoomFor (slot l w) t f = Unit

-- nothing has changed
pub record Kept (t : BookTables) (f : Tally) (t' : BookTables) (f' : Tally) : Type 0 where
  pub tables : t' ≡ t
  pub fill : f' ≡ f

abbrev pub LeftBy : Content → BookTables → Tally → BookTables → Tally → Type 0
LeftBy (rule l k) t f t' f' = RuleDone l k t f t' f'
LeftBy (node op v) t f t' f' = NodeDone op v t f t' f'
LeftBy (step s w) t f t' f' = Kept t f t' f'
LeftBy (states c) t f t' f' = Kept t f t' f'
LeftBy (slot l w) t f t' f' = Kept t f t' f'

pub record LineRoom (line : List ℕ) (t : BookTables) (f : Tally) : Type 0 where
  pub room : (c : Content) → parse line ≡ right c → RoomFor c t f

pub record LinePut (line : List ℕ) (t : BookTables) (f : Tally) (t' : BookTables) (f' : Tally) : Type 0 where
  pub left : (c : Content) → parse line ≡ right c → LeftBy c t f t' f'

-- the book is accepted, its step lines begin at a place, and there is room for it; it is then written
pub record Fillable (text : List ℕ) (head : ℕ) (t : BookTables) : Type 0 where
  pub book : Book
  pub is : read text ≡ accepted book
  pub begin : head ≡ book.head
  pub room : roomy t ≡ true

pub record FilledTables (text : List ℕ) (t t' : BookTables) : Type 0 where
  pub is : (b : Book) → read text ≡ accepted b → t' ≡ written b t

-- ---- the slots
pub record SlotRoom (name : List ℕ) (u : SlotTables) (k : ℕ) : Type 0 where
  pub in_names : names_room ≤ length u.names
  pub in_lens : book_slots ≤ length u.lens
  pub in_widths : book_slots ≤ length u.widths
  pub few : k < book_slots
  pub short : length name ≤ label_bytes

-- a slot is stored at its place, and counted
pub record SlotDone (name : List ℕ) (width : ℕ) (u : SlotTables) (k : ℕ) (u' : SlotTables) (k' : ℕ) : Type 0 where
  pub names_is : u'.names ≡ placed u.names (label_bytes * k) name
  pub lens_is : u'.lens ≡ set u.lens k (length name)
  pub widths_is : u'.widths ≡ set u.widths k width
  pub count : k' ≡ k + 1

-- a slot's line fills its place, any other leaves everything
abbrev pub SlotRoomFor : Content → SlotTables → ℕ → Type 0
SlotRoomFor (rule l v) u k = Unit
SlotRoomFor (node op v) u k = Unit
SlotRoomFor (step s w) u k = Unit
SlotRoomFor (states c) u k = Unit
SlotRoomFor (slot l w) u k = SlotRoom l u k

pub record SlotsKept (u : SlotTables) (k : ℕ) (u' : SlotTables) (k' : ℕ) : Type 0 where
  pub tables : u' ≡ u
  pub count : k' ≡ k

abbrev pub SlotLeftBy : Content → SlotTables → ℕ → SlotTables → ℕ → Type 0
SlotLeftBy (rule l v) u k u' k' = SlotsKept u k u' k'
SlotLeftBy (node op v) u k u' k' = SlotsKept u k u' k'
SlotLeftBy (step s w) u k u' k' = SlotsKept u k u' k'
SlotLeftBy (states c) u k u' k' = SlotsKept u k u' k'
SlotLeftBy (slot l w) u k u' k' = SlotDone l w u k u' k'

pub record SlotLineRoom (line : List ℕ) (u : SlotTables) (k : ℕ) : Type 0 where
  pub room : (c : Content) → parse line ≡ right c → SlotRoomFor c u k

pub record SlotLinePut (line : List ℕ) (u : SlotTables) (k : ℕ) (u' : SlotTables) (k' : ℕ) : Type 0 where
  pub left : (c : Content) → parse line ≡ right c → SlotLeftBy c u k u' k'

-- the book is accepted, so many slots are its own, and there is room for them; they are then written
pub record SlotsFillable (text : List ℕ) (slots : ℕ) (u : SlotTables) : Type 0 where
  pub book : Book
  pub is : read text ≡ accepted book
  pub many : slots ≡ length book.names
  pub room : roomy_slots u ≡ true

pub record FilledSlots (text : List ℕ) (u u' : SlotTables) : Type 0 where
  pub is : (b : Book) → read text ≡ accepted b → u' ≡ slots_written b u
