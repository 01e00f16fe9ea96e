-- How the state of the check stands for what has been read.
use Rattle.std.specs.Prelude.{◌≡◌, Bool, true, false, not, List, ℕ, ◌+◌, ◌^◌, ◌≤◌, ◌<◌, length}
use Rattle.std.proofs.Math.Option.{Option, none, some}
use Rattle.terms.specs.Limits.{book_bytes, book_nodes, book_rules, book_slots, deepest, rule_nodes}
use Rattle.terms.specs.Choice.{pick}
use Rattle.line.specs.Line.{Line}
use Rattle.line.specs.Means.{held, sort_in, means}
use Rattle.line.specs.declared.line.Sort.{Sort}
use Rattle.line.specs.declared.line.Sort.TheVariants as sort
use Rattle.std.specs.Prelude.{Result, Ok, Err}
use Rattle.line.specs.Means.{Answer}
use Rattle.line.specs.declared.line.Content.{Content}
use Rattle.line.specs.declared.line.Fault.{Fault}
use Rattle.result.specs.declared.Refusal.{Refusal}
use Rattle.result.specs.declared.Refusal.TheVariants as why
use Rattle.book.specs.Book.{Book, is_nil, last_of, opening, stands, opens, within, or_else, fault, add, add_line, ended}
use Rattle.book.specs.Due.{due_of}
use Rattle.book.specs.declared.state.State.{State}

-- a text that is no longer than a book and ends where a line ends
pub record Lined (text : List ℕ) : Type 0 where
  pub short : length text ≤ book_bytes
  pub ends : ended text ≡ true

-- ---- the state
pub record HoldsBook (b : Book) (s : State) : Type 0 where
  pub rules : s.rules ≡ length b.labels
  pub nodes : s.nodes ≡ length b.ops
  pub own : s.own ≡ last_of b.counts
  pub due : b.due ≡ due_of s.due.depth s.due.bits
  pub begun : is_nil b.due ≡ false → 1 ≤ length b.counts
  pub stepping : s.stepping ≡ not (is_nil b.steps)
  pub head : s.head ≡ b.head
  pub slots : s.slots ≡ length b.names
  pub states : s.states ≡ b.states

-- ---- the tests on a line by its sort: what each says of the books that the state stands for, and of the state
-- a node stands inside a rule
abbrev pub Inside : State → Sort → Type 0
Inside s sort.Rule = Unit
Inside s sort.Node = 1 ≤ s.due.depth
Inside s sort.Step = Unit
Inside s sort.States = Unit
Inside s sort.Slot = Unit

pub record NodeRoom (s : State) : Type 0 where
  pub own : s.own < rule_nodes
  pub nodes : s.nodes < book_nodes
  pub depth : s.due.depth ≤ deepest

abbrev pub Room : State → Sort → Type 0
Room s sort.Rule = s.rules < book_rules
Room s sort.Node = NodeRoom s
Room s sort.Step = Unit
Room s sort.States = Unit
Room s sort.Slot = Unit

abbrev pub SlotRoom : State → Sort → Type 0
SlotRoom s sort.Rule = Unit
SlotRoom s sort.Node = Unit
SlotRoom s sort.Step = Unit
SlotRoom s sort.States = Unit
SlotRoom s sort.Slot = s.slots < book_slots

pub record StillOpening (s : State) (r : Bool) : Type 0 where
  pub is : (b : Book) → HoldsBook b s → r ≡ opening b

pub record MayStand (s : State) (o : Sort) (r : Bool) : Type 0 where
  pub is : (b : Book) → HoldsBook b s → r ≡ stands b o
  pub inside : r ≡ true → Inside s o

pub record Opens (s : State) (o : Sort) (r : Bool) : Type 0 where
  pub is : (b : Book) → HoldsBook b s → r ≡ opens b o
  pub room : r ≡ true → SlotRoom s o

pub record Within (s : State) (o : Sort) (r : Bool) : Type 0 where
  pub is : (b : Book) → HoldsBook b s → r ≡ within b o
  pub room : r ≡ true → Room s o

-- the first of the tests on a sort alone that a line fails, if there is one
unfoldable pub misplaced : Book → Sort → Option Refusal
misplaced b o = or_else (pick (stands b o) none (some why.Place)) (pick (opens b o) none (some why.Unopened))

abbrev pub error_in : {A : Type 0} → Result A Refusal → Option Refusal
error_in (Ok a) = none
error_in (Err e) = some e

pub record Placed (s : State) (o : Sort) (r : Result Unit Refusal) : Type 0 where
  pub is : (b : Book) → HoldsBook b s → error_in r ≡ misplaced b o
  pub inside : error_in r ≡ none → Inside s o
  pub room : error_in r ≡ none → SlotRoom s o

-- why a line with a fault is refused, whatever its text
pub record Refuses (s : State) (x : Fault) (r : Refusal) : Type 0 where
  pub is : (t : List ℕ) (b : Book) → HoldsBook b s → fault b (means t (Err x)) ≡ some r

-- the state with the content of a line of n bytes added, whatever the line's text
pub record Addable (s : State) (c : Content) (n : ℕ) : Type 0 where
  pub short : s.head + n < 2 ^ 63
  pub inside : Inside s (sort_in c)
  pub room : Room s (sort_in c)
  pub slots : SlotRoom s (sort_in c)

pub record Adds (s : State) (c : Content) (n : ℕ) (r : State) : Type 0 where
  pub is : (t : List ℕ) (b : Book) → HoldsBook b s → HoldsBook (add n b (held t c)) r

-- what taking a line of n bytes answers: the fault, or the state with the line added
abbrev pub Agrees : ℕ → Book → Line → Option Refusal → Result State Refusal → Type 0
Agrees n b l none r = (s : State) × (r ≡ Ok s) × HoldsBook (add_line n b l) s
Agrees n b l (some f) r = r ≡ Err f

pub record TakesLine (s : State) (l : Answer) (n : ℕ) (r : Result State Refusal) : Type 0 where
  pub is : (t : List ℕ) (b : Book) → HoldsBook b s → Agrees n b (means t l) (fault b (means t l)) r

-- .. of a line that is right
abbrev pub TakesContent : State → Content → ℕ → Result State Refusal → Type 0
TakesContent s c n r = TakesLine s (Ok c) n r
