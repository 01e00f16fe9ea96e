-- Document 01, "The book", with the opening lines of document 02, order 1: from bytes to what a book holds, or to the refusal with its line.
--     Book       what has been read so far
--     fault      what the first test of `order` that a line fails finds
--     add        what a line's content adds
--     read_on     the lines one after the other
--     read       the whole: refusals 3 and 4, then the lines, then 10
--     book_result what a caller is told of it
-- A line is taken apart without any state (`parse`, crate `line`).
use Rattle.std.specs.Prelude.{Bool, true, false, ◌&&◌, not, List, [], ◌∷◌, ◌++◌, ℕ, suc, ◌+◌, leb, ltb, eqb, length}
use Rattle.std.proofs.Math.Option.{Option, none, some}
use Rattle.terms.specs.Limits.{book_bytes, book_nodes, book_rules, book_slots, deepest, rule_nodes}
use Rattle.terms.specs.Ops.{not_op, and_op}
use Rattle.terms.specs.Choice.{pick}
use Rattle.line.specs.Text.{lines}
use Rattle.std.specs.Prelude.{Option as Opt, Some, None}
use Rattle.line.specs.Line.{Content, rule, node, step, states, slot, sort_of, Line, bad, wrong, right, refusal_of, parse}
use Rattle.line.specs.declared.line.Sort.{Sort}
use Rattle.line.specs.declared.line.Sort.TheVariants as sort
use Rattle.result.specs.Refusal.{number_of}
use Rattle.result.specs.declared.Refusal.{Refusal}
use Rattle.result.specs.declared.Refusal.TheVariants as why

-- a step line: its number and its truths
pub record StepLine : Type 0 where
  pub number : ℕ
  pub truths : ℕ

-- The rule list by columns, a place for each rule; the formula table by columns, a place for each node; the steps.
-- A rule is its first place in the formula table and its count of nodes. The opening lines: the count of states, or that no `states` line stood;
-- the slots by columns.
pub record Book : Type 0 where
  pub labels : List (List ℕ)
  pub kinds : List ℕ
  pub firsts : List ℕ
  pub counts : List ℕ
  pub ops : List ℕ
  pub nums : List ℕ
  pub steps : List StepLine
  -- the depths at which operands of the rule in hand are still due, the next one first; none: no rule is unfinished
  pub due : List ℕ
  -- the bytes of the lines before the step lines
  pub head : ℕ
  pub states : Opt ℕ
  pub names : List (List ℕ)
  pub widths : List ℕ

abbrev pub empty : Book
empty = record {
  labels = [];
  kinds = [];
  firsts = [];
  counts = [];
  ops = [];
  nums = [];
  steps = [];
  due = [];
  head = 0;
  states = None;
  names = [];
  widths = [];
}

abbrev pub is_nil {ℓ} : {A : Type ℓ} → List A → Bool
is_nil [] = true
is_nil (a ∷ l) = false

-- how many states there are: a `states` line left out counts 0
abbrev pub count_in : Opt ℕ → ℕ
count_in None = 0
count_in (Some c) = c

-- no rule is unfinished
abbrev pub whole : Book → Bool
whole b = is_nil b.due

-- ---- the tests on a line
-- no rule and no step has been read: the lines so far are opening lines
unfoldable pub opening : Book → Bool
opening b = is_nil b.labels && is_nil b.steps

-- where a line may stand: a rule after whole rules and before all steps, a node inside a rule, a step after whole rules, an opening line before
-- all rules and steps
unfoldable pub stands : Book → Sort → Bool
stands b sort.Rule = whole b && is_nil b.steps
stands b sort.Node = not (whole b)
stands b sort.Step = whole b
stands b sort.States = opening b
stands b sort.Slot = opening b

-- among the opening lines: `states` is the book's first line (no byte stands before it), and there are at most 32 slots
unfoldable pub opens : Book → Sort → Bool
opens b sort.Rule = true
opens b sort.Node = true
opens b sort.Step = true
opens b sort.States = eqb b.head 0
opens b sort.Slot = ltb (length b.names) book_slots

-- the nodes of the rule in hand, and the depth at which its next node stands
unfoldable pub last_of : List ℕ → ℕ
last_of [] = 0
last_of (c ∷ []) = c
last_of (c ∷ d ∷ r) = last_of (d ∷ r)

abbrev pub head_of : List ℕ → ℕ
head_of [] = 0
head_of (d ∷ r) = d

-- the limits: 64 rules, 256 nodes a rule, 1,024 nodes a book, depth 64
unfoldable pub within : Book → Sort → Bool
within b sort.Rule = ltb (length b.labels) book_rules
within b sort.Node = ltb (last_of b.counts) rule_nodes && (ltb (length b.ops) book_nodes && leb (head_of b.due) deepest)
within b sort.Step = true
within b sort.States = true
within b sort.Slot = true

-- ---- a line's fault: Word, its word is unknown or its field count wrong; Place, it cannot stand here; Unopened, a `states` line that is not the
-- first line, or a slot too many; Label or Number, one of its fields is wrong; Limit, a limit on rules, nodes or depth is passed
-- a test finds its fault in a line, or none
abbrev pub no_word : Book → Line → Option Refusal
no_word b bad = some why.Word
no_word b (wrong s f) = none
no_word b (right c) = none

abbrev pub wrong_field : Book → Line → Option Refusal
wrong_field b bad = none
wrong_field b (wrong s f) = some (refusal_of f)
wrong_field b (right c) = none

-- .. by the line's sort alone
abbrev pub by_sort : (Book → Sort → Bool) → Refusal → Book → Line → Option Refusal
by_sort test f b bad = none
by_sort test f b (wrong s g) = pick (test b s) none (some f)
by_sort test f b (right c) = pick (test b (sort_of c)) none (some f)

-- the order in which a line is tested
abbrev pub order : List (Book → Line → Option Refusal)
order = no_word ∷ by_sort stands why.Place ∷ by_sort opens why.Unopened ∷ wrong_field ∷ by_sort within why.Limit ∷ []

abbrev pub or_else : Option Refusal → Option Refusal → Option Refusal
or_else none o = o
or_else (some f) o = some f

unfoldable pub first_fault : List (Book → Line → Option Refusal) → Book → Line → Option Refusal
first_fault [] b l = none
first_fault (t ∷ ts) b l = or_else (t b l) (first_fault ts b l)

unfoldable pub fault : Book → Line → Option Refusal
fault b l = first_fault order b l

-- ---- what a line adds
-- one more node in the last rule
unfoldable pub bump : List ℕ → List ℕ
bump [] = []
bump (c ∷ []) = suc c ∷ []
bump (c ∷ d ∷ r) = c ∷ bump (d ∷ r)

-- a node takes the first due place, and its operands are due one deeper: none for an atom (numbers 0 to 2), one (3 to 8) or two
unfoldable pub spend : ℕ → List ℕ → List ℕ
spend op [] = []
spend op (d ∷ r) = pick (ltb op not_op) r (pick (ltb op and_op) (suc d ∷ r) (suc d ∷ suc d ∷ r))

-- n is the line's bytes with its LF
unfoldable pub add : ℕ → Book → Content → Book
add n b (rule l k) = record {
  labels = b.labels ++ l ∷ [];
  kinds = b.kinds ++ k ∷ [];
  firsts = b.firsts ++ length b.ops ∷ [];
  counts = b.counts ++ 0 ∷ [];
  ops = b.ops;
  nums = b.nums;
  steps = b.steps;
  due = 1 ∷ [];
  head = b.head + n;
  states = b.states;
  names = b.names;
  widths = b.widths;
}
add n b (node op v) = record {
  labels = b.labels;
  kinds = b.kinds;
  firsts = b.firsts;
  counts = bump b.counts;
  ops = b.ops ++ op ∷ [];
  nums = b.nums ++ v ∷ [];
  steps = b.steps;
  due = spend op b.due;
  head = b.head + n;
  states = b.states;
  names = b.names;
  widths = b.widths;
}
add n b (step s w) = record {
  labels = b.labels;
  kinds = b.kinds;
  firsts = b.firsts;
  counts = b.counts;
  ops = b.ops;
  nums = b.nums;
  steps = b.steps ++ record { number = s; truths = w } ∷ [];
  due = b.due;
  head = b.head;
  states = b.states;
  names = b.names;
  widths = b.widths;
}
add n b (states c) = record {
  labels = b.labels;
  kinds = b.kinds;
  firsts = b.firsts;
  counts = b.counts;
  ops = b.ops;
  nums = b.nums;
  steps = b.steps;
  due = b.due;
  head = b.head + n;
  states = Some c;
  names = b.names;
  widths = b.widths;
}
add n b (slot l w) = record {
  labels = b.labels;
  kinds = b.kinds;
  firsts = b.firsts;
  counts = b.counts;
  ops = b.ops;
  nums = b.nums;
  steps = b.steps;
  due = b.due;
  head = b.head + n;
  states = b.states;
  names = b.names ++ l ∷ [];
  widths = b.widths ++ w ∷ [];
}

-- only a right line adds anything
abbrev pub add_line : ℕ → Book → Line → Book
add_line n b bad = b
add_line n b (wrong s f) = b
add_line n b (right c) = add n b c

-- ---- the whole
pub data Outcome : Type 0 where
  accepted : Book → Outcome
  refused : ℕ → ℕ → Outcome  -- document 01's number, and the line

-- document 01's result: how many rules and nodes the book holds and the byte at which its step lines begin, how many slots, and its states; or the
-- number and the line
pub data BookResult : Type 0 where
  contents : ℕ → ℕ → ℕ → ℕ → Opt ℕ → BookResult
  refusal : ℕ → ℕ → BookResult

abbrev pub book_result : Outcome → BookResult
book_result (accepted b) = contents (length b.labels) (length b.ops) b.head (length b.names) b.states
book_result (refused n k) = refusal n k

-- a fault in the line behind k others refuses the book, whatever follows
abbrev pub unless : Option Refusal → ℕ → Outcome → Outcome
unless none k o = o
unless (some f) k o = refused (number_of f) (k + 1)

-- the lines one after the other, behind k others
unfoldable pub read_on : Book → ℕ → List (List ℕ) → Outcome
read_on b k [] = pick (whole b) (accepted b) (refused 10 k)
read_on b k (l ∷ ls) = unless (fault b (parse l)) k (read_on (add_line (length l + 1) b (parse l)) (k + 1) ls)

-- an empty text, or one whose last byte is LF
unfoldable pub ended : List ℕ → Bool
ended [] = true
ended (c ∷ []) = eqb c 10
ended (c ∷ d ∷ r) = ended (d ∷ r)

unfoldable pub read : List ℕ → Outcome
read t = pick (leb (length t) book_bytes) (pick (ended t) (read_on empty 0 (lines t)) (refused 4 0)) (refused 3 0)
