-- The book of documents 01 and 02, from the other side: opening lines, a rule list and steps written out as lines.
--     book_text    the text of opening lines, of a list of rules and of steps
--     Limited     the limits within which such a list is a book
--     ReadBack    what reading gives back
use Rattle.std.specs.Prelude.{◌≡◌, true, List, [], ◌∷◌, ◌++◌, map, ℕ, ◌+◌, ◌^◌, ◌≤◌, ◌<◌, length}
use Rattle.terms.specs.Limits.{book_bytes, book_nodes, book_rules, book_slots, deepest, rule_nodes, slot_most, state_counts}
use Rattle.number.specs.Digits.{decimal, hex_digits}
use Rattle.formula.specs.Tree.{leaf_of, one_of, two_of, unknown, prefix, size, depth, all}
use Rattle.formula.specs.Formula.{Formula, Node, var, input, output, not, next, always, eventually, always_for, within, and, or, implies, until}
use Rattle.formula.specs.Table.{in_word}
use Rattle.line.specs.Line.{is_label, kind_byte}
use Rattle.book.specs.Book.{Book, StepLine, accepted, read}
use Rattle.std.specs.Prelude.{Option as Opt}
use Rattle.std.specs.Prelude.{None, Some}

-- a rule of the list: its label, its kind (0 property, 1 assumption) and its formula
pub record RuleText : Type 0 where
  pub label : List ℕ
  pub kind : ℕ
  pub formula : Formula

-- a slot, and the opening lines of a book
pub record SlotText : Type 0 where
  pub name : List ℕ
  pub width : ℕ

pub record OpeningText : Type 0 where
  pub states : Opt ℕ
  pub slots : List SlotText

-- ---- lines
-- a node's number in a formula table, the number beside it, and its line: `var`, `in`, `out`, `not`, `next`, `always`, `eventually`,
-- `always-for`, `within`, `and`, `or`, `implies`, `until`
abbrev pub op_of : Node → ℕ
op_of (leaf_of (var n)) = 0
op_of (leaf_of (input n)) = 1
op_of (leaf_of (output n)) = 2
op_of (one_of not) = 3
op_of (one_of next) = 4
op_of (one_of always) = 5
op_of (one_of eventually) = 6
op_of (one_of (always_for n)) = 7
op_of (one_of (within n)) = 8
op_of (two_of and) = 9
op_of (two_of or) = 10
op_of (two_of implies) = 11
op_of (two_of until) = 12
op_of unknown = 13

abbrev pub num_of : Node → ℕ
num_of (leaf_of (var n)) = n
num_of (leaf_of (input n)) = n
num_of (leaf_of (output n)) = n
num_of (one_of not) = 0
num_of (one_of next) = 0
num_of (one_of always) = 0
num_of (one_of eventually) = 0
num_of (one_of (always_for n)) = n
num_of (one_of (within n)) = n
num_of (two_of o) = 0
num_of unknown = 0

abbrev pub node_text : Node → List ℕ
node_text (leaf_of (var n)) = 118 ∷ 97 ∷ 114 ∷ 9 ∷ decimal n
node_text (leaf_of (input n)) = 105 ∷ 110 ∷ 9 ∷ decimal n
node_text (leaf_of (output n)) = 111 ∷ 117 ∷ 116 ∷ 9 ∷ decimal n
node_text (one_of not) = 110 ∷ 111 ∷ 116 ∷ []
node_text (one_of next) = 110 ∷ 101 ∷ 120 ∷ 116 ∷ []
node_text (one_of always) = 97 ∷ 108 ∷ 119 ∷ 97 ∷ 121 ∷ 115 ∷ []
node_text (one_of eventually) = 101 ∷ 118 ∷ 101 ∷ 110 ∷ 116 ∷ 117 ∷ 97 ∷ 108 ∷ 108 ∷ 121 ∷ []
node_text (one_of (always_for n)) = 97 ∷ 108 ∷ 119 ∷ 97 ∷ 121 ∷ 115 ∷ 45 ∷ 102 ∷ 111 ∷ 114 ∷ 9 ∷ decimal n
node_text (one_of (within n)) = 119 ∷ 105 ∷ 116 ∷ 104 ∷ 105 ∷ 110 ∷ 9 ∷ decimal n
node_text (two_of and) = 97 ∷ 110 ∷ 100 ∷ []
node_text (two_of or) = 111 ∷ 114 ∷ []
node_text (two_of implies) = 105 ∷ 109 ∷ 112 ∷ 108 ∷ 105 ∷ 101 ∷ 115 ∷ []
node_text (two_of until) = 117 ∷ 110 ∷ 116 ∷ 105 ∷ 108 ∷ []
node_text unknown = []

-- `rule`, the label, the kind
abbrev pub head_text : RuleText → List ℕ
head_text r = 114 ∷ 117 ∷ 108 ∷ 101 ∷ 9 ∷ (r.label ++ 9 ∷ kind_byte r.kind ∷ [])

-- `step`, its number, its truths
abbrev pub step_text : StepLine → List ℕ
step_text s = 115 ∷ 116 ∷ 101 ∷ 112 ∷ 9 ∷ (decimal s.number ++ 9 ∷ hex_digits 16 s.truths)

-- `states` and its count, if it is to stand; `slot`, its name, its width
abbrev pub states_lines : Opt ℕ → List (List ℕ)
states_lines None = []
states_lines (Some c) = (115 ∷ 116 ∷ 97 ∷ 116 ∷ 101 ∷ 115 ∷ 9 ∷ decimal c) ∷ []

abbrev pub slot_text : SlotText → List ℕ
slot_text s = 115 ∷ 108 ∷ 111 ∷ 116 ∷ 9 ∷ (s.name ++ 9 ∷ decimal s.width)

unfoldable pub opening_lines : OpeningText → List (List ℕ)
opening_lines o = states_lines o.states ++ map slot_text o.slots

unfoldable pub rule_lines : List RuleText → List (List ℕ)
rule_lines [] = []
rule_lines (r ∷ rs) = head_text r ∷ (map node_text (prefix r.formula) ++ rule_lines rs)

-- each line with its LF
unfoldable pub unlines : List (List ℕ) → List ℕ
unlines [] = []
unlines (l ∷ ls) = l ++ 10 ∷ unlines ls

unfoldable pub book_text : OpeningText → List RuleText → List StepLine → List ℕ
book_text o rs ss = unlines (opening_lines o ++ (rule_lines rs ++ map step_text ss))

-- ---- the limits
-- bounds fit a word
abbrev pub Bounded : List Node → Type 0
Bounded [] = Unit
Bounded (t ∷ ts) = (num_of t < 2 ^ 64) × Bounded ts

pub record RuleLimited (r : RuleText) : Type 0 where
  pub labelled : is_label r.label ≡ true
  pub kinds : r.kind < 2
  pub nodes : size r.formula ≤ rule_nodes
  pub shallow : depth r.formula ≤ deepest
  pub word_fits : all in_word r.formula ≡ true
  pub bounds : Bounded (prefix r.formula)

abbrev pub RulesLimited : List RuleText → Type 0
RulesLimited [] = Unit
RulesLimited (r ∷ rs) = RuleLimited r × RulesLimited rs

abbrev pub StepsLimited : List StepLine → Type 0
StepsLimited [] = Unit
StepsLimited (s ∷ ss) = (s.number < 2 ^ 63) × (s.truths < 2 ^ 64) × StepsLimited ss

-- the nodes of all rules
unfoldable pub nodes_of : List RuleText → List Node
nodes_of [] = []
nodes_of (r ∷ rs) = prefix r.formula ++ nodes_of rs

abbrev pub CountLimited : Opt ℕ → Type 0
CountLimited None = Unit
CountLimited (Some c) = c < state_counts

pub record SlotLimited (s : SlotText) : Type 0 where
  pub named : is_label s.name ≡ true
  pub narrow : s.width ≤ slot_most

abbrev pub SlotsLimited : List SlotText → Type 0
SlotsLimited [] = Unit
SlotsLimited (s ∷ ss) = SlotLimited s × SlotsLimited ss

pub record OpeningLimited (o : OpeningText) : Type 0 where
  pub count : CountLimited o.states
  pub few : length o.slots ≤ book_slots
  pub slots : SlotsLimited o.slots

pub record Limited (o : OpeningText) (rs : List RuleText) (ss : List StepLine) : Type 0 where
  pub short : length (book_text o rs ss) ≤ book_bytes
  pub opening : OpeningLimited o
  pub few : length rs ≤ book_rules
  pub nodes : length (nodes_of rs) ≤ book_nodes
  pub rules : RulesLimited rs
  pub steps : StepsLimited ss

-- ---- what reading gives back: the rules one behind the other from place n on
unfoldable pub firsts_from : ℕ → List RuleText → List ℕ
firsts_from n [] = []
firsts_from n (r ∷ rs) = n ∷ firsts_from (n + size r.formula) rs

abbrev pub count_of : RuleText → ℕ
count_of r = size r.formula

abbrev pub label_of : RuleText → List ℕ
label_of r = r.label

abbrev pub kind_of : RuleText → ℕ
kind_of r = r.kind

abbrev pub name_of : SlotText → List ℕ
name_of s = s.name

abbrev pub width_of : SlotText → ℕ
width_of s = s.width

pub record ReadBack (o : OpeningText) (rs : List RuleText) (ss : List StepLine) : Type 0 where
  pub book : Book
  pub is : read (book_text o rs ss) ≡ accepted book
  pub states : book.states ≡ o.states
  pub names : book.names ≡ map name_of o.slots
  pub widths : book.widths ≡ map width_of o.slots
  pub labels : book.labels ≡ map label_of rs
  pub kinds : book.kinds ≡ map kind_of rs
  pub firsts : book.firsts ≡ firsts_from 0 rs
  pub counts : book.counts ≡ map count_of rs
  pub ops : book.ops ≡ map op_of (nodes_of rs)
  pub nums : book.nums ≡ map num_of (nodes_of rs)
  pub steps : book.steps ≡ ss
