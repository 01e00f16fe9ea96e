-- What one line of a book holds. A line is read without any state: whether it may stand where it stands is said elsewhere.
--     Line       a line's content; or its sort and what is wrong about it; or no line of a book
--     content    what the fields behind a word say: all that there is to say of a word but its spelling
--     parse      the content of the line's fields by its first
use Rattle.std.specs.Prelude.{Bool, true, ◌&&◌, List, [], ◌∷◌, ℕ, zero, suc, leb, ltb, length}
use Rattle.terms.specs.Limits.{label_bytes, signals, slot_most, state_counts, steps}
use Rattle.terms.specs.Kinds.{kind_number}
use Rattle.terms.specs.declared.kind.Kind.{Kind}
use Rattle.terms.specs.declared.kind.Kind.TheVariants.{Property, Assumption}
use Rattle.terms.specs.Choice.{pick}
use Rattle.number.specs.Number.{decimal_of, hex_of}
use Rattle.std.specs.Prelude.{None, Option, Some}
use Rattle.words.specs.Same.{eqbs}
use Rattle.words.specs.Word.{word_of}
use Rattle.words.specs.declared.word.Word.{Word}
use Rattle.words.specs.declared.word.Word.TheVariants.{Atom, Plain, Bounded, Rule, Step, States, Slot}
use Rattle.result.specs.declared.Refusal.{Refusal}
use Rattle.result.specs.declared.Refusal.TheVariants as refusal
use Rattle.line.specs.Text.{fields}
use Rattle.line.specs.declared.line.Sort.{Sort}
use Rattle.line.specs.declared.line.Sort.TheVariants as sort
use Rattle.line.specs.declared.line.Flaw.{Flaw}
use Rattle.line.specs.declared.line.Flaw.TheVariants as flaw

pub data Content : Type 0 where
  rule : List ℕ → ℕ → Content  -- a label and a kind
  node : ℕ → ℕ → Content  -- a word's number in a formula table, and the number beside it
  step : ℕ → ℕ → Content  -- a step number and the truths
  states : ℕ → Content  -- how many states the instrument has
  slot : List ℕ → ℕ → Content  -- a name and a width in bits

abbrev pub sort_of : Content → Sort
sort_of (rule l k) = sort.Rule
sort_of (node op v) = sort.Node
sort_of (step s w) = sort.Step
sort_of (states c) = sort.States
sort_of (slot l w) = sort.Slot

pub data Line : Type 0 where
  bad : Line  -- the word is unknown or its field count wrong
  wrong : Sort → Flaw → Line  -- one of its fields is wrong
  right : Content → Line

-- document 01's refusals: a label, a name or a kind is wrong; a number is malformed or out of range
abbrev pub refusal_of : Flaw → Refusal
refusal_of flaw.Label = refusal.Label
refusal_of flaw.Number = refusal.Number

-- a label: 1 to 32 bytes, 0x21 to 0x7E
unfoldable pub printable : List ℕ → Bool
printable [] = true
printable (b ∷ r) = (leb 33 b && leb b 126) && printable r

unfoldable pub is_label : List ℕ → Bool
is_label l = leb 1 (length l) && (leb (length l) label_bytes && printable l)

-- a kind: `P` property, `A` assumption
unfoldable pub kind_of : List ℕ → Option Kind
kind_of f = pick (eqbs f (80 ∷ [])) (Some Property) (pick (eqbs f (65 ∷ [])) (Some Assumption) None)

-- a kind's text
abbrev pub kind_byte : ℕ → ℕ
kind_byte zero = 80
kind_byte (suc k) = 65

-- the kind of a rule's line, none where the label or the kind is wrong
unfoldable pub rule_kind : List ℕ → List ℕ → Option Kind
rule_kind label k = pick (is_label label) (kind_of k) None

-- a rule of the kind, if there is one
abbrev pub rule_of : List ℕ → Option Kind → Line
rule_of label None = wrong sort.Rule flaw.Label
rule_of label (Some k) = right (rule label (kind_number k))

unfoldable pub rule_line : List ℕ → List ℕ → Line
rule_line label k = rule_of label (rule_kind label k)

-- an atom's signal is at most 63
unfoldable pub atom_line : ℕ → Option ℕ → Line
atom_line op None = wrong sort.Node flaw.Number
atom_line op (Some n) = pick (ltb n signals) (right (node op n)) (wrong sort.Node flaw.Number)

unfoldable pub bound_line : ℕ → Option ℕ → Line
bound_line op None = wrong sort.Node flaw.Number
bound_line op (Some n) = right (node op n)

-- a step's number is below 2^63
unfoldable pub step_line : Option ℕ → Option ℕ → Line
step_line None t = wrong sort.Step flaw.Number
step_line (Some s) None = wrong sort.Step flaw.Number
step_line (Some s) (Some w) = pick (ltb s steps) (right (step s w)) (wrong sort.Step flaw.Number)

-- document 02, order 1: a count of states, 0 to 65,535
unfoldable pub states_line : Option ℕ → Line
states_line None = wrong sort.States flaw.Number
states_line (Some n) = pick (ltb n state_counts) (right (states n)) (wrong sort.States flaw.Number)

-- a slot: a name as a label, and a width, 0 to 64; the name is tested first
unfoldable pub width_line : List ℕ → Option ℕ → Line
width_line name None = wrong sort.Slot flaw.Number
width_line name (Some w) = pick (leb w slot_most) (right (slot name w)) (wrong sort.Slot flaw.Number)

unfoldable pub slot_line : List ℕ → Option ℕ → Line
slot_line name w = pick (is_label name) (width_line name w) (wrong sort.Slot flaw.Label)

-- so many fields behind a word and no others
abbrev pub no_field : Line → List (List ℕ) → Line
no_field r [] = r
no_field r (f ∷ fs) = bad

abbrev pub one_field : (List ℕ → Line) → List (List ℕ) → Line
one_field r [] = bad
one_field r (f ∷ []) = r f
one_field r (f ∷ g ∷ fs) = bad

abbrev pub two_fields : (List ℕ → List ℕ → Line) → List (List ℕ) → Line
two_fields r [] = bad
two_fields r (f ∷ []) = bad
two_fields r (f ∷ g ∷ []) = r f g
two_fields r (f ∷ g ∷ h ∷ fs) = bad

-- the word of a node without a number has 0 beside it; without a word there is no line
unfoldable pub content : Option Word → List (List ℕ) → Line
content (Some (Atom op)) fs = one_field (λ f. atom_line op (decimal_of f)) fs
content (Some (Plain op)) fs = no_field (right (node op 0)) fs
content (Some (Bounded op)) fs = one_field (λ f. bound_line op (decimal_of f)) fs
content (Some Rule) fs = two_fields rule_line fs
content (Some Step) fs = two_fields (λ f g. step_line (decimal_of f) (hex_of g)) fs
content (Some States) fs = one_field (λ f. states_line (decimal_of f)) fs
content (Some Slot) fs = two_fields (λ f g. slot_line f (decimal_of g)) fs
content None fs = bad

-- the first field is the word
unfoldable pub of_fields : List (List ℕ) → Line
of_fields [] = bad
of_fields (w ∷ fs) = content (word_of w) fs

unfoldable pub parse : List ℕ → Line
parse l = of_fields (fields l)
