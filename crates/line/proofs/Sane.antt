-- What holds of the content of every line: a rule's label is one and its kind too, a node's operation has a word and an atom's signal
-- a bit, a step's number lies below 2^63, a count of states below 65,536; a slot's name is a label and its width at most 64.
use mathlib.Core.Path.{◌≡◌, refl}
use mathlib.Core.Bool.{Bool, true, false}
use mathlib.Core.List.{List, [], ◌∷◌}
use Prim.Native.Nat.{ℕ, ◌≤◌, ◌<◌}
use native.Mathlib.Omega.{arith}
use borrow.Author.Tests.{ltb-true, leb-true}
use lib.Dec.{leb, ltb}
use Rattle.terms.specs.Limits.{signals, slot_most, state_counts, steps}
use Rattle.terms.specs.Kinds.{kinds, kind_number}
use Rattle.terms.specs.declared.kind.Kind.{Kind}
use Rattle.terms.specs.declared.kind.Kind.TheVariants.{Property, Assumption}
use Rattle.terms.specs.Ops.{not_op, words}
use Rattle.terms.specs.Choice.{pick}
use Rattle.number.specs.Number.{decimal_of, hex_of}
use Rattle.std.specs.Prelude.{None, Option, Some}
use Rattle.line.specs.Text.{fields}
use Rattle.words.specs.Same.{eqbs}
use Rattle.words.specs.Word.{Entry, vocabulary, lookup, word_of}
use Rattle.line.specs.Line.{Content, rule, node, step, states, slot, Line, bad, wrong, right}
use Rattle.line.specs.Line.{is_label, kind_of, rule_kind, rule_of, rule_line, atom_line, bound_line, step_line, states_line, width_line, slot_line, no_field, one_field, two_fields, content, of_fields, parse}
use Rattle.words.specs.declared.word.Word.{Word}
use Rattle.words.specs.declared.word.Word.TheVariants as word
use Rattle.line.specs.declared.line.Sort.TheVariants as sort
use Rattle.line.specs.declared.line.Flaw.TheVariants as flaw

pub record RuleSane (l : List ℕ) (k : ℕ) : Type 0 where
  pub label : is_label l ≡ true
  pub kind : k < kinds

pub record NodeSane (op v : ℕ) : Type 0 where
  pub known : op < words
  pub signal : op < not_op → v < signals

pub record SlotSane (l : List ℕ) (w : ℕ) : Type 0 where
  pub name : is_label l ≡ true
  pub width : w ≤ slot_most

abbrev pub Sane : Content → Type 0
Sane (rule l k) = RuleSane l k
Sane (node op v) = NodeSane op v
Sane (step s w) = s < steps
Sane (states c) = c < state_counts
Sane (slot l w) = SlotSane l w

-- of a line's content, if it has one
abbrev pub SaneLine : Line → Type 0
SaneLine bad = Unit
SaneLine (wrong s f) = Unit
SaneLine (right c) = Sane c

-- ---- a word's number
abbrev WordSane : Word → Type 0
WordSane (word.Atom op) = op < not_op
WordSane (word.Plain op) = (not_op ≤ op) × (op < words)
WordSane (word.Bounded op) = (not_op ≤ op) × (op < words)
WordSane word.Rule = Unit
WordSane word.Step = Unit
WordSane word.States = Unit
WordSane word.Slot = Unit

abbrev MaybeSane : Option Word → Type 0
MaybeSane None = Unit
MaybeSane (Some w) = WordSane w

abbrev AllSane : List Entry → Type 0
AllSane [] = Unit
AllSane (e ∷ es) = WordSane e.word × AllSane es

lookup_sane : (es : List Entry) (f : List ℕ) → AllSane es → MaybeSane (lookup es f)
unfolding lookup
lookup_sane [] f h = tt
lookup_sane (e ∷ es) f h = go (eqbs f e.spelling) (lookup es f) (lookup_sane es f h.1)
  where
    go : (t : Bool) (w : Option Word) → MaybeSane w → MaybeSane (pick t (Some e.word) w)
    go true w k = h.0
    go false w k = k

word_sane : (f : List ℕ) → MaybeSane (word_of f)
unfolding word_of
word_sane f =
    lookup_sane vocabulary f (
      omega arith,
      (
        omega arith,
        (
          omega arith,
          (
            (omega arith, omega arith),
            (
              (omega arith, omega arith),
              (
                (omega arith, omega arith),
                (
                  (omega arith, omega arith),
                  (
                    (omega arith, omega arith),
                    (
                      (omega arith, omega arith),
                      (
                        (omega arith, omega arith),
                        (
                          (omega arith, omega arith),
                          (
                            (omega arith, omega arith),
                            ((omega arith, omega arith), (tt, (tt, (tt, (tt, tt))))),
                          ),
                        ),
                      ),
                    ),
                  ),
                ),
              ),
            ),
          ),
        ),
      ),
    )

-- ---- the fields
kind_low : (k : Kind) → kind_number k < kinds
kind_low Property = omega arith
kind_low Assumption = omega arith

rule_sane : (f g : List ℕ) → SaneLine (rule_line f g)
unfolding rule_line rule_kind
rule_sane f g = go (is_label f) refl (kind_of g)
  where
    by : is_label f ≡ true → (k : Option Kind) → SaneLine (rule_of f k)
    by e None = tt
    by e (Some k) = record { label = e; kind = kind_low k }

    go : (a : Bool) → is_label f ≡ a → (k : Option Kind) → SaneLine (rule_of f (pick a k None))
    go true e k = by e k
    go false e k = tt

atom_sane : (op : ℕ) (n : Option ℕ) → op < not_op → SaneLine (atom_line op n)
unfolding atom_line
atom_sane op None k = tt
atom_sane op (Some v) k = go (ltb v signals) refl
  where
    go : (t : Bool) → ltb v signals ≡ t → SaneLine (pick t (right (node op v)) (wrong sort.Node flaw.Number))
    go true e = record { known = omega arith; signal = λ _. ltb-true v signals e }
    go false e = tt

node_sane : (op v : ℕ) → not_op ≤ op → op < words → NodeSane op v
node_sane op v h k = record { known = k; signal = λ z. absurd (omega arith) }

bound_sane : (op : ℕ) (n : Option ℕ) → not_op ≤ op → op < words → SaneLine (bound_line op n)
unfolding bound_line
bound_sane op None h k = tt
bound_sane op (Some v) h k = node_sane op v h k

step_sane : (n m : Option ℕ) → SaneLine (step_line n m)
unfolding step_line
step_sane None m = tt
step_sane (Some s) None = tt
step_sane (Some s) (Some w) = go (ltb s steps) refl
  where
    go : (t : Bool) → ltb s steps ≡ t → SaneLine (pick t (right (step s w)) (wrong sort.Step flaw.Number))
    go true e = ltb-true s steps e
    go false e = tt

states_sane : (n : Option ℕ) → SaneLine (states_line n)
unfolding states_line
states_sane None = tt
states_sane (Some c) = go (ltb c state_counts) refl
  where
    go : (t : Bool) → ltb c state_counts ≡ t → SaneLine (pick t (right (states c)) (wrong sort.States flaw.Number))
    go true e = ltb-true c state_counts e
    go false e = tt

slot_sane : (f : List ℕ) (n : Option ℕ) → SaneLine (slot_line f n)
unfolding slot_line width_line
slot_sane f n = go (is_label f) refl n
  where
    by : is_label f ≡ true → (w : ℕ) (t : Bool) → leb w slot_most ≡ t → SaneLine (pick t (right (slot f w)) (wrong sort.Slot flaw.Number))
    by e w true h = record { name = e; width = leb-true w slot_most h }
    by e w false h = tt

    go : (t : Bool) → is_label f ≡ t → (m : Option ℕ) → SaneLine (pick t (width_line f m) (wrong sort.Slot flaw.Label))
    go true e None = tt
    go true e (Some w) = by e w (leb w slot_most) refl
    go false e m = tt

-- a line of so many fields, if it is one
none_sane : (r : Line) (fs : List (List ℕ)) → SaneLine r → SaneLine (no_field r fs)
none_sane r [] h = h
none_sane r (f ∷ fs) h = tt

one_sane : (r : List ℕ → Line) (fs : List (List ℕ)) → ((f : List ℕ) → SaneLine (r f)) → SaneLine (one_field r fs)
one_sane r [] h = tt
one_sane r (f ∷ []) h = h f
one_sane r (f ∷ g ∷ fs) h = tt

two_sane : (r : List ℕ → List ℕ → Line) (fs : List (List ℕ)) → ((f g : List ℕ) → SaneLine (r f g)) → SaneLine (two_fields r fs)
two_sane r [] h = tt
two_sane r (f ∷ []) h = tt
two_sane r (f ∷ g ∷ []) h = h f g
two_sane r (f ∷ g ∷ i ∷ fs) h = tt

content_sane : (w : Option Word) (fs : List (List ℕ)) → MaybeSane w → SaneLine (content w fs)
unfolding content
content_sane (Some (word.Atom op)) fs k = one_sane (λ f. atom_line op (decimal_of f)) fs (λ f. atom_sane op (decimal_of f) k)
content_sane (Some (word.Plain op)) fs k = none_sane (right (node op 0)) fs (node_sane op 0 k.0 k.1)
content_sane (Some (word.Bounded op)) fs k = one_sane (λ f. bound_line op (decimal_of f)) fs (λ f. bound_sane op (decimal_of f) k.0 k.1)
content_sane (Some word.Rule) fs k = two_sane rule_line fs rule_sane
content_sane (Some word.Step) fs k = two_sane (λ f g. step_line (decimal_of f) (hex_of g)) fs (λ f g. step_sane (decimal_of f) (hex_of g))
content_sane (Some word.States) fs k = one_sane (λ f. states_line (decimal_of f)) fs (λ f. states_sane (decimal_of f))
content_sane (Some word.Slot) fs k = two_sane (λ f g. slot_line f (decimal_of g)) fs (λ f g. slot_sane f (decimal_of g))
content_sane None fs k = tt

fields_sane : (fs : List (List ℕ)) → SaneLine (of_fields fs)
unfolding of_fields
fields_sane [] = tt
fields_sane (w ∷ fs) = content_sane (word_of w) fs (word_sane w)

pub parse_sane : (l : List ℕ) → SaneLine (parse l)
unfolding parse
parse_sane l = fields_sane (fields l)
