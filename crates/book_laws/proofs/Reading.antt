-- The lines of a list that is written out, parsed.
use mathlib.Core.Path.{◌≡◌, refl, ap, ◌∙◌}
use mathlib.Core.Bool.{true}
use mathlib.Core.List.{List, [], ◌∷◌, ◌++◌}
use Prim.Native.Nat.{ℕ, zero, suc, ◌^◌, ◌<◌}
use native.Mathlib.Omega.{arith}
use borrow.Author.Tests.{lt-ltb, le-leb}
use Rattle.std.specs.Prelude.{Some}
use Rattle.terms.specs.Kinds.{kind_number}
use Rattle.terms.specs.declared.kind.Kind.{Kind}
use Rattle.terms.specs.declared.kind.Kind.TheVariants.{Property, Assumption}
use Rattle.number.specs.Number.{decimal_of}
use Rattle.formula.specs.Tree.{leaf_of, one_of, two_of, unknown}
use Rattle.formula.specs.Formula.{Node, var, input, output, not, next, always, eventually, always_for, within, and, or, implies, until}
use Rattle.words.specs.Same.{eqbs}
use Rattle.line.specs.Text.{parts, onto, fields}
use Rattle.words.specs.Word.{word_of, lookup}
use Rattle.line.specs.Line.{rule, node, step, states, slot, right, is_label, kind_byte, kind_of, rule_kind, rule_line, atom_line, bound_line, step_line, states_line, width_line, slot_line, content, of_fields, parse}
use Rattle.book.specs.Book.{StepLine}
use Rattle.number.specs.Digits.{decimal, hex_digits}
use Rattle.book_laws.specs.Write.{RuleText, SlotText, op_of, num_of, node_text, head_text, step_text, slot_text, SlotLimited}
use Rattle.book_laws.proofs.Texts.{free, free_append, fields_free, parts_free, decimal_back, decimal_free, hex_back, hex_free, label_free, label_printable}

-- a token of a formula within the limits
pub record TokenOk (t : Node) : Type 0 where
  pub known : op_of t < 13
  pub bound : num_of t < 2 ^ 64
  pub signals : op_of t < 3 → num_of t < 64

by_atom : (op n : ℕ) → n < 64 → atom_line op (decimal_of (decimal n)) ≡ right (node op n)
unfolding atom_line
by_atom op n h = rw (decimal_back n (omega arith), lt-ltb n 64 h) refl

by_bound : (op n : ℕ) → n < 2 ^ 64 → bound_line op (decimal_of (decimal n)) ≡ right (node op n)
unfolding bound_line
by_bound op n h = rw (decimal_back n h) refl

one_field_lem : (n : ℕ) → n < 2 ^ 64 → fields (decimal n) ≡ decimal n ∷ []
one_field_lem n h = fields_free (decimal n) (decimal_free 9 n (omega arith) h)

pub node_line : (t : Node) → TokenOk t → parse (node_text t) ≡ right (node (op_of t) (num_of t))
unfolding parse of_fields parts onto word_of lookup eqbs content
node_line (leaf_of (var n)) k = rw (one_field_lem n k.bound) (by_atom 0 n (k.signals (omega arith)))
node_line (leaf_of (input n)) k = rw (one_field_lem n k.bound) (by_atom 1 n (k.signals (omega arith)))
node_line (leaf_of (output n)) k = rw (one_field_lem n k.bound) (by_atom 2 n (k.signals (omega arith)))
node_line (one_of not) k = refl
node_line (one_of next) k = refl
node_line (one_of always) k = refl
node_line (one_of eventually) k = refl
node_line (one_of (always_for n)) k = rw (one_field_lem n k.bound) (by_bound 7 n k.bound)
node_line (one_of (within n)) k = rw (one_field_lem n k.bound) (by_bound 8 n k.bound)
node_line (two_of and) k = refl
node_line (two_of or) k = refl
node_line (two_of implies) k = refl
node_line (two_of until) k = refl
node_line unknown k = absurd (omega (arith, k.known))

pub node_free : (t : Node) → TokenOk t → free 10 (node_text t) ≡ true
unfolding free
node_free (leaf_of (var n)) k = decimal_free 10 n (omega arith) k.bound
node_free (leaf_of (input n)) k = decimal_free 10 n (omega arith) k.bound
node_free (leaf_of (output n)) k = decimal_free 10 n (omega arith) k.bound
node_free (one_of not) k = refl
node_free (one_of next) k = refl
node_free (one_of always) k = refl
node_free (one_of eventually) k = refl
node_free (one_of (always_for n)) k = decimal_free 10 n (omega arith) k.bound
node_free (one_of (within n)) k = decimal_free 10 n (omega arith) k.bound
node_free (two_of and) k = refl
node_free (two_of or) k = refl
node_free (two_of implies) k = refl
node_free (two_of until) k = refl
node_free unknown k = refl

-- ---- a rule's head
pub record KindBack (k : ℕ) : Type 0 where
  pub kind : Kind
  pub is : kind_of (kind_byte k ∷ []) ≡ Some kind
  pub number : kind_number kind ≡ k

kind_back : (k : ℕ) → k < 2 → KindBack k
unfolding kind_of eqbs
kind_back zero h = record { kind = Property; is = refl; number = refl }
kind_back (suc zero) h = record { kind = Assumption; is = refl; number = refl }
kind_back (suc (suc k)) h = absurd (omega arith)

kind_fields : (k : ℕ) → fields (kind_byte k ∷ []) ≡ (kind_byte k ∷ []) ∷ []
unfolding parts onto
kind_fields zero = refl
kind_fields (suc k) = refl

pub head_line : (r : RuleText) → is_label r.label ≡ true → r.kind < 2 → parse (head_text r) ≡ right (rule r.label r.kind)
unfolding parse of_fields parts onto word_of lookup eqbs content rule_line rule_kind
head_line r h k =
    let fs : fields (r.label ++ 9 ∷ kind_byte r.kind ∷ []) ≡ r.label ∷ (kind_byte r.kind ∷ []) ∷ [] = parts_free 9 ([] ∷ []) r.label (kind_byte r.kind ∷ []) (label_free 9 r.label (omega arith) (label_printable r.label h)) ∙ ap (r.label ∷◌) (kind_fields r.kind) in
    let q : KindBack r.kind = kind_back r.kind k in
    rw (fs, h, q.is) (ap (λ (n : ℕ). right (rule r.label n)) q.number)

pub head_free : (r : RuleText) → is_label r.label ≡ true → free 10 (head_text r) ≡ true
unfolding free
head_free r h = free_append 10 r.label (9 ∷ kind_byte r.kind ∷ []) (label_free 10 r.label (omega arith) (label_printable r.label h)) (go r.kind)
  where
    go : (k : ℕ) → free 10 (9 ∷ kind_byte k ∷ []) ≡ true
    go zero = refl
    go (suc k) = refl

-- ---- a step
pub step_line_lem : (s : StepLine) → s.number < 2 ^ 63 → s.truths < 2 ^ 64 → parse (step_text s) ≡ right (step s.number s.truths)
unfolding parse of_fields parts onto word_of lookup eqbs content step_line
step_line_lem s h k =
    let fs : fields (decimal s.number ++ 9 ∷ hex_digits 16 s.truths) ≡ decimal s.number ∷ hex_digits 16 s.truths ∷ [] = parts_free 9 ([] ∷ []) (decimal s.number) (hex_digits 16 s.truths) (decimal_free 9 s.number (omega arith) (omega arith)) ∙ ap (decimal s.number ∷◌) (fields_free (hex_digits 16 s.truths) (hex_free 9 s.truths (omega arith) k)) in
    rw (fs, decimal_back s.number (omega arith), hex_back s.truths k, lt-ltb s.number (2 ^ 63) h) refl

pub step_free : (s : StepLine) → s.number < 2 ^ 63 → s.truths < 2 ^ 64 → free 10 (step_text s) ≡ true
unfolding free
step_free s h k = free_append 10 (decimal s.number) (9 ∷ hex_digits 16 s.truths) (decimal_free 10 s.number (omega arith) (omega arith)) (hex_free 10 s.truths (omega arith) k)

-- ---- the opening lines
abbrev pub states_text : ℕ → List ℕ
states_text c = 115 ∷ 116 ∷ 97 ∷ 116 ∷ 101 ∷ 115 ∷ 9 ∷ decimal c

pub states_line_lem : (c : ℕ) → c < 65536 → parse (states_text c) ≡ right (states c)
unfolding parse of_fields parts onto word_of lookup eqbs content states_line
states_line_lem c h = rw (one_field_lem c (omega arith), decimal_back c (omega arith), lt-ltb c 65536 h) refl

pub states_free : (c : ℕ) → c < 65536 → free 10 (states_text c) ≡ true
unfolding free
states_free c h = decimal_free 10 c (omega arith) (omega arith)

pub slot_line_lem : (s : SlotText) → SlotLimited s → parse (slot_text s) ≡ right (slot s.name s.width)
unfolding parse of_fields parts onto word_of lookup eqbs content slot_line width_line
slot_line_lem s l =
    let fs : fields (s.name ++ 9 ∷ decimal s.width) ≡ s.name ∷ decimal s.width ∷ [] =
    parts_free 9 ([] ∷ []) s.name (decimal s.width) (label_free 9 s.name (omega arith) (label_printable s.name l.named))
    ∙ ap (s.name ∷◌) (one_field_lem s.width (omega (arith, l.narrow))) in
    rw (fs, l.named, decimal_back s.width (omega (arith, l.narrow)), le-leb s.width 64 l.narrow) refl

pub slot_free : (s : SlotText) → SlotLimited s → free 10 (slot_text s) ≡ true
unfolding free
slot_free s l =
    free_append 10 s.name (9 ∷ decimal s.width) (label_free 10 s.name (omega arith) (label_printable s.name l.named))
    (decimal_free 10 s.width (omega arith) (omega (arith, l.narrow)))
