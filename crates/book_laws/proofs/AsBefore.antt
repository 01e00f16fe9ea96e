-- EVERY OLD BOOK READS AS IT DID. A text without opening lines is read as document 01 alone reads it, refusals with their lines included; and what
-- document 01 accepts is accepted with the same rules, nodes and steps, with no state and no slot.
use mathlib.Core.Path.{◌≡◌, refl, sym, ap, subst, ◌∙◌}
use mathlib.Core.Bool.{Bool, true, false}
use mathlib.Core.List.{List, [], ◌∷◌}
use mathlib.Core.Option.{Option, none, some}
use Prim.Native.Nat.{ℕ, ◌+◌}
use native.Mathlib.Omega.{arith}
use lib.Dec.{leb, ltb}
use lib.ListN.{length}
use Rattle.terms.specs.Choice.{pick}
use Rattle.terms.specs.declared.kind.Kind.{Kind}
use Rattle.terms.specs.Limits.{signals, steps}
use Rattle.number.specs.Number.{decimal_of, hex_of}
use Rattle.std.specs.Prelude.{Option as Opt, Some, None}
use Rattle.words.specs.Same.{eqbs}
use Rattle.words.proofs.Codes.{same_bytes}
use Rattle.line.specs.Text.{lines, fields}
use Rattle.words.specs.Word.{Entry, lookup, word_of}
use Rattle.line.specs.Line.{rule, node, step, states, slot, sort_of, Line, bad, wrong, right, rule_kind, rule_of, rule_line, atom_line, bound_line, step_line, no_field, one_field, two_fields, content, of_fields, parse}
use Rattle.words.specs.declared.word.Word.{Word}
use Rattle.words.specs.declared.word.Word.TheVariants as word
use Rattle.line.specs.declared.line.Sort.{Sort}
use Rattle.line.specs.declared.line.Sort.TheVariants as sort
use Rattle.line.specs.declared.line.Flaw.TheVariants as flaw
use Rattle.result.specs.declared.Refusal.{Refusal}
use Rattle.book.specs.Book.{Book, empty, whole, first_fault, fault, opens, add, add_line, Outcome, accepted, refused, unless, read_on, ended, read}
use Rattle.book_laws.specs.Before.{words_before, of_fields_before, parse_before, order_before, read_on_before, read_before, first_field, NoOpeningLine, NoOpenings, NoOpening, Unopened}

-- ---- sorts and lines of document 01
abbrev OldSort : Sort → Type 0
OldSort sort.Rule = Unit
OldSort sort.Node = Unit
OldSort sort.Step = Unit
OldSort sort.States = ⊥
OldSort sort.Slot = ⊥

abbrev OldLine : Line → Type 0
OldLine bad = Unit
OldLine (wrong o f) = OldSort o
OldLine (right c) = OldSort (sort_of c)

abbrev OldWord : Word → Type 0
OldWord (word.Atom op) = Unit
OldWord (word.Plain op) = Unit
OldWord (word.Bounded op) = Unit
OldWord word.Rule = Unit
OldWord word.Step = Unit
OldWord word.States = ⊥
OldWord word.Slot = ⊥

abbrev OldWords : Opt Word → Type 0
OldWords None = Unit
OldWords (Some w) = OldWord w

abbrev AllOld : List Entry → Type 0
AllOld [] = Unit
AllOld (e ∷ es) = OldWord e.word × AllOld es

lookup_old : (es : List Entry) (f : List ℕ) → AllOld es → OldWords (lookup es f)
unfolding lookup
lookup_old [] f h = tt
lookup_old (e ∷ es) f h = go (eqbs f e.spelling) (lookup es f) (lookup_old es f h.1)
  where
    go : (t : Bool) (w : Opt Word) → OldWords w → OldWords (pick t (Some e.word) w)
    go true w k = h.0
    go false w k = k

word_old : (f : List ℕ) → OldWords (lookup words_before f)
word_old f = lookup_old words_before f (tt, (tt, (tt, (tt, (tt, (tt, (tt, (tt, (tt, (tt, (tt, (tt, (tt, (tt, (tt, tt)))))))))))))))

pick_old : (t : Bool) (a b : Line) → OldLine a → OldLine b → OldLine (pick t a b)
pick_old true a b h k = h
pick_old false a b h k = k

atom_old : (op : ℕ) (n : Opt ℕ) → OldLine (atom_line op n)
unfolding atom_line
atom_old op None = tt
atom_old op (Some v) = pick_old (ltb v signals) (right (node op v)) (wrong sort.Node flaw.Number) tt tt

bound_old : (op : ℕ) (n : Opt ℕ) → OldLine (bound_line op n)
unfolding bound_line
bound_old op None = tt
bound_old op (Some v) = tt

rule_old : (f g : List ℕ) → OldLine (rule_line f g)
unfolding rule_line
rule_old f g = go (rule_kind f g)
  where
    go : (k : Opt Kind) → OldLine (rule_of f k)
    go None = tt
    go (Some k) = tt

step_old : (n m : Opt ℕ) → OldLine (step_line n m)
unfolding step_line
step_old None m = tt
step_old (Some s) None = tt
step_old (Some s) (Some w) = pick_old (ltb s steps) (right (step s w)) (wrong sort.Step flaw.Number) tt tt

one_old : (r : List ℕ → Line) (fs : List (List ℕ)) → ((f : List ℕ) → OldLine (r f)) → OldLine (one_field r fs)
one_old r [] h = tt
one_old r (f ∷ []) h = h f
one_old r (f ∷ g ∷ fs) h = tt

two_old : (r : List ℕ → List ℕ → Line) (fs : List (List ℕ)) → ((f g : List ℕ) → OldLine (r f g)) → OldLine (two_fields r fs)
two_old r [] h = tt
two_old r (f ∷ []) h = tt
two_old r (f ∷ g ∷ []) h = h f g
two_old r (f ∷ g ∷ i ∷ fs) h = tt

none_old : (r : Line) (fs : List (List ℕ)) → OldLine r → OldLine (no_field r fs)
none_old r [] h = h
none_old r (f ∷ fs) h = tt

content_old : (w : Opt Word) (fs : List (List ℕ)) → OldWords w → OldLine (content w fs)
unfolding content
content_old (Some (word.Atom op)) fs k = one_old (λ f. atom_line op (decimal_of f)) fs (λ f. atom_old op (decimal_of f))
content_old (Some (word.Plain op)) fs k = none_old (right (node op 0)) fs tt
content_old (Some (word.Bounded op)) fs k = one_old (λ f. bound_line op (decimal_of f)) fs (λ f. bound_old op (decimal_of f))
content_old (Some word.Rule) fs k = two_old rule_line fs rule_old
content_old (Some word.Step) fs k = two_old (λ f g. step_line (decimal_of f) (hex_of g)) fs (λ f g. step_old (decimal_of f) (hex_of g))
content_old (Some word.States) fs k = absurd k
content_old (Some word.Slot) fs k = absurd k
content_old None fs k = tt

fields_old : (fs : List (List ℕ)) → OldLine (of_fields_before fs)
unfolding of_fields_before
fields_old [] = tt
fields_old (w ∷ fs) = content_old (lookup words_before w) fs (word_old w)

line_old : (l : List ℕ) → OldLine (parse_before l)
unfolding parse_before
line_old l = fields_old (fields l)

-- ---- a line that begins with no opening word is what it was
word_same : (w : List ℕ) → eqbs w (115 ∷ 116 ∷ 97 ∷ 116 ∷ 101 ∷ 115 ∷ []) ≡ false → eqbs w (115 ∷ 108 ∷ 111 ∷ 116 ∷ []) ≡ false → word_of w ≡ lookup words_before w
unfolding word_of lookup
word_same w p q = rw (p, q) refl

fields_same : (fs : List (List ℕ)) → eqbs (first_field fs) (115 ∷ 116 ∷ 97 ∷ 116 ∷ 101 ∷ 115 ∷ []) ≡ false → eqbs (first_field fs) (115 ∷ 108 ∷ 111 ∷ 116 ∷ []) ≡ false
    → of_fields fs ≡ of_fields_before fs
unfolding of_fields of_fields_before
fields_same [] p q = refl
fields_same (w ∷ fs) p q = ap (λ (x : Opt Word). content x fs) (word_same w p q)

line_same : (l : List ℕ) → NoOpeningLine l → parse l ≡ parse_before l
unfolding parse parse_before
line_same l h = fields_same (fields l) h.states h.slot

-- ---- its tests find what they found
opens_old : (b : Book) (o : Sort) → OldSort o → opens b o ≡ true
unfolding opens
opens_old b sort.Rule h = refl
opens_old b sort.Node h = refl
opens_old b sort.Step h = refl
opens_old b sort.States h = absurd h
opens_old b sort.Slot h = absurd h

fault_same : (b : Book) (l : Line) → OldLine l → fault b l ≡ first_fault order_before b l
unfolding fault first_fault
fault_same b bad h = refl
fault_same b (wrong o f) h = rw (opens_old b o h) refl
fault_same b (right c) h = rw (opens_old b (sort_of c) h) refl

lines_same : (b : Book) (k : ℕ) (ls : List (List ℕ)) → NoOpenings ls → read_on b k ls ≡ read_on_before b k ls
unfolding read_on read_on_before
lines_same b k [] h = refl
lines_same b k (l ∷ ls) h =
    let p : parse l ≡ parse_before l = line_same l h.0 in
    rw (p, fault_same b (parse_before l) (line_old l))
    (ap (unless (first_fault order_before b (parse_before l)) k) (lines_same (add_line (length l + 1) b (parse_before l)) (k + 1) ls h.1))

pub reads_as_before : (t : List ℕ) → NoOpening t → read t ≡ read_before t
unfolding read read_before
reads_as_before t h = ap (λ (o : Outcome). pick (leb (length t) 65535) (pick (ended t) o (refused 4 0)) (refused 3 0)) (lines_same empty 0 (lines t) h)

-- ---- what document 01 accepts has no opening line
refused_accepted : {A : Type 0} {n k : ℕ} {b : Book} → refused n k ≡ accepted b → A
refused_accepted e = let z : ◌≡◌ {A = ℕ} 0 1 = cc in absurd (omega arith)

accepted_is : {b c : Book} → accepted b ≡ accepted c → b ≡ c
accepted_is e = cc

states_unknown : lookup words_before (115 ∷ 116 ∷ 97 ∷ 116 ∷ 101 ∷ 115 ∷ []) ≡ None
unfolding lookup eqbs
states_unknown = refl

slot_unknown : lookup words_before (115 ∷ 108 ∷ 111 ∷ 116 ∷ []) ≡ None
unfolding lookup eqbs
slot_unknown = refl

unknown_bad : (w : List ℕ) (fs : List (List ℕ)) → lookup words_before w ≡ None → content (lookup words_before w) fs ≡ bad
unfolding content
unknown_bad w fs e = rw e refl

-- a line whose first field is a word that document 01 does not have is none
opened_bad : (s : List ℕ) → lookup words_before s ≡ None → (fs : List (List ℕ)) → eqbs (first_field fs) s ≡ true → of_fields_before fs ≡ bad
unfolding of_fields_before
opened_bad s u [] e = refl
opened_bad s u (w ∷ fs) e = unknown_bad w fs (ap (lookup words_before) (same_bytes w s e) ∙ u)

unless_none : (o : Option Refusal) (k : ℕ) (r : Outcome) (b : Book) → unless o k r ≡ accepted b → (o ≡ none) × (r ≡ accepted b)
unless_none none k r b e = (refl, e)
unless_none (some f) k r b e = refused_accepted e

bad_faulty : {A : Type 0} (b : Book) (l : Line) → l ≡ bad → first_fault order_before b l ≡ none → A
unfolding first_fault
bad_faulty {A} b l e h = go (ap (first_fault order_before b) (sym e) ∙ h)
  where
    go : some Rattle.result.specs.declared.Refusal.TheVariants.Word ≡ none → A
    go z = let y : ◌≡◌ {A = ℕ} 0 1 = cc in absurd (omega arith)

line_unopened : (b : Book) (l : List ℕ) → first_fault order_before b (parse_before l) ≡ none → NoOpeningLine l
unfolding parse_before
line_unopened b l h = record {
  states = go (115 ∷ 116 ∷ 97 ∷ 116 ∷ 101 ∷ 115 ∷ []) states_unknown;
  slot = go (115 ∷ 108 ∷ 111 ∷ 116 ∷ []) slot_unknown;
}
  where
    go : (s : List ℕ) → lookup words_before s ≡ None → eqbs (first_field (fields l)) s ≡ false
    go s u = by (eqbs (first_field (fields l)) s) refl
      where
        by : (t : Bool) → eqbs (first_field (fields l)) s ≡ t → t ≡ false
        by true e = bad_faulty b (of_fields_before (fields l)) (opened_bad s u (fields l) e) h
        by false e = refl

lines_unopened : (b c : Book) (k : ℕ) (ls : List (List ℕ)) → read_on_before b k ls ≡ accepted c → NoOpenings ls
unfolding read_on_before
lines_unopened b c k [] e = tt
lines_unopened b c k (l ∷ ls) e =
    let (o, a) = unless_none (first_fault order_before b (parse_before l)) k _ c e in
    (line_unopened b l o, lines_unopened (add_line (length l + 1) b (parse_before l)) c (k + 1) ls a)

-- nor any state or slot
add_unopened : (n : ℕ) (b : Book) (l : Line) → OldLine l → Unopened b → Unopened (add_line n b l)
unfolding add
add_unopened n b bad h u = u
add_unopened n b (wrong o f) h u = u
add_unopened n b (right (rule x y)) h u = record { states = u.states; names = u.names; widths = u.widths }
add_unopened n b (right (node x y)) h u = record { states = u.states; names = u.names; widths = u.widths }
add_unopened n b (right (step x y)) h u = record { states = u.states; names = u.names; widths = u.widths }
add_unopened n b (right (states x)) h u = absurd h
add_unopened n b (right (slot x y)) h u = absurd h

read_unopened : (b c : Book) (k : ℕ) (ls : List (List ℕ)) → Unopened b → read_on_before b k ls ≡ accepted c → Unopened c
unfolding read_on_before
read_unopened b c k [] u e = go (whole b) e
  where
    go : (t : Bool) → pick t (accepted b) (refused 10 k) ≡ accepted c → Unopened c
    go true e = subst Unopened (accepted_is e) u
    go false e = refused_accepted e
read_unopened b c k (l ∷ ls) u e =
    let (o, a) = unless_none (first_fault order_before b (parse_before l)) k _ c e in
    read_unopened (add_line (length l + 1) b (parse_before l)) c (k + 1) ls (add_unopened (length l + 1) b (parse_before l) (line_old l) u) a

before_lines : (t : List ℕ) (b : Book) → read_before t ≡ accepted b → read_on_before empty 0 (lines t) ≡ accepted b
unfolding read_before
before_lines t b e = go (leb (length t) 65535) (ended t) e
  where
    go : (p q : Bool) → pick p (pick q (read_on_before empty 0 (lines t)) (refused 4 0)) (refused 3 0) ≡ accepted b → read_on_before empty 0 (lines t) ≡ accepted b
    go true true e = e
    go true false e = refused_accepted e
    go false true e = refused_accepted e
    go false false e = refused_accepted e

pub accepted_as_before : (t : List ℕ) (b : Book) → read_before t ≡ accepted b → (read t ≡ accepted b) × Unopened b
accepted_as_before t b e =
    let a : read_on_before empty 0 (lines t) ≡ accepted b = before_lines t b e in
    (reads_as_before t (lines_unopened empty b 0 (lines t) a) ∙ e, read_unopened empty b 0 (lines t) (record { states = refl; names = refl; widths = refl }) a)
