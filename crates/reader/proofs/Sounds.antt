-- What holds of every book that lines have been read into: its columns are of one length and within the limits.
use mathlib.Core.Path.{◌≡◌, refl, sym, subst, ◌∙◌}
use mathlib.Core.Bool.{Bool, true, false, ◌&&◌, not}
use mathlib.Core.List.{List, [], ◌∷◌, ◌++◌}
use mathlib.Core.Option.{none, some}
use Prim.Native.Nat.{ℕ, ◌≤◌, ◌<◌}
use native.Mathlib.Omega.{arith}
use borrow.Author.Tests.{leb-true, ltb-true}
use lib.Dec.{leb}
use lib.ListN.{length, length-append}
use Rattle.terms.specs.Choice.{pick}
use Rattle.line.specs.Line.{Content, rule, node, step, states, slot, sort_of, Line, bad, wrong, right, is_label, printable, parse, refusal_of}
use Rattle.line.proofs.Sane.{Sane, SaneLine, parse_sane}
use Rattle.result.specs.declared.Refusal.{Refusal}
use Rattle.result.specs.declared.Refusal.TheVariants as why
use Rattle.book.specs.Book.{Book, empty, is_nil, head_of, last_of, or_else, stands, opens, within, first_fault, fault, add, add_line}
use Rattle.book.proofs.States.{bump_length}

pub both : {a b : Bool} → (a && b) ≡ true → (a ≡ true) × (b ≡ true)
both {a} {b} h = go a b h
  where
    go : (a b : Bool) → (a && b) ≡ true → (a ≡ true) × (b ≡ true)
    go true true h = (refl, refl)
    go true false h = (refl, h)
    go false true h = (h, refl)
    go false false h = (h, h)

-- ---- a line that no test fails
some_none : {A : Type 0} {f : Refusal} → some f ≡ none → A
some_none e = let z : ◌≡◌ {A = ℕ} 0 1 = cc in absurd (omega arith)

pub record Passed (b : Book) (c : Content) : Type 0 where
  pub here : stands b (sort_of c) ≡ true
  pub opened : opens b (sort_of c) ≡ true
  pub limits : within b (sort_of c) ≡ true

-- its content, which passes the tests by sort
pub record PassedLine (b : Book) (l : Line) : Type 0 where
  pub content : Content
  pub is : l ≡ right content
  pub passed : Passed b content

pub passed : (b : Book) (l : Line) → fault b l ≡ none → PassedLine b l
unfolding fault first_fault
passed b bad e = some_none e
passed b (wrong o f) e = go (stands b o) (opens b o) e
  where
    go : (t v : Bool) → or_else (pick t none (some why.Place)) (or_else (pick v none (some why.Unopened)) (some (refusal_of f))) ≡ none → PassedLine b (wrong o f)
    go true true e = some_none e
    go true false e = some_none e
    go false v e = some_none e
passed b (right c) e = go (stands b (sort_of c)) refl (opens b (sort_of c)) refl (within b (sort_of c)) refl e
  where
    go : (t : Bool) → stands b (sort_of c) ≡ t → (v : Bool) → opens b (sort_of c) ≡ v → (u : Bool) → within b (sort_of c) ≡ u
        → or_else (pick t none (some why.Place)) (or_else (pick v none (some why.Unopened)) (or_else (pick u none (some why.Limit)) none)) ≡ none
        → PassedLine b (right c)
    go true p true w true q e = record { content = c; is = refl; passed = record { here = p; opened = w; limits = q } }
    go true p true w false q e = some_none e
    go true p false w u q e = some_none e
    go false p v w u q e = some_none e

pub slots_left : (b : Book) (l : List ℕ) (w : ℕ) → Passed b (slot l w) → length b.names < 32
unfolding opens
slots_left b l w p = ltb-true _ _ p.opened

pub rules_left : (b : Book) (l : List ℕ) (k : ℕ) → Passed b (rule l k) → length b.labels < 64
unfolding within
rules_left b l k p = ltb-true _ _ p.limits

pub nodes_left : (b : Book) (op v : ℕ) → Passed b (node op v) → (last_of b.counts < 256) × (length b.ops < 1024) × (head_of b.due ≤ 64)
unfolding within
nodes_left b op v p =
    let (x, y) = both p.limits in
    let (y1, y2) = both y in
    (ltb-true _ _ x, ltb-true _ _ y1, leb-true _ _ y2)

pub node_inside : (b : Book) (op v : ℕ) → Passed b (node op v) → is_nil b.due ≡ false
unfolding stands
node_inside b op v p = go (is_nil b.due) p.here
  where
    go : (t : Bool) → not t ≡ true → t ≡ false
    go true e = sym e
    go false e = refl

-- ---- a rule's label
pub sane : (l : List ℕ) (c : Content) → parse l ≡ right c → Sane c
sane l c e = subst SaneLine e (parse_sane l)

pub label_short : (l : List ℕ) → is_label l ≡ true → length l ≤ 32
unfolding is_label
label_short l e =
    leb-true (length l) 32 (both {a = leb (length l) 32} {b = printable l} (both {a = leb 1 (length l)} {b = leb (length l) 32 && printable l} e).1).0

-- ---- the columns
abbrev pub Short : List (List ℕ) → Type 0
Short [] = Unit
Short (x ∷ xs) = (length x ≤ 32) × Short xs

short_snoc : (xs : List (List ℕ)) (x : List ℕ) → Short xs → length x ≤ 32 → Short (xs ++ x ∷ [])
short_snoc [] x s h = (h, tt)
short_snoc (y ∷ ys) x s h = (s.0, short_snoc ys x s.1 h)

pub record Sound (b : Book) : Type 0 where
  pub kinds_long : length b.kinds ≡ length b.labels
  pub firsts_long : length b.firsts ≡ length b.labels
  pub counts_long : length b.counts ≡ length b.labels
  pub nums_long : length b.nums ≡ length b.ops
  pub few : length b.labels ≤ 64
  pub less : length b.ops ≤ 1024
  pub begun : is_nil b.due ≡ false → 1 ≤ length b.labels
  pub short : Short b.labels
  pub widths_long : length b.widths ≡ length b.names
  pub slots_few : length b.names ≤ 32
  pub names_short : Short b.names

true_false : {A : Type 0} → true ≡ false → A
true_false e = let z : ◌≡◌ {A = ℕ} 0 1 = cc in absurd (omega arith)

pub sound_empty : Sound empty
sound_empty = record {
  kinds_long = refl;
  firsts_long = refl;
  counts_long = refl;
  nums_long = refl;
  few = omega arith;
  less = omega arith;
  begun = λ e. true_false e;
  short = tt;
  widths_long = refl;
  slots_few = omega arith;
  names_short = tt;
}

sound_by : (n : ℕ) (b : Book) (c : Content) → Sound b → Sane c → Passed b c → Sound (add n b c)
unfolding add
sound_by n b (rule l k) s h p = record {
  kinds_long = length-append b.kinds (k ∷ []) ∙ omega (arith, length-append b.labels (l ∷ []), s.kinds_long);
  firsts_long = length-append b.firsts (length b.ops ∷ []) ∙ omega (arith, length-append b.labels (l ∷ []), s.firsts_long);
  counts_long = length-append b.counts (0 ∷ []) ∙ omega (arith, length-append b.labels (l ∷ []), s.counts_long);
  nums_long = s.nums_long;
  few = omega (arith, length-append b.labels (l ∷ []), rules_left b l k p);
  less = s.less;
  begun = λ _. omega (arith, length-append b.labels (l ∷ []));
  short = short_snoc b.labels l s.short (label_short l h.label);
  widths_long = s.widths_long;
  slots_few = s.slots_few;
  names_short = s.names_short;
}
sound_by n b (node op v) s h p = record {
  kinds_long = s.kinds_long;
  firsts_long = s.firsts_long;
  counts_long = bump_length b.counts ∙ s.counts_long;
  nums_long = length-append b.nums (v ∷ []) ∙ omega (arith, length-append b.ops (op ∷ []), s.nums_long);
  few = s.few;
  less = omega (arith, length-append b.ops (op ∷ []), (nodes_left b op v p).1);
  begun = λ _. s.begun (node_inside b op v p);
  short = s.short;
  widths_long = s.widths_long;
  slots_few = s.slots_few;
  names_short = s.names_short;
}
sound_by n b (step u w) s h p = record {
  kinds_long = s.kinds_long;
  firsts_long = s.firsts_long;
  counts_long = s.counts_long;
  nums_long = s.nums_long;
  few = s.few;
  less = s.less;
  begun = s.begun;
  short = s.short;
  widths_long = s.widths_long;
  slots_few = s.slots_few;
  names_short = s.names_short;
}
sound_by n b (states c) s h p = record {
  kinds_long = s.kinds_long;
  firsts_long = s.firsts_long;
  counts_long = s.counts_long;
  nums_long = s.nums_long;
  few = s.few;
  less = s.less;
  begun = s.begun;
  short = s.short;
  widths_long = s.widths_long;
  slots_few = s.slots_few;
  names_short = s.names_short;
}
sound_by n b (slot l w) s h p = record {
  kinds_long = s.kinds_long;
  firsts_long = s.firsts_long;
  counts_long = s.counts_long;
  nums_long = s.nums_long;
  few = s.few;
  less = s.less;
  begun = s.begun;
  short = s.short;
  widths_long = length-append b.widths (w ∷ []) ∙ omega (arith, length-append b.names (l ∷ []), s.widths_long);
  slots_few = omega (arith, length-append b.names (l ∷ []), slots_left b l w p);
  names_short = short_snoc b.names l s.names_short (label_short l h.name);
}

pub sound_add : (n : ℕ) (b : Book) (l : List ℕ) → Sound b → fault b (parse l) ≡ none → Sound (add_line n b (parse l))
sound_add n b l s e =
    let p : PassedLine b (parse l) = passed b (parse l) e in
    subst (λ (x : Line). Sound (add_line n b x)) (sym p.is) (sound_by n b p.content s (sane l p.content p.is) p.passed)
