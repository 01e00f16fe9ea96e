-- The step line at a place: one law for each return; and the theorem that an accepted book's steps stand in order where its
-- answer says.
use mathlib.Core.Path.{◌≡◌, refl, sym, ap, subst, ◌∙◌}
use mathlib.Core.Bool.{Bool, true, false, not}
use mathlib.Core.List.{List, [], ◌∷◌, ◌++◌, append_assoc}
use mathlib.Core.Option.{Option, none, some}
use Prim.Native.Nat.{ℕ, zero, suc, ◌+◌, ◌-◌, ◌≤◌, ◌<◌}
use native.Mathlib.Omega.{arith}
use borrow.Author.Tests.{lt-ltb, le-ltb, ltb-true, ltb-false}
use lib.Dec.{ltb}
use types.Run.{OneOf, miss}
use denote.Enum.Declared.{tag_of}
use lib.ListN.{length, take, drop, length-drop, drop_of_length-le}
use lib.Seq.{drop-drop, length-take-le}
use Rattle.terms.specs.Choice.{pick}
use Rattle.line.specs.Text.{lines, parts, first_at, Found}
use Rattle.line.specs.Line.{Content, rule, node, step, states, slot, Line, right, parse}
use Rattle.line.specs.Means.{Answer, held, means, LineIs}
use Rattle.line.specs.declared.line.Content as held-type
use Rattle.line.specs.declared.line.Content.TheVariants as contents
use Rattle.std.specs.Prelude.{Ok, Err}
use Rattle.line.specs.declared.line.Fault.{Fault}
use Rattle.line.specs.declared.line.Fault.TheVariants as fault_of
use Rattle.line.specs.contracts.line.Content as content-type
use Rattle.line.proofs.Parts.{lines_next, lines_none, first_inside}
use Rattle.book.specs.Book.{Book, StepLine, empty, is_nil, whole, opening, stands, fault, add, add_line, accepted, refused, read_on, ended, read}
use Rattle.result.specs.Result.{given}
use Rattle.reader.specs.Steps.{step_in, as_step, Next, next_at, next_in, next_step, result_of, before, steps_of, steps_from}
use Rattle.std.specs.Prelude.{Some, None}
use Rattle.book.proofs.Checks.{ended_drop, ended_found}
use Rattle.reader.proofs.Sounds.{both, Passed, PassedLine, passed}
use Rattle.reader.proofs.Runs.{accepted_lines, accepted_ended, accepted_inj, unless_none}

-- ---- the step line at a place, from what the code has found
pub next_past : (text : List ℕ) (at : ℕ) → length text ≤ at → result_of None ≡ given (next_step text at)
unfolding next_step next_in first_at
next_past text at h = rw (drop_of_length-le text h) refl

module _ (text rest : List ℕ) (at n : ℕ) (e : rest ≡ drop at text) (f : Found 10 rest n) where
  next_is : next_step text at ≡ pick (ltb n (length rest)) (next_at (as_step (parse (take n rest))) (at + (n + 1))) none
  unfolding next_step next_in
  next_is = ap (λ (r : List ℕ). next_in r at) (sym e) ∙ ap (λ (i : ℕ). pick (ltb i (length rest)) (next_at (as_step (parse (take i rest))) (at + (i + 1))) none) (sym f.is)

  pub next_unended : length rest ≤ n → result_of None ≡ given (next_step text at)
  next_unended h = sym (ap given (next_is ∙ ap (λ (b : Bool). pick b (next_at (as_step (parse (take n rest))) (at + (n + 1))) none) (le-ltb n (length rest) h)))

  module _ (first : List ℕ) (l : Answer) (k : n < length rest) (e' : first ≡ take n rest) (is : LineIs first l) where
    next_line : next_step text at ≡ next_at (as_step (means first l)) (at + (n + 1))
    next_line =
        next_is
        ∙ ap (λ (b : Bool). pick b (next_at (as_step (parse (take n rest))) (at + (n + 1))) none) (lt-ltb n (length rest) k)
        ∙ ap (λ (x : List ℕ). next_at (as_step (parse x)) (at + (n + 1))) (sym e')
        ∙ ap (λ (x : Line). next_at (as_step x) (at + (n + 1))) (sym is.holds)

    pub next_none : (x : Fault) → l ≡ Err x → result_of None ≡ given (next_step text at)
    unfolding means
    next_none x q = sym (ap given (next_line ∙ ap (λ (m : Answer). next_at (as_step (means first m)) (at + (n + 1))) q ∙ ap (λ (y : Option StepLine). next_at y (at + (n + 1))) (go x)))
      where
        go : (x : Fault) → as_step (means first (Err x)) ≡ none
        go fault_of.Unreadable = refl
        go (fault_of.Field o f) = refl

    module _ (c : held-type.Content) (q : l ≡ Ok c) where
      next_held : next_step text at ≡ next_at (step_in (held first c)) (at + (n + 1))
      unfolding means
      next_held = next_line ∙ ap (λ (m : Answer). next_at (as_step (means first m)) (at + (n + 1))) q

      pub next_step_lem : (s w : ℕ) → c ≡ contents.Step s w → result_of (Some (record { step = s; truths = w; next = at + (n + 1) })) ≡ given (next_step text at)
      next_step_lem s w z = sym (ap given (next_held ∙ ap (λ (x : held-type.Content). next_at (step_in (held first x)) (at + (n + 1))) z))

      pub next_other : OneOf (0 ∷ 1 ∷ 3 ∷ 4 ∷ []) (tag_of content-type.the_type c) → result_of None ≡ given (next_step text at)
      next_other z = sym (ap given (next_held ∙ ap (λ (x : Option StepLine). next_at x (at + (n + 1))) (go c z)))
        where
          go : (m : held-type.Content) → OneOf (0 ∷ 1 ∷ 3 ∷ 4 ∷ []) (tag_of content-type.the_type m) → step_in (held first m) ≡ none
          go (contents.Rule a b c) k = refl
          go (contents.Node a b) k = refl
          go (contents.Step a b) k = absurd (miss (0 ∷ 1 ∷ 3 ∷ 4 ∷ []) 2 tt k)
          go (contents.States a) k = refl
          go (contents.Slot a b c) k = refl

-- ---- and the steps from there on
abbrev pub handed : List ℕ → Option Next → List StepLine
handed text none = []
handed text (some x) = x.line ∷ steps_from text x.next

pub steps_next : (text : List ℕ) (at : ℕ) → steps_from text at ≡ handed text (next_step text at)
unfolding steps_from next_step next_in steps_of
steps_next text at = go (ltb (first_at 10 rest) (length rest)) refl
  where
    rest : List ℕ
    rest = drop at text

    found : Found 10 rest (first_at 10 rest)
    found = record { is = refl; inside = first_inside 10 rest }

    step_on : (x : Option StepLine) (p : ℕ) (r : List StepLine) → r ≡ steps_from text p → before x r ≡ handed text (next_at x p)
    step_on none p r e = refl
    step_on (some y) p r e = ap (y ∷◌) e

    go : (b : Bool) → ltb (first_at 10 rest) (length rest) ≡ b → steps_of (lines rest) ≡ handed text (pick b (next_at (as_step (parse (take (first_at 10 rest) rest))) (at + (first_at 10 rest + 1))) none)
    go true q =
        ap steps_of (lines_next rest (first_at 10 rest) found (ltb-true _ _ q))
        ∙ step_on (as_step (parse (take (first_at 10 rest) rest))) (at + (first_at 10 rest + 1)) (steps_of (lines (drop (first_at 10 rest + 1) rest)))
        (ap (λ (y : List ℕ). steps_of (lines y)) (drop-drop (first_at 10 rest + 1) at text))
    go false q = ap steps_of (lines_none rest (omega (arith, ltb-false (first_at 10 rest) (length rest) q, first_inside 10 rest)))

-- the next place lies behind the one asked for, and in the text or at its end
pub record Inside (text : List ℕ) (at : ℕ) (x : Next) : Type 0 where
  pub forward : at < x.next
  pub inside : x.next ≤ length text

pub next_inside : (text : List ℕ) (at : ℕ) (x : Next) → next_step text at ≡ some x → Inside text at x
unfolding next_step next_in
next_inside text at x e = go (ltb (first_at 10 rest) (length rest)) refl e
  where
    rest : List ℕ
    rest = drop at text

    some_is : {a b : Next} → some a ≡ some b → a ≡ b
    some_is p = cc

    none_some : {A : Type 0} {a : Next} → none ≡ some a → A
    none_some p = let z : ◌≡◌ {A = ℕ} 0 1 = cc in absurd (omega arith)

    here : (o : Option StepLine) (p : ℕ) → next_at o p ≡ some x → x.next ≡ p
    here none p e = none_some e
    here (some y) p e = ap (λ (z : Next). z.next) (sym (some_is e))

    go : (b : Bool) → ltb (first_at 10 rest) (length rest) ≡ b → pick b (next_at (as_step (parse (take (first_at 10 rest) rest))) (at + (first_at 10 rest + 1))) none ≡ some x → Inside text at x
    go true q e =
        let p : x.next ≡ at + (first_at 10 rest + 1) = here (as_step (parse (take (first_at 10 rest) rest))) (at + (first_at 10 rest + 1)) e in
        let k : first_at 10 rest < length rest = ltb-true (first_at 10 rest) (length rest) q in
        record { forward = omega arith; inside = omega (arith, length-drop at text) }
    go false q e = none_some e

-- ---- the book's steps
true_false : {A : Type 0} → true ≡ false → A
true_false e = let z : ◌≡◌ {A = ℕ} 0 1 = cc in absurd (omega arith)

accepted_refused : {B : Type 0} {b : Book} {n k : ℕ} → refused n k ≡ accepted b → B
accepted_refused e = let z : ◌≡◌ {A = ℕ} 0 1 = cc in absurd (omega arith)

-- a book that has begun its steps: no rule is unfinished
pub record Stepping (b : Book) : Type 0 where
  pub whole : is_nil b.due ≡ true
  pub steps : is_nil b.steps ≡ false

snoc_nil : {A : Type 0} (l : List A) (a : A) → is_nil (l ++ a ∷ []) ≡ false
snoc_nil [] a = refl
snoc_nil (b ∷ r) a = refl

pub begun : (n : ℕ) (b : Book) (u w : ℕ) → Passed b (step u w) → Stepping (add n b (step u w))
unfolding add stands
begun n b u w p = record { whole = p.here; steps = snoc_nil b.steps (record { number = u; truths = w }) }

-- the lines behind a step line are step lines
pub record StepOn (n : ℕ) (b : Book) (l : Line) (r : List StepLine) : Type 0 where
  pub stepping : Stepping (add_line n b l)
  pub head : (add_line n b l).head ≡ b.head
  pub steps : (add_line n b l).steps ++ r ≡ b.steps ++ before (as_step l) r

-- an opening line stands before all steps
opened_yet : (n : ℕ) (b : Book) (c : Content) → opening b ≡ true → is_nil b.steps ≡ true
unfolding opening
opened_yet n b c e = (both {a = is_nil b.labels} {b = is_nil b.steps} e).1

step_on : (n : ℕ) (b : Book) (c : Content) (r : List StepLine) → Stepping b → Passed b c → StepOn n b (right c) r
unfolding add stands
step_on n b (rule l k) r s p = true_false (sym (both {a = whole b} {b = is_nil b.steps} p.here).1 ∙ s.steps)
step_on n b (node op v) r s p = true_false (sym p.here ∙ ap not s.whole)
step_on n b (states c) r s p = true_false (sym (opened_yet n b (states c) p.here) ∙ s.steps)
step_on n b (slot l w) r s p = true_false (sym (opened_yet n b (slot l w) p.here) ∙ s.steps)
step_on n b (step u w) r s p = record { stepping = begun n b u w p; head = refl; steps = append_assoc b.steps (record { number = u; truths = w } ∷ []) r }

pub ends : (b c : Book) (k : ℕ) → read_on b k [] ≡ accepted c → b ≡ c
unfolding read_on
ends b c k e = go (whole b) e
  where
    go : (t : Bool) → pick t (accepted b) (refused 10 k) ≡ accepted c → b ≡ c
    go true e = accepted_inj e
    go false e = accepted_refused e

pub later : (b c : Book) (k : ℕ) (ls : List (List ℕ)) → Stepping b → read_on b k ls ≡ accepted c → (c.head ≡ b.head) × (c.steps ≡ b.steps ++ steps_of ls)
unfolding read_on steps_of
later b c k [] s e =
    let q : b ≡ c = ends b c k e in
    (ap (λ (x : Book). x.head) (sym q), ap (λ (x : Book). x.steps) (sym q) ∙ sym (mathlib.Core.List.append-nil b.steps))
later b c k (l ∷ ls) s e =
    let (o, r) = unless_none (fault b (parse l)) k _ c e in
    let p : PassedLine b (parse l) = passed b (parse l) o in
    let q : StepOn (length l + 1) b (parse l) (steps_of ls) =
    subst (λ (x : Line). StepOn (length l + 1) b x (steps_of ls)) (sym p.is) (step_on (length l + 1) b p.content (steps_of ls) s p.passed) in
    let (h, t) = later (add_line (length l + 1) b (parse l)) c (k + 1) ls q.stepping r in
    (h ∙ q.head, t ∙ q.steps)

-- a line before the steps: a step begins them, any other keeps none and goes on
pub record Begun (n : ℕ) (b : Book) (l : Line) : Type 0 where
  pub stepping : Stepping (add_line n b l)
  pub head : (add_line n b l).head ≡ b.head
  pub steps : (r : List StepLine) → (add_line n b l).steps ++ r ≡ before (as_step l) r

pub record NoneYet (n : ℕ) (b : Book) (l : Line) : Type 0 where
  pub steps : (add_line n b l).steps ≡ []
  pub head : (add_line n b l).head ≡ b.head + n

abbrev Begins : ℕ → Book → Line → Type 0
Begins n b l = mathlib.Core.Logic.◌⊎◌ (Begun n b l) (NoneYet n b l)

begins : (n : ℕ) (b : Book) (c : Content) → b.steps ≡ [] → Passed b c → Begins n b (right c)
unfolding add
begins n b (rule l k) s p = mathlib.Core.Logic.inr (record { steps = s; head = refl })
begins n b (node op v) s p = mathlib.Core.Logic.inr (record { steps = s; head = refl })
begins n b (states c) s p = mathlib.Core.Logic.inr (record { steps = s; head = refl })
begins n b (slot l w) s p = mathlib.Core.Logic.inr (record { steps = s; head = refl })
begins n b (step u w) s p = mathlib.Core.Logic.inl (record {
  stepping = begun n b u w p;
  head = refl;
  steps = λ r. ap (λ (x : List StepLine). (x ++ record { number = u; truths = w } ∷ []) ++ r) s;
})

begins_line : (n : ℕ) (b : Book) (l : Line) → b.steps ≡ [] → PassedLine b l → Begins n b l
begins_line n b l s p = subst (Begins n b) (sym p.is) (begins n b p.content s p.passed)

-- from the head of the accepted book, counted from where b's own head ends, its steps stand
pub record From (b c : Book) (t : List ℕ) : Type 0 where
  pub later : b.head ≤ c.head
  pub are : steps_of (lines (drop (c.head - b.head) t)) ≡ c.steps

from_none : (b c : Book) (k : ℕ) → b.steps ≡ [] → read_on b k [] ≡ accepted c → From b c []
unfolding steps_of parts
from_none b c k s e =
    let q : b ≡ c = ends b c k e in
    let hd : b.head ≡ c.head = ap (λ (x : Book). x.head) q in
    let z : c.head - b.head ≡ 0 = omega arith in
    record { later = omega arith; are = rw z (sym s ∙ ap (λ (x : Book). x.steps) q) }

-- the first line of a text and what it leaves
module _ (b c : Book) (k : ℕ) (t : List ℕ) (n : ℕ) (cut : lines t ≡ take n t ∷ lines (drop (n + 1) t)) (size : length (take n t) ≡ n) where
  abbrev first : Line
  first = parse (take n t)

  abbrev next : Book
  next = add_line (length (take n t) + 1) b first

  abbrev others : List (List ℕ)
  others = lines (drop (n + 1) t)

  from_line : read_on next (k + 1) others ≡ accepted c → (next.steps ≡ [] → From next c (drop (n + 1) t)) → Begins (length (take n t) + 1) b first → From b c t
  unfolding steps_of
  from_line a ih (mathlib.Core.Logic.inl g) =
      let (h, ss) = later next c (k + 1) others g.stepping a in
      let z : c.head - b.head ≡ 0 = omega (arith, h, g.head) in
      record { later = omega (arith, h, g.head); are = rw z (ap steps_of cut ∙ unfolded ∙ sym (ss ∙ g.steps (steps_of others))) }
    where
      unfolded : steps_of (take n t ∷ others) ≡ before (as_step first) (steps_of others)
      unfolded = refl
  from_line a ih (mathlib.Core.Logic.inr g) =
      let f : From next c (drop (n + 1) t) = ih g.steps in
      let z : n + 1 + (c.head - next.head) ≡ c.head - b.head = omega (arith, f.later, size, g.head) in
      let y : drop (c.head - next.head) (drop (n + 1) t) ≡ drop (c.head - b.head) t = drop-drop (c.head - next.head) (n + 1) t ∙ ap (λ (i : ℕ). drop i t) z in
      record { later = omega (arith, f.later, g.head); are = ap (λ (x : List ℕ). steps_of (lines x)) (sym y) ∙ f.are }

from : (fuel : ℕ) (b c : Book) (k : ℕ) (t : List ℕ) → length t ≤ fuel → ended t ≡ true → b.steps ≡ [] → read_on b k (lines t) ≡ accepted c → From b c t
unfolding read_on steps_of parts
from zero b c k [] h d s e = from_none b c k s e
from zero b c k (x ∷ r) h d s e = absurd (omega arith)
from (suc fuel) b c k [] h d s e = from_none b c k s e
from (suc fuel) b c k (x ∷ r) h d s e =
    let t : List ℕ = x ∷ r in
    let n : ℕ = first_at 10 t in
    let found : Found 10 t n = record { is = refl; inside = first_inside 10 t } in
    let cut : lines t ≡ take n t ∷ lines (drop (n + 1) t) = lines_next t n found (ended_found t d (omega arith)) in
    let size : length (take n t) ≡ n = length-take-le n t (first_inside 10 t) in
    let whole-line : read_on b k (take n t ∷ lines (drop (n + 1) t)) ≡ accepted c = subst (λ (y : List (List ℕ)). read_on b k y ≡ accepted c) cut e in
    let (o, a) = unless_none (fault b (parse (take n t))) k _ c whole-line in
    let b' : Book = add_line (length (take n t) + 1) b (parse (take n t)) in
    from_line b c k t n cut size a
    (λ (q : b'.steps ≡ []). from fuel b' c (k + 1) (drop (n + 1) t) (omega (arith, length-drop (n + 1) t)) (ended_drop (n + 1) t d) q a)
    (begins_line (length (take n t) + 1) b (parse (take n t)) s (passed b (parse (take n t)) o))

-- from where its answer says that they begin, the text's step lines are the book's steps in order
pub steps_of_book : (text : List ℕ) (b : Book) → read text ≡ accepted b → steps_from text b.head ≡ b.steps
unfolding steps_from
steps_of_book text b e =
    let z : b.head ≡ b.head - 0 = omega arith in
    ap (λ (i : ℕ). steps_of (lines (drop i text))) z ∙ (from (length text) empty b 0 text (omega arith) (accepted_ended text b e) refl (accepted_lines text b e)).are
