-- The check over a book's lines: what its loop has found so far, and one law for each return.
use mathlib.Core.Path.{◌≡◌, refl, sym, ap, ap₂, subst, ◌∙◌}
use mathlib.Core.Bool.{Bool, true, false}
use mathlib.Core.List.{List, [], ◌∷◌}
use mathlib.Core.Option.{Option, none, some}
use Prim.Native.Nat.{ℕ, zero, suc, ◌+◌, ◌-◌, ◌≤◌, ◌<◌}
use native.Mathlib.Omega.{arith}
use borrow.Author.Tests.{le-leb, lt-leb}
use lib.Dec.{eqb}
use lib.ListN.{length, get_or, take, drop, length-drop, drop_of_length-le}
use lib.Seq.{drop-drop, length-take-le}
use Rattle.terms.specs.Choice.{pick}
use Rattle.line.specs.Text.{lines, parts, first_at, Found}
use Rattle.line.specs.Line.{Line, bad, wrong, right, rule, node, step, states, slot, parse}
use Rattle.line.specs.Means.{means}
use Rattle.line.specs.Means.{Answer}
use Rattle.line.proofs.Parts.{lines_next}
use Rattle.book.specs.Book.{Book, empty, fault, add, add_line, Outcome, refusal, book_result, unless, read_on, ended, read}
use Rattle.book.specs.Answer.{result_of}
use Rattle.book.specs.Checked.{Lined, HoldsBook, Agrees, TakesLine}
use Rattle.book.specs.declared.state.State.{State}
use Rattle.std.specs.Prelude.{Result, Ok, Err}
use Rattle.result.specs.Refusal.{number_of}
use Rattle.result.specs.declared.Refusal.{Refusal}
use Rattle.result.specs.declared.Refusal.TheVariants as why
use Rattle.book.specs.declared.check.Read.{Read}
use Rattle.book.specs.declared.check.Refused.{Refused}
use Rattle.book.proofs.States.{inside, outside}

-- ---- a text that ends in LF: so does what stands from any place on, and where something stands an LF stands too
ended_tail : (c : ℕ) (r : List ℕ) → ended (c ∷ r) ≡ true → ended r ≡ true
unfolding ended
ended_tail c [] e = refl
ended_tail c (d ∷ r) e = e

pub ended_drop : (i : ℕ) (t : List ℕ) → ended t ≡ true → ended (drop i t) ≡ true
ended_drop zero t e = e
ended_drop (suc i) [] e = e
ended_drop (suc i) (c ∷ r) e = ended_drop i r (ended_tail c r e)

pub ended_found : (t : List ℕ) → ended t ≡ true → 1 ≤ length t → first_at 10 t < length t
unfolding ended first_at
ended_found [] e h = absurd (omega arith)
ended_found (c ∷ []) e h = go (eqb c 10) e
  where
    go : (p : Bool) → p ≡ true → pick p 0 1 < 1
    go true q = omega arith
    go false q = let z : ◌≡◌ {A = ℕ} 0 1 = cc in absurd (omega arith)
ended_found (c ∷ d ∷ r) e h = go (eqb c 10) (ended_found (d ∷ r) e (omega arith))
  where
    go : (p : Bool) → first_at 10 (d ∷ r) < length (d ∷ r) → pick p 0 (suc (first_at 10 (d ∷ r))) < suc (length (d ∷ r))
    go true q = omega arith
    go false q = omega arith

-- ---- the lines before `at` are read: `line` of them, into a book that the state stands for
pub record Run (text : List ℕ) (s : State) (at line : ℕ) : Type 0 where
  pub book : Book
  pub holds : HoldsBook book s
  pub same : read_on empty 0 (lines text) ≡ read_on book line (lines (drop at text))
  pub lined : Lined text
  pub near : at ≤ length text + 1
  pub counted : line ≤ at
  pub head : s.head ≤ at

-- one line more of a text
pub read_line : (b : Book) (k : ℕ) (text rest first : List ℕ) (at n : ℕ)
    → ended text ≡ true
    → at < length text
    → rest ≡ drop at text
    → Found 10 rest n
    → first ≡ take n rest
    → read_on b k (lines (drop at text)) ≡ unless (fault b (parse first)) k (read_on (add_line (n + 1) b (parse first)) (k + 1) (lines (drop (at + (n + 1)) text)))
unfolding read_on
read_line b k text rest first at n d h e f e' =
    let long : 1 ≤ length rest = subst (λ (l : List ℕ). 1 ≤ length l) (sym e) (omega (arith, length-drop at text)) in
    let here : first_at 10 rest < length rest = ended_found rest (ap ended e ∙ ended_drop at text d) long in
    let cut : lines rest ≡ take n rest ∷ lines (drop (n + 1) rest) = lines_next rest n f (omega (arith, here, f.is)) in
    let size : length first ≡ n = ap length e' ∙ length-take-le n rest f.inside in
    let go : drop (n + 1) rest ≡ drop (at + (n + 1)) text = ap (drop (n + 1)) e ∙ drop-drop (n + 1) at text in
    let all : lines (drop at text) ≡ first ∷ lines (drop (at + (n + 1)) text) = ap lines (sym e) ∙ cut ∙ ap₂ ◌∷◌ (sym e') (ap lines go) in
    rw (all, size) refl

head_grows : (n : ℕ) (b : Book) (l : Line) → (add_line n b l).head ≤ b.head + n
unfolding add
head_grows n b bad = omega arith
head_grows n b (wrong o f) = omega arith
head_grows n b (right (rule l k)) = omega arith
head_grows n b (right (node op v)) = omega arith
head_grows n b (right (step s w)) = omega arith
head_grows n b (right (states c)) = omega arith
head_grows n b (right (slot x w)) = omega arith

next_inj : {s s' : State} → ◌≡◌ {A = Result State Refusal} (Ok s) (Ok s') → s ≡ s'
next_inj e = cc

faulty_inj : {k k' : Refusal} → ◌≡◌ {A = Result State Refusal} (Err k) (Err k') → k ≡ k'
faulty_inj e = cc

next_faulty : {s : State} {k : Refusal} {B : Type 0} → ◌≡◌ {A = Result State Refusal} (Ok s) (Err k) → B
next_faulty e = let z : ◌≡◌ {A = ℕ} 0 1 = cc in absurd (omega arith)

abbrev refused_at : Refusal → ℕ → Result Read Refused
refused_at k n = Err (record { refusal = k; line = n })

module _ (text : List ℕ) (s : State) (at line n : ℕ) (rest first : List ℕ) (l : Answer) (r : Result State Refusal)
    (v : Run text s at line) (h : at < length text) (e : rest ≡ drop at text) (f : Found 10 rest n)
    (e' : first ≡ take n rest) (m : means first l ≡ parse first) (t : TakesLine s l (n + 1) r) where
  -- the book with the line added, and what the lines behind it make of that
  abbrev next : Book
  next = add_line (n + 1) v.book (parse first)

  abbrev then : Outcome
  then = read_on next (line + 1) (lines (drop (at + (n + 1)) text))

  agrees : Agrees (n + 1) v.book (parse first) (fault v.book (parse first)) r
  agrees = subst (λ (p : Line). Agrees (n + 1) v.book p (fault v.book p) r) m (t.is first v.book v.holds)

  on : read_on empty 0 (lines text) ≡ unless (fault v.book (parse first)) line then
  on = v.same ∙ read_line v.book line text rest first at n v.lined.ends h e f e'

  pub turn_fault : (k : Refusal) → r ≡ Err k → result_of (refused_at k (line + 1)) ≡ book_result (read_on empty 0 (lines text))
  turn_fault k q = sym (ap book_result on ∙ go (fault v.book (parse first)) agrees)
    where
      go : (o : Option Refusal) → Agrees (n + 1) v.book (parse first) o r → book_result (unless o line then) ≡ refusal (number_of k) (line + 1)
      go none a = next_faulty (sym a.1 ∙ q)
      go (some x) a = ap (λ (i : Refusal). refusal (number_of i) (line + 1)) (faulty_inj (sym a ∙ q))

  rest_short : n ≤ length text - at
  rest_short = subst (λ (i : ℕ). n ≤ i) (ap length e ∙ length-drop at text) f.inside

  pub turn_next : (s' : State) → r ≡ Ok s' → Run text s' (at + (n + 1)) (line + 1)
  turn_next s' q = go (fault v.book (parse first)) refl agrees
    where
      go : (o : Option Refusal) → fault v.book (parse first) ≡ o → Agrees (n + 1) v.book (parse first) o r → Run text s' (at + (n + 1)) (line + 1)
      go none p a =
          let u : a.0 ≡ s' = next_inj (sym a.1 ∙ q) in
          let hd : s'.head ≡ next.head = subst (λ (x : State). x.head ≡ next.head) u a.2.head in
          record {
            book = next;
            holds = subst (HoldsBook next) u a.2;
            same = on ∙ ap (λ (x : Option Refusal). unless x line then) p;
            lined = v.lined;
            near = omega (arith, rest_short);
            counted = omega (arith, v.counted);
            head = omega (arith, head_grows (n + 1) v.book (parse first), v.head, v.holds.head);
          }
      go (some x) p a = next_faulty (sym q ∙ a)

module _ (text : List ℕ) (s : State) (at line : ℕ) (v : Run text s at line) where
  pub run_unfinished : length text ≤ at → 0 < s.due.depth → result_of (refused_at why.Unfinished line) ≡ book_result (read_on empty 0 (lines text))
  unfolding read_on parts
  run_unfinished h d = sym (ap book_result v.same ∙ rw (drop_of_length-le text h, inside v.book s v.holds d) refl)

  pub run_done : length text ≤ at → s.due.depth ≤ 0 → result_of (Ok (record { rules = s.rules; nodes = s.nodes; steps_at = s.head; slots = s.slots; states = s.states })) ≡ book_result (read_on empty 0 (lines text))
  unfolding read_on parts
  run_done h d = sym (ap book_result v.same ∙ rw (drop_of_length-le text h, outside v.book s v.holds d, v.holds.rules, v.holds.nodes, v.holds.head, v.holds.slots, v.holds.states) refl)

-- ---- the end of a text
pub ended_empty : (t : List ℕ) → length t < 1 → true ≡ ended t
unfolding ended
ended_empty [] h = refl
ended_empty (c ∷ r) h = absurd (omega arith)

pub last_byte : (t : List ℕ) → 1 ≤ length t → eqb (get_or t (length t - 1) 0) 10 ≡ ended t
unfolding ended
last_byte [] h = absurd (omega arith)
last_byte (c ∷ []) h = refl
last_byte (c ∷ d ∷ r) h =
    let z : length (c ∷ d ∷ r) - 1 ≡ suc (length (d ∷ r) - 1) = omega arith in
    ap (λ (i : ℕ). eqb (get_or (c ∷ d ∷ r) i 0) 10) z ∙ last_byte (d ∷ r) (omega arith)

-- ---- the whole
module _ (t : List ℕ) where
  pub check_long : 65535 < length t → result_of (refused_at why.Long 0) ≡ book_result (read t)
  unfolding read
  check_long h = rw (lt-leb (length t) 65535 h) refl

  pub check_ended : (e : Bool) (r : Result Read Refused) → length t ≤ 65535 → e ≡ ended t → e ≡ true → result_of r ≡ book_result (read_on empty 0 (lines t)) → result_of r ≡ book_result (read t)
  unfolding read
  check_ended e r h p q c = rw (le-leb (length t) 65535 h, ← p, q) c

  pub check_unended : (e : Bool) → length t ≤ 65535 → e ≡ ended t → e ≡ false → result_of (refused_at why.Unended 0) ≡ book_result (read t)
  unfolding read
  check_unended e h p q = rw (le-leb (length t) 65535 h, ← p, q) refl
