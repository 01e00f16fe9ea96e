-- Reading into lent tables: one law for each return.
use mathlib.Core.Path.{◌≡◌, refl, sym, ap, ap₂, subst, ◌∙◌}
use mathlib.Core.Bool.{Bool, true, false, ◌&&◌}
use mathlib.Core.List.{List, [], ◌∷◌}
use mathlib.Core.Option.{Option, none, some}
use Prim.Native.Nat.{ℕ, ◌+◌, ◌≤◌}
use native.Mathlib.Omega.{arith}
use borrow.Author.Tests.{le-leb, leb-true}
use lib.Dec.{leb}
use lib.ListN.{length}
use Rattle.terms.specs.Choice.{pick}
use Rattle.line.specs.Text.{lines}
use Rattle.line.specs.Line.{parse}
use Rattle.line.proofs.Parts.{lines_few}
use Rattle.std.specs.Prelude.{Result, Ok, Err}
use Rattle.std.specs.Prelude.{Option as Opt}
use Rattle.result.specs.Refusal.{number_of}
use Rattle.result.specs.declared.Refusal.{Refusal}
use Rattle.result.specs.declared.Refusal.TheVariants as why
use Rattle.line.specs.Line.{Line, bad, wrong, right, sort_of, refusal_of}
use Rattle.line.specs.declared.line.Flaw.{Flaw}
use Rattle.line.specs.declared.line.Flaw.TheVariants as flaw
use Rattle.book.specs.Book.{Book, empty, whole, or_else, order, fault, first_fault, stands, opens, within, add_line, unless, read_on, ended, Outcome, accepted, refused, contents, refusal, book_result, read}
use Rattle.book.specs.Answer as Checking
use Rattle.book.specs.declared.check.Read.{Read}
use Rattle.book.specs.declared.check.Refused.{Refused}
use Rattle.reader.specs.BookTables.{BookTables, SlotTables, written, slots_written, roomy, roomy_slots, read_into, after, slots_after}
use Rattle.reader.specs.FillingPass.{Fillable, FilledTables, SlotsFillable, FilledSlots}
use Rattle.reader.specs.Answer.{Roomy, RoomySlots, Reads}
use Rattle.reader.proofs.Sounds.{both}
use Rattle.reader.proofs.Runs.{roomy_is, roomy_slots_is}

pub has_room_lem : (t : BookTables) → Roomy t → roomy t ≡ true
unfolding roomy
has_room_lem t r =
    rw (
      le-leb 2048 (length t.labels) r.labels,
      le-leb 64 (length t.lens) r.lens,
      le-leb 64 (length t.kinds) r.kinds,
      le-leb 64 (length t.firsts) r.firsts,
      le-leb 64 (length t.counts) r.counts,
      le-leb 1024 (length t.ops) r.ops,
      le-leb 1024 (length t.nums) r.nums,
    ) refl

pub has_slot_room : (u : SlotTables) → RoomySlots u → roomy_slots u ≡ true
unfolding roomy_slots
has_slot_room u r =
    rw (le-leb 1024 (length u.names) r.names, le-leb 32 (length u.lens) r.lens, le-leb 32 (length u.widths) r.widths) refl

pub into_roomy : (text : List ℕ) (t : BookTables) (u : SlotTables) → Roomy t → RoomySlots u → read_into text t u ≡ read text
unfolding read_into
into_roomy text t u r s = ap₂ (λ (b c : Bool). pick (b && c) (read text) (refused 1 0)) (has_room_lem t r) (has_slot_room u s)

-- ---- a table that is too short
abbrev pub short : Refused
short = record { refusal = why.Short; line = 0 }

module _ (text : List ℕ) (t : BookTables) (u : SlotTables) (r : Bool) (is : r ≡ (roomy t && roomy_slots u)) where
  pub no_room : r ≡ false → Reads text t u (Err short) t u
  unfolding read_into after slots_after
  no_room e = record { answer = rw (← is, e) refl; tables = rw (← is, e) refl; slots = rw (← is, e) refl }

  pub room_is : r ≡ true → Roomy t × RoomySlots u
  room_is e = let (p, q) = both (sym is ∙ e) in (roomy_is t p, roomy_slots_is u q)

-- ---- by what the check answers
result_refused : (o : Outcome) (n k : ℕ) → refusal n k ≡ book_result o → o ≡ refused n k
result_refused (accepted b) n k e = let z : ◌≡◌ {A = ℕ} 0 1 = cc in absurd (omega arith)
result_refused (refused m j) n k e = go e
  where
    go : refusal n k ≡ refusal m j → refused m j ≡ refused n k
    go e = cc

-- a book's counts, the place of its steps and its states
pub record Counted (r n h m : ℕ) (c : Opt ℕ) (b : Book) : Type 0 where
  pub rules : r ≡ length b.labels
  pub nodes : n ≡ length b.ops
  pub head : h ≡ b.head
  pub slots : m ≡ length b.names
  pub states : c ≡ b.states

result_contents : (o : Outcome) (r n h m : ℕ) (c : Opt ℕ) → contents r n h m c ≡ book_result o → (b : Book) × (o ≡ accepted b) × Counted r n h m c b
result_contents (accepted b) r n h m c e = (b, refl, go e)
  where
    go : contents r n h m c ≡ contents (length b.labels) (length b.ops) b.head (length b.names) b.states → Counted r n h m c b
    go e = record { rules = cc; nodes = cc; head = cc; slots = cc; states = cc }
result_contents (refused k j) r n h m c e = let z : ◌≡◌ {A = ℕ} 0 1 = cc in absurd (omega arith)

module _ (text : List ℕ) (c : Result Read Refused) (is : Checking.result_of c ≡ book_result (read text)) (d : Read) (e : c ≡ Ok d) where
  pub read_fillable : (t : BookTables) → Roomy t → Fillable text d.steps_at t
  read_fillable t room =
      let (b, o, a) = result_contents (read text) d.rules d.nodes d.steps_at d.slots d.states (sym (ap Checking.result_of e) ∙ is) in
      record { book = b; is = o; begin = a.head; room = has_room_lem t room }

  pub read_slots_fillable : (u : SlotTables) → RoomySlots u → SlotsFillable text d.slots u
  read_slots_fillable u room =
      let (b, o, a) = result_contents (read text) d.rules d.nodes d.steps_at d.slots d.states (sym (ap Checking.result_of e) ∙ is) in
      record { book = b; is = o; many = a.slots; room = has_slot_room u room }

module _ (text : List ℕ) (t : BookTables) (u : SlotTables) (room : Roomy t × RoomySlots u) (c : Result Read Refused) (is : Checking.result_of c ≡ book_result (read text)) where
  into : read_into text t u ≡ read text
  into = into_roomy text t u room.0 room.1

  pub read_refused : (x : Refused) → c ≡ Err x → Reads text t u (Err x) t u
  unfolding after slots_after
  read_refused x e =
      let o : read_into text t u ≡ refused (number_of x.refusal) x.line =
      into ∙ result_refused (read text) (number_of x.refusal) x.line (sym (ap Checking.result_of e) ∙ is) in
      record { answer = rw o refl; tables = rw o refl; slots = rw o refl }

  module _ (d : Read) (e : c ≡ Ok d) where
    pub read_good : (t' : BookTables) (u' : SlotTables) → FilledTables text t t' → FilledSlots text u u' → Reads text t u (Ok d) t' u'
    unfolding after slots_after
    read_good t' u' f g =
        let (b, o, a) = result_contents (read text) d.rules d.nodes d.steps_at d.slots d.states (sym (ap Checking.result_of e) ∙ is) in
        record {
          answer = sym (ap Checking.result_of e) ∙ is ∙ ap book_result (sym into);
          tables = f.is b o ∙ ap (λ (x : Outcome). after x t) (sym (into ∙ o));
          slots = g.is b o ∙ ap (λ (x : Outcome). slots_after x u) (sym (into ∙ o));
        }

-- ---- for callers: what an answer says
-- the book that was read: where it stands, and what the answer counts of it
pub record ReadBack (text : List ℕ) (t : BookTables) (u : SlotTables) (t' : BookTables) (u' : SlotTables) (a : Read) : Type 0 where
  pub book : Book
  pub is : read_into text t u ≡ accepted book
  pub tables : t' ≡ written book t
  pub slots : u' ≡ slots_written book u
  pub counted : Counted a.rules a.nodes a.steps_at a.slots a.states book

pub read_inv : (text : List ℕ) (t : BookTables) (u : SlotTables) (t' : BookTables) (u' : SlotTables) (a : Read) → Reads text t u (Ok a) t' u' → ReadBack text t u t' u' a
unfolding after slots_after
read_inv text t u t' u' a p =
    let (b, o, n) = result_contents (read_into text t u) a.rules a.nodes a.steps_at a.slots a.states p.answer in
    record {
      book = b;
      is = o;
      tables = p.tables ∙ ap (λ (x : Outcome). after x t) o;
      slots = p.slots ∙ ap (λ (x : Outcome). slots_after x u) o;
      counted = n;
    }

pub refused_inv : (text : List ℕ) (t : BookTables) (u : SlotTables) (t' : BookTables) (u' : SlotTables) (e : Refused) → Reads text t u (Err e) t' u'
    → (read_into text t u ≡ refused (number_of e.refusal) e.line) × (t' ≡ t) × (u' ≡ u)
unfolding after slots_after
refused_inv text t u t' u' e p =
    let o : read_into text t u ≡ refused (number_of e.refusal) e.line = result_refused (read_into text t u) (number_of e.refusal) e.line p.answer in
    (o, p.tables ∙ ap (λ (x : Outcome). after x t) o, p.slots ∙ ap (λ (x : Outcome). slots_after x u) o)

-- ---- a refusal's number and line are small
pub record Small (n k : ℕ) : Type 0 where
  pub number : n ≤ 25
  pub line : k ≤ 65535

refused_is : {n k m j : ℕ} → refused n k ≡ refused m j → (n ≡ m) × (k ≡ j)
refused_is e = (cc, cc)

accepted_not : {A : Type 0} {b : Book} {n k : ℕ} → accepted b ≡ refused n k → A
accepted_not e = let z : ◌≡◌ {A = ℕ} 0 1 = cc in absurd (omega arith)

fault_low : (b : Book) (l : Line) (f : Refusal) → fault b l ≡ some f → number_of f ≤ 25
unfolding fault first_fault
fault_low b l f e = go l e
  where
    low : (k : Refusal) → number_of k ≤ 25 → some k ≡ some f → number_of f ≤ 25
    low k h e = let z : k ≡ f = cc in subst (λ (x : Refusal). number_of x ≤ 25) z h

    flaw_low : (g : Flaw) → number_of (refusal_of g) ≤ 25
    flaw_low flaw.Label = omega arith
    flaw_low flaw.Number = omega arith

    by : (t u : Bool) (r : Option Refusal) → (r ≡ some f → number_of f ≤ 25) → or_else (pick t none (some why.Place)) (or_else (pick u none (some why.Unopened)) r) ≡ some f → number_of f ≤ 25
    by false u r h e = low why.Place (omega arith) e
    by true false r h e = low why.Unopened (omega arith) e
    by true true r h e = h e

    limited : (v : Bool) → or_else (pick v none (some why.Limit)) none ≡ some f → number_of f ≤ 25
    limited true e = let z : ◌≡◌ {A = ℕ} 0 1 = cc in absurd (omega arith)
    limited false e = low why.Limit (omega arith) e

    go : (l : Line) → first_fault order b l ≡ some f → number_of f ≤ 25
    go bad e = low why.Word (omega arith) e
    go (wrong s g) e = by (stands b s) (opens b s) (some (refusal_of g)) (low (refusal_of g) (flaw_low g)) e
    go (right c) e = by (stands b (sort_of c)) (opens b (sort_of c)) _ (limited (within b (sort_of c))) e

read_small : (b : Book) (i : ℕ) (ls : List (List ℕ)) (n k : ℕ) → i + length ls ≤ 65535 → read_on b i ls ≡ refused n k → Small n k
unfolding read_on
read_small b i [] n k h e = go (whole b) e
  where
    go : (t : Bool) → pick t (accepted b) (refused 10 i) ≡ refused n k → Small n k
    go true e = accepted_not e
    go false e = let (p, q) = refused_is e in record { number = omega arith; line = omega arith }
read_small b i (l ∷ ls) n k h e = go (fault b (parse l)) refl e (read_small (add_line (length l + 1) b (parse l)) (i + 1) ls n k (omega arith))
  where
    go : {o : Outcome} (f : Option Refusal) → fault b (parse l) ≡ f → unless f i o ≡ refused n k → (o ≡ refused n k → Small n k) → Small n k
    go none x e ih = ih e
    go (some f) x e ih = let (p, q) = refused_is e in record { number = omega (arith, fault_low b (parse l) f x); line = omega arith }

pub refused_small : (text : List ℕ) (t : BookTables) (u : SlotTables) (n k : ℕ) → read_into text t u ≡ refused n k → Small n k
unfolding read_into read
refused_small text t u n k e = go (roomy t && roomy_slots u) (leb (length text) 65535) refl (ended text) e
  where
    low : (m : ℕ) → m ≤ 25 → refused m 0 ≡ refused n k → Small n k
    low m h e = let (p, q) = refused_is e in record { number = omega arith; line = omega arith }

    go : (a b : Bool) → leb (length text) 65535 ≡ b → (c : Bool)
        → pick a (pick b (pick c (read_on empty 0 (lines text)) (refused 4 0)) (refused 3 0)) (refused 1 0) ≡ refused n k
        → Small n k
    go false b p c e = low 1 (omega arith) e
    go true false p c e = low 3 (omega arith) e
    go true true p false e = low 4 (omega arith) e
    go true true p true e = read_small empty 0 (lines text) n k (omega (arith, leb-true (length text) 65535 p, lines_few text)) e
