-- A line taken into the state: one law for each return.
use mathlib.Core.Path.{◌≡◌, refl, sym, ap, subst, ◌∙◌}
use mathlib.Core.Bool.{Bool, true, false, ◌&&◌, not}
use mathlib.Core.List.{List, [], ◌∷◌, ◌++◌}
use mathlib.Core.Option.{Option, none, some}
use Prim.Native.Nat.{ℕ, zero, suc, ◌+◌, ◌≤◌, ◌<◌}
use native.Mathlib.Omega.{arith}
use native.Mathlib.Numerals.{add-one}
use borrow.Author.Tests.{ne_eqb, lt-ltb, ltb-true, leb-true}
use lib.Dec.{eqb, ltb, leb}
use lib.ListN.{length, take, drop, length-append}
use Rattle.terms.specs.Limits.{book_nodes, deepest, rule_nodes}
use Rattle.std.specs.Prelude.{None, Some, Result, Ok, Err}
use Rattle.result.specs.declared.Refusal.{Refusal}
use Rattle.result.specs.declared.Refusal.TheVariants as why
use Rattle.line.specs.Line.{right, sort_of, refusal_of}
use Rattle.line.specs.Means.{Answer, held, sort_in, means}
use Rattle.line.specs.declared.line.Sort.{Sort}
use Rattle.line.specs.declared.line.Sort.TheVariants as sort
use Rattle.line.specs.declared.line.Flaw.{Flaw}
use Rattle.line.specs.declared.line.Fault.{Fault}
use Rattle.line.specs.declared.line.Fault.TheVariants.{Unreadable, Field}
use Rattle.line.specs.declared.line.Content.{Content}
use Rattle.line.specs.declared.line.Content.TheVariants as contents
use Rattle.terms.specs.declared.kind.Kind.{Kind}
use Rattle.terms.specs.Choice.{pick}
use Rattle.line.proofs.Lines.{sort_held}
use Rattle.book.specs.Book.{Book, empty, is_nil, whole, head_of, last_of, bump, spend, stands, opens, within, or_else, first_fault, fault, add}
use Rattle.book.specs.Checked.{HoldsBook, Inside, NodeRoom, MayStand, Opens, Within, misplaced, error_in, Placed, Refuses, Addable, Adds, Agrees, TakesLine, TakesContent}
use Rattle.book.specs.Due.{due_of, depths}
use Rattle.book.specs.declared.due.Due.{Due}
use Rattle.book.specs.declared.state.State.{State}

false_true : {B : Type 0} → true ≡ false → B
false_true e = let z : ◌≡◌ {A = ℕ} 0 1 = cc in absurd (omega arith)

pub starts : (d : Due) → d.depth ≡ 0 → HoldsBook empty (record { rules = 0; nodes = 0; own = 0; due = d; stepping = false; head = 0; slots = 0; states = None })
unfolding last_of due_of
starts d e = record { rules = refl; nodes = refl; own = refl; due = rw e refl; begun = λ z. false_true z; stepping = refl; head = refl; slots = refl; states = refl }

snoc_length : {A : Type 0} (l : List A) (a : A) → length l + 1 ≡ length (l ++ a ∷ [])
snoc_length l a = sym (length-append l (a ∷ []))

pub last_snoc : (l : List ℕ) (c : ℕ) → last_of (l ++ c ∷ []) ≡ c
unfolding last_of
last_snoc [] c = refl
last_snoc (a ∷ []) c = refl
last_snoc (a ∷ b ∷ r) c = last_snoc (b ∷ r) c

pub bump_length : (l : List ℕ) → length (bump l) ≡ length l
unfolding bump
bump_length [] = refl
bump_length (c ∷ []) = refl
bump_length (c ∷ d ∷ r) = ap suc (bump_length (d ∷ r))

pub last_bump : (l : List ℕ) → 1 ≤ length l → last_of (bump l) ≡ last_of l + 1
unfolding last_of bump
last_bump [] h = absurd (omega arith)
last_bump (c ∷ []) h = sym (add-one c)
last_bump (c ∷ d ∷ []) h = sym (add-one d)
last_bump (c ∷ d ∷ e ∷ r) h = last_bump (d ∷ e ∷ r) (omega arith)

nil_snoc : {A : Type 0} (l : List A) (a : A) → true ≡ not (is_nil (l ++ a ∷ []))
nil_snoc [] a = refl
nil_snoc (b ∷ r) a = refl

and_true : (t : Bool) → t ≡ (t && true)
and_true true = refl
and_true false = refl

module _ (b : Book) (s : State) (h : HoldsBook b s) where
  pub inside : 0 < s.due.depth → whole b ≡ false
  unfolding due_of
  inside k = ap is_nil h.due ∙ go s.due.depth k
    where
      go : (d : ℕ) → 0 < d → is_nil (due_of d s.due.bits) ≡ false
      go zero k = absurd (omega arith)
      go (suc d) k = refl

  pub outside : s.due.depth ≤ 0 → whole b ≡ true
  unfolding due_of
  outside k = ap is_nil h.due ∙ go s.due.depth k
    where
      go : (d : ℕ) → d ≤ 0 → is_nil (due_of d s.due.bits) ≡ true
      go zero k = refl
      go (suc d) k = absurd (omega arith)

  next_depth : head_of b.due ≡ s.due.depth
  unfolding due_of
  next_depth = ap head_of h.due ∙ go s.due.depth
    where
      go : (d : ℕ) → head_of (due_of d s.due.bits) ≡ d
      go zero = refl
      go (suc d) = refl

  no_steps : s.stepping ≡ false → is_nil b.steps ≡ true
  no_steps k = go (is_nil b.steps) (sym h.stepping ∙ k)
    where
      go : (t : Bool) → not t ≡ false → t ≡ true
      go true e = refl
      go false e = sym e

  whole_is : eqb s.due.depth 0 ≡ whole b
  unfolding due_of
  whole_is = go s.due.depth ∙ sym (ap is_nil h.due)
    where
      go : (d : ℕ) → eqb d 0 ≡ is_nil (due_of d s.due.bits)
      go zero = refl
      go (suc d) = ne_eqb (suc d) 0 (λ (z : suc d ≡ 0). omega arith)

inside_is : (d : ℕ) → ltb 0 d ≡ not (eqb d 0)
inside_is zero = refl
inside_is (suc d) = lt-ltb 0 (suc d) (omega arith) ∙ ap not (sym (ne_eqb (suc d) 0 (λ (z : suc d ≡ 0). omega arith)))

-- ---- the tests by a line's sort
module _ (s : State) (o : Sort) where
  pub rule_stands : o ≡ sort.Rule → s.stepping ≡ false → MayStand s o (eqb s.due.depth 0)
  unfolding stands
  rule_stands e t = record {
    is = λ b h. whole_is b s h ∙ rw (e, no_steps b s h t) (and_true (whole b));
    inside = λ _. rw e tt;
  }

  pub node_stands : o ≡ sort.Node → MayStand s o (ltb 0 s.due.depth)
  unfolding stands
  node_stands e = record {
    is = λ b h. inside_is s.due.depth ∙ rw e (ap not (whole_is b s h));
    inside = λ z. rw e (ltb-true 0 s.due.depth z);
  }

  pub step_stands : o ≡ sort.Step → MayStand s o (eqb s.due.depth 0)
  unfolding stands
  step_stands e = record { is = λ b h. rw e (whole_is b s h); inside = λ _. rw e tt }

  module _ (e : o ≡ sort.Node) where
    node_within : (r : Bool)
        → r ≡ (ltb s.own rule_nodes && (ltb s.nodes book_nodes && leb s.due.depth deepest))
        → (r ≡ true → NodeRoom s)
        → Within s o r
    unfolding within
    node_within r q n = record { is = λ b h. rw (e, ← h.own, ← h.nodes, next_depth b s h) q; room = λ z. rw e (n z) }

    module _ (m : s.own < rule_nodes) where
      pub node_deep : s.nodes < book_nodes → Within s o (leb s.due.depth deepest)
      node_deep k =
          node_within (leb s.due.depth deepest) (rw (lt-ltb s.own rule_nodes m, lt-ltb s.nodes book_nodes k) refl)
          (λ z. record { own = m; nodes = k; depth = leb-true s.due.depth deepest z })

-- ---- what a line's content adds
module _ (s : State) (c : Content) (n : ℕ) (a : Addable s c n) where
  module _ (start len : ℕ) (kind : Kind) (e : c ≡ contents.Rule start len kind) where
    pub adds_rule : (d : Due) → d.depth ≡ 1 → d.bits ≡ 0 → Adds s c n (record { rules = s.rules + 1; nodes = s.nodes; own = 0; due = d; stepping = s.stepping; head = s.head + n; slots = s.slots; states = s.states })
    unfolding add due_of depths
    adds_rule d j k = record {
      is = λ t b h. rw e (record {
        rules = ap (λ (x : ℕ). x + 1) h.rules ∙ snoc_length b.labels (take len (drop start t));
        nodes = h.nodes;
        own = sym (last_snoc b.counts 0);
        due = rw (k, j) refl;
        begun = λ _. omega (arith, snoc_length b.counts 0);
        stepping = h.stepping;
        head = ap (λ (x : ℕ). x + n) h.head;
        slots = h.slots;
        states = h.states;
      });
    }

  module _ (op num : ℕ) (e : c ≡ contents.Node op num) where
    pub node_in : 1 ≤ s.due.depth
    node_in = subst (λ (x : Content). Inside s (sort_in x)) e a.inside

    pub adds_node : (r : Due)
        → spend op (due_of s.due.depth s.due.bits) ≡ due_of r.depth r.bits
        → Adds s c n (record { rules = s.rules; nodes = s.nodes + 1; own = s.own + 1; due = r; stepping = s.stepping; head = s.head + n; slots = s.slots; states = s.states })
    unfolding add
    adds_node r u = record {
      is = λ t b h. rw e (record {
        rules = h.rules;
        nodes = ap (λ (x : ℕ). x + 1) h.nodes ∙ snoc_length b.ops op;
        own = ap (λ (x : ℕ). x + 1) h.own ∙ sym (last_bump b.counts (h.begun (inside b s h node_in)));
        due = ap (spend op) h.due ∙ u;
        begun = λ _. subst (λ (x : ℕ). 1 ≤ x) (sym (bump_length b.counts)) (h.begun (inside b s h node_in));
        stepping = h.stepping;
        head = ap (λ (x : ℕ). x + n) h.head;
        slots = h.slots;
        states = h.states;
      });
    }

  pub adds_step : (u w : ℕ) → c ≡ contents.Step u w → Adds s c n (record { rules = s.rules; nodes = s.nodes; own = s.own; due = s.due; stepping = true; head = s.head; slots = s.slots; states = s.states })
  unfolding add
  adds_step u w e = record {
    is = λ t b h. rw e (record {
      rules = h.rules;
      nodes = h.nodes;
      own = h.own;
      due = h.due;
      begun = h.begun;
      stepping = nil_snoc b.steps (record { number = u; truths = w });
      head = h.head;
      slots = h.slots;
      states = h.states;
    });
  }

  pub adds_states : (m : ℕ) → c ≡ contents.States m
      → Adds s c n (record { rules = s.rules; nodes = s.nodes; own = s.own; due = s.due; stepping = s.stepping; head = s.head + n; slots = s.slots; states = Some m })
  unfolding add
  adds_states m e = record {
    is = λ t b h. rw e (record {
      rules = h.rules;
      nodes = h.nodes;
      own = h.own;
      due = h.due;
      begun = h.begun;
      stepping = h.stepping;
      head = ap (λ (x : ℕ). x + n) h.head;
      slots = h.slots;
      states = refl;
    });
  }

  module _ (start len width : ℕ) (e : c ≡ contents.Slot start len width) where
    pub adds_slot : Adds s c n (record { rules = s.rules; nodes = s.nodes; own = s.own; due = s.due; stepping = s.stepping; head = s.head + n; slots = s.slots + 1; states = s.states })
    unfolding add
    adds_slot = record {
      is = λ t b h. rw e (record {
        rules = h.rules;
        nodes = h.nodes;
        own = h.own;
        due = h.due;
        begun = h.begun;
        stepping = h.stepping;
        head = ap (λ (x : ℕ). x + n) h.head;
        slots = ap (λ (x : ℕ). x + 1) h.slots ∙ snoc_length b.names (take len (drop start t));
        states = h.states;
      });
    }

-- ---- the tests by a line's sort alone, one after the other
none_some : {B : Type 0} {e : Refusal} → none ≡ some e → B
none_some e = let z : ◌≡◌ {A = ℕ} 0 1 = cc in absurd (omega arith)

misplaced_some : (t u : Bool) (r : Option Refusal) (e : Refusal) → or_else (pick t none (some why.Place)) (pick u none (some why.Unopened)) ≡ some e
    → or_else (pick t none (some why.Place)) (or_else (pick u none (some why.Unopened)) r) ≡ some e
misplaced_some true true r e p = none_some p
misplaced_some true false r e p = p
misplaced_some false u r e p = p

misplaced_none : (t u : Bool) (r : Option Refusal) → or_else (pick t none (some why.Place)) (pick u none (some why.Unopened)) ≡ none
    → or_else (pick t none (some why.Place)) (or_else (pick u none (some why.Unopened)) r) ≡ r
misplaced_none true true r p = refl
misplaced_none true false r p = none_some (sym p)
misplaced_none false u r p = none_some (sym p)

module _ (s : State) (o : Sort) (r : Bool) (p : MayStand s o r) where
  pub placed_nowhere : r ≡ false → Placed s o (Err why.Place)
  unfolding misplaced
  placed_nowhere q = record {
    is = λ b h. rw (← p.is b h, q) refl;
    inside = λ z. none_some (sym z);
    room = λ z. none_some (sym z);
  }

  module _ (q : r ≡ true) (v : Bool) (w : Opens s o v) where
    pub placed_unopened : v ≡ false → Placed s o (Err why.Unopened)
    unfolding misplaced
    placed_unopened z = record {
      is = λ b h. rw (← p.is b h, q, ← w.is b h, z) refl;
      inside = λ y. none_some (sym y);
      room = λ y. none_some (sym y);
    }

    pub placed_well : v ≡ true → Placed s o (Ok tt)
    unfolding misplaced
    placed_well z = record {
      is = λ b h. rw (← p.is b h, q, ← w.is b h, z) refl;
      inside = λ _. p.inside q;
      room = λ _. w.room z;
    }

-- ---- a line with a fault
pub refuse_word : (s : State) (x : Fault) → x ≡ Unreadable → Refuses s x why.Word
unfolding means fault first_fault
refuse_word s x e = record { is = λ t b h. rw e refl }

module _ (s : State) (x : Fault) (o : Sort) (f : Flaw) (r : Result Unit Refusal) (e : x ≡ Field o f) (p : Placed s o r) where
  pub refuse_place : (k : Refusal) → r ≡ Err k → Refuses s x k
  unfolding means fault first_fault misplaced
  refuse_place k q = record { is = λ t b h. rw e (misplaced_some (stands b o) (opens b o) (some (refusal_of f)) k (sym (p.is b h) ∙ ap error_in q)) }

  pub refuse_field : (u : Unit) (k : Refusal) → r ≡ Ok u → k ≡ refusal_of f → Refuses s x k
  unfolding means fault first_fault misplaced
  refuse_field u k q j = record {
    is = λ t b h. rw e (misplaced_none (stands b o) (opens b o) (some (refusal_of f)) (sym (p.is b h) ∙ ap error_in q) ∙ ap some (sym j));
  }

-- ---- a line
module _ (s : State) (l : Answer) (n : ℕ) where
  -- the fault of a line that has one, whatever its text
  faulty : (f : Refusal) → ((t : List ℕ) (b : Book) → HoldsBook b s → fault b (means t l) ≡ some f) → TakesLine s l n (Err f)
  faulty f e = record { is = λ t b h. subst (λ (o : Option Refusal). Agrees n b (means t l) o (Err f)) (sym (e t b h)) refl }

module _ (s : State) (c : Content) (n : ℕ) (o : Sort) (r : Result Unit Refusal) (i : o ≡ sort_in c) (p : Placed s o r) where
  sort_is : (t : List ℕ) → sort_of (held t c) ≡ o
  sort_is t = sort_held t c ∙ sym i

  pub right_place : (k : Refusal) → r ≡ Err k → TakesContent s c n (Err k)
  unfolding means fault first_fault misplaced
  right_place k q = faulty s (Ok c) n k (λ t b h. rw (sort_is t) (misplaced_some (stands b o) (opens b o) (or_else (pick (within b o) none (some why.Limit)) none) k (sym (p.is b h) ∙ ap error_in q)))

  module _ (u : Unit) (q : r ≡ Ok u) (v : Bool) (w : Within s o v) where
    only_limit : (t : List ℕ) (b : Book) → HoldsBook b s → fault b (right (held t c)) ≡ or_else (pick v none (some why.Limit)) none
    unfolding fault first_fault misplaced
    only_limit t b h = rw (sort_is t, w.is b h) (misplaced_none (stands b o) (opens b o) _ (sym (p.is b h) ∙ ap error_in q))

    pub right_limit : v ≡ false → TakesContent s c n (Err why.Limit)
    unfolding means
    right_limit z = faulty s (Ok c) n why.Limit (λ t b h. only_limit t b h ∙ rw z refl)

    pub right_adds : (s' : State) → v ≡ true → Adds s c n s' → TakesContent s c n (Ok s')
    unfolding means
    right_adds s' z a = record {
      is = λ t b h.
          let none_is : fault b (right (held t c)) ≡ none = only_limit t b h ∙ rw z refl in
          (subst (λ (x : Option Refusal). Agrees n b (right (held t c)) x (Ok s')) (sym none_is) (s', refl, a.is t b h));
    }
