-- What a line holds, from the code's tests: one law for each return.
use mathlib.Core.Path.{◌≡◌, refl, sym, ap, subst, ◌∙◌}
use mathlib.Core.Bool.{Bool, true, false, ◌&&◌}
use mathlib.Core.List.{List, [], ◌∷◌}
use Prim.Native.Nat.{ℕ, zero, suc, ◌+◌, ◌-◌, ◌≤◌, ◌<◌}
use native.Mathlib.Omega.{arith}
use native.Mathlib.Numerals.{add-one}
use borrow.Author.Tests.{eq-eqb, ne_eqb, lt-ltb, le-ltb, le-leb, lt-leb, ltb-true, ltb-false}
use lib.Dec.{eqb, leb, ltb}
use lib.ListN.{length, get_or, take, drop, length-drop}
use Rattle.std.specs.Prelude.{Option, Some, None, Ok, Err}
use Rattle.std.specs.Prelude.{Result as Returned}
use Rattle.terms.specs.Limits.{signals, slot_most, state_counts, steps}
use Rattle.terms.specs.declared.kind.Kind.{Kind}
use Rattle.terms.specs.declared.kind.Kind.TheVariants.{Property, Assumption}
use Rattle.terms.specs.Choice.{pick}
use Rattle.number.specs.Number.{decimal_of, hex_of}
use Rattle.number.proofs.Numbers.{below_or}
use Rattle.words.specs.Same.{eqbs}
use Rattle.words.specs.Word.{word_of, fields_behind}
use Rattle.line.specs.Text.{parts, fields, first_at, Found}
use Rattle.line.specs.Line as spec
use Rattle.line.specs.Line.{is_label, kind_of, rule_kind, rule_line, atom_line, bound_line, step_line, states_line, width_line, slot_line, no_field, one_field, two_fields, content, of_fields, parse}
use Rattle.line.specs.Means.{Answer, held, sort_in, means, Meant, LineIs, Anywhere, FieldAt, ReadAs, behind, Tail, count_of, number_in, number_below}
use Rattle.words.specs.declared.word.Word.{Word}
use Rattle.words.specs.declared.word.Word.TheVariants as word
use Rattle.line.specs.declared.line.Sort.{Sort}
use Rattle.line.specs.declared.line.Sort.TheVariants as sort
use Rattle.line.specs.declared.line.Flaw.{Flaw}
use Rattle.line.specs.declared.line.Flaw.TheVariants as flaw
use Rattle.line.specs.declared.line.Content.{Content}
use Rattle.line.specs.declared.line.Content.TheVariants.{Rule, Node, Step, States, Slot}
use Rattle.line.specs.declared.line.Fault.{Fault}
use Rattle.line.specs.declared.line.Fault.TheVariants.{Unreadable, Field}
use Rattle.line.proofs.Parts.{parts_cut, fields_whole}

-- ---- sorts
pub sort_held : (l : List ℕ) (c : Content) → spec.sort_of (held l c) ≡ sort_in c
sort_held l (Rule start len kind) = refl
sort_held l (Node op num) = refl
sort_held l (Step s w) = refl
sort_held l (States c) = refl
sort_held l (Slot start len width) = refl

-- ---- kinds
pub kind_short : (f : List ℕ) → length f < 1 → None ≡ kind_of f
unfolding kind_of eqbs
kind_short [] h = refl
kind_short (b ∷ r) h = absurd (omega arith)

pub kind_long : (f : List ℕ) → 2 ≤ length f → None ≡ kind_of f
unfolding kind_of eqbs
kind_long [] h = absurd (omega arith)
kind_long (b ∷ []) h = absurd (omega arith)
kind_long (b ∷ d ∷ r) h = go (eqb b 80) (eqb b 65)
  where
    go : (t u : Bool) → None ≡ pick (t && false) (Some Property) (pick (u && false) (Some Assumption) None)
    go true true = refl
    go true false = refl
    go false true = refl
    go false false = refl

module _ (f : List ℕ) (h : 1 ≤ length f) (k : length f < 2) where
  kind_one : kind_of f ≡ pick (eqb (get_or f 0 0) 80) (Some Property) (pick (eqb (get_or f 0 0) 65) (Some Assumption) None)
  unfolding kind_of eqbs
  kind_one = go f h k
    where
      by : (t u : Bool) → pick (t && true) (Some Property) (pick (u && true) (Some Assumption) None) ≡ pick t (Some Property) (pick u (Some Assumption) None)
      by true u = refl
      by false true = refl
      by false false = refl

      go : (f : List ℕ) → 1 ≤ length f → length f < 2 → kind_of f ≡ pick (eqb (get_or f 0 0) 80) (Some Property) (pick (eqb (get_or f 0 0) 65) (Some Assumption) None)
      go [] h k = absurd (omega arith)
      go (b ∷ []) h k = by (eqb b 80) (eqb b 65)
      go (b ∷ d ∷ r) h k = absurd (omega arith)

  pub kind_p : get_or f 0 0 ≡ 80 → Some Property ≡ kind_of f
  kind_p e = sym (kind_one ∙ rw (eq-eqb _ _ e) refl)

  pub kind_a : get_or f 0 0 ≡ 65 → Some Assumption ≡ kind_of f
  kind_a e = sym (kind_one ∙ rw e refl)

  pub kind_none : (get_or f 0 0 ≡ 80 → ⊥) → (get_or f 0 0 ≡ 65 → ⊥) → None ≡ kind_of f
  kind_none n m = sym (kind_one ∙ rw (ne_eqb _ _ n, ne_eqb _ _ m) refl)

module _ (f : List ℕ) where
  pub rule_labelled : (k : List ℕ) (t : Bool) (r : Option Kind) → t ≡ is_label f → t ≡ true → r ≡ kind_of k → r ≡ rule_kind f k
  unfolding rule_kind
  rule_labelled k t r p q e = rw (← p, q) e

  pub rule_unlabelled : (k : List ℕ) (t : Bool) → t ≡ is_label f → t ≡ false → None ≡ rule_kind f k
  unfolding rule_kind
  rule_unlabelled k t p q = rw (← p, q) refl

-- ---- answers that name no place
any_wrong : {p : spec.Line} (s : Sort) (f : Flaw) → spec.wrong s f ≡ p → Anywhere p (Err (Field s f))
unfolding means
any_wrong s f e = record { is = λ l. record { holds = e; inside = tt } }

any_node : {p : spec.Line} (op v : ℕ) → spec.right (spec.node op v) ≡ p → Anywhere p (Ok (Node op v))
unfolding means
any_node op v e = record { is = λ l. record { holds = e; inside = tt } }

any_step : {p : spec.Line} (s w : ℕ) → spec.right (spec.step s w) ≡ p → Anywhere p (Ok (Step s w))
unfolding means
any_step s w e = record { is = λ l. record { holds = e; inside = tt } }

any_states : {p : spec.Line} (c : ℕ) → spec.right (spec.states c) ≡ p → Anywhere p (Ok (States c))
unfolding means
any_states c e = record { is = λ l. record { holds = e; inside = tt } }

-- ---- numbers
-- what there is of a number below a limit, or what is wrong
pub record Limited (n : Option ℕ) (limit v : ℕ) : Type 0 where
  pub is : n ≡ Some v
  pub small : v < limit

module _ (s : Sort) where
  number_ok : (n : Option ℕ) (v : ℕ) → number_in n s ≡ Ok v → n ≡ Some v
  number_ok None v e = let z : ◌≡◌ {A = ℕ} 0 1 = cc in absurd (omega arith)
  number_ok (Some w) v e = cc

  number_err : (n : Option ℕ) (e : Fault) → number_in n s ≡ Err e → (n ≡ None) × (e ≡ Field s flaw.Number)
  number_err None e p = (refl, cc)
  number_err (Some w) e p = let z : ◌≡◌ {A = ℕ} 0 1 = cc in absurd (omega arith)

  below_ok : (n : Option ℕ) (limit v : ℕ) → number_below n limit s ≡ Ok v → Limited n limit v
  below_ok None limit v e = let z : ◌≡◌ {A = ℕ} 0 1 = cc in absurd (omega arith)
  below_ok (Some w) limit v e = go (ltb w limit) refl e
    where
      go : (t : Bool) → ltb w limit ≡ t → number_in (pick t (Some w) None) s ≡ Ok v → Limited (Some w) limit v
      go true p e = let q : w ≡ v = cc in record { is = ap Some q; small = subst (λ (k : ℕ). k < limit) q (ltb-true w limit p) }
      go false p e = let z : ◌≡◌ {A = ℕ} 0 1 = cc in absurd (omega arith)

  -- the line of such a number
  abbrev limited : ℕ → (ℕ → spec.Content) → Option ℕ → spec.Line
  limited limit c None = spec.wrong s flaw.Number
  limited limit c (Some n) = pick (ltb n limit) (spec.right (c n)) (spec.wrong s flaw.Number)

  limited_ok : (limit : ℕ) (c : ℕ → spec.Content) (n : Option ℕ) (v : ℕ) → number_below n limit s ≡ Ok v → spec.right (c v) ≡ limited limit c n
  limited_ok limit c n v e = let b : Limited n limit v = below_ok n limit v e in rw (b.is, lt-ltb v limit b.small) refl

  limited_err : (limit : ℕ) (c : ℕ → spec.Content) (n : Option ℕ) (e : Fault) → number_below n limit s ≡ Err e
      → (e ≡ Field s flaw.Number) × (spec.wrong s flaw.Number ≡ limited limit c n)
  limited_err limit c None e p = (cc, refl)
  limited_err limit c (Some w) e p = go (ltb w limit) p
    where
      go : (t : Bool) → number_in (pick t (Some w) None) s ≡ Err e
          → (e ≡ Field s flaw.Number) × (spec.wrong s flaw.Number ≡ pick t (spec.right (c w)) (spec.wrong s flaw.Number))
      go true p = let z : ◌≡◌ {A = ℕ} 0 1 = cc in absurd (omega arith)
      go false p = (cc, refl)

atom_limited : (op : ℕ) (n : Option ℕ) → limited sort.Node signals (spec.node op) n ≡ atom_line op n
unfolding atom_line
atom_limited op None = refl
atom_limited op (Some v) = refl

states_limited : (n : Option ℕ) → limited sort.States state_counts spec.states n ≡ states_line n
unfolding states_line
states_limited None = refl
states_limited (Some v) = refl

most_below : (v m : ℕ) → ltb v (m + 1) ≡ leb v m
most_below v m = go (below_or v (m + 1))
  where
    go : mathlib.Core.Logic.◌⊎◌ (v < m + 1) (m + 1 ≤ v) → ltb v (m + 1) ≡ leb v m
    go (mathlib.Core.Logic.inl h) = lt-ltb v (m + 1) h ∙ sym (le-leb v m (omega arith))
    go (mathlib.Core.Logic.inr h) = le-ltb v (m + 1) h ∙ sym (lt-leb v m (omega arith))

width_limited : (name : List ℕ) (n : Option ℕ) → limited sort.Slot (slot_most + 1) (spec.slot name) n ≡ width_line name n
unfolding width_line
width_limited name None = refl
width_limited name (Some v) = ap (λ (t : Bool). pick t (spec.right (spec.slot name v)) (spec.wrong sort.Slot flaw.Number)) (most_below v slot_most)

module _ (n : Option ℕ) (r : Returned ℕ Fault) where
  module _ (op : ℕ) where
    module _ (p : r ≡ number_below n signals sort.Node) where
      pub atom_wrong : (e : Fault) → r ≡ Err e → Anywhere (atom_line op n) (Err e)
      atom_wrong e q =
          let (x, y) = limited_err sort.Node signals (spec.node op) n e (sym p ∙ q) in
          subst (λ (z : Fault). Anywhere (atom_line op n) (Err z)) (sym x) (any_wrong sort.Node flaw.Number (y ∙ atom_limited op n))

      pub atom_right : (v : ℕ) → r ≡ Ok v → Anywhere (atom_line op n) (Ok (Node op v))
      atom_right v q = any_node op v (limited_ok sort.Node signals (spec.node op) n v (sym p ∙ q) ∙ atom_limited op n)

    module _ (p : r ≡ number_in n sort.Node) where
      pub bound_wrong : (e : Fault) → r ≡ Err e → Anywhere (bound_line op n) (Err e)
      unfolding bound_line
      bound_wrong e q =
          let (x, y) = number_err sort.Node n e (sym p ∙ q) in
          subst (λ (z : Fault). Anywhere (bound_line op n) (Err z)) (sym y) (any_wrong sort.Node flaw.Number (rw x refl))

      pub bound_right : (v : ℕ) → r ≡ Ok v → Anywhere (bound_line op n) (Ok (Node op v))
      unfolding bound_line
      bound_right v q = any_node op v (rw (number_ok sort.Node n v (sym p ∙ q)) refl)

  module _ (p : r ≡ number_below n state_counts sort.States) where
    pub states_wrong : (e : Fault) → r ≡ Err e → Anywhere (states_line n) (Err e)
    states_wrong e q =
        let (x, y) = limited_err sort.States state_counts spec.states n e (sym p ∙ q) in
        subst (λ (z : Fault). Anywhere (states_line n) (Err z)) (sym x) (any_wrong sort.States flaw.Number (y ∙ states_limited n))

    pub states_right : (v : ℕ) → r ≡ Ok v → Anywhere (states_line n) (Ok (States v))
    states_right v q = any_states v (limited_ok sort.States state_counts spec.states n v (sym p ∙ q) ∙ states_limited n)

  module _ (m : Option ℕ) (p : r ≡ number_below n steps sort.Step) where
    pub step_wrong : (e : Fault) → r ≡ Err e → Anywhere (step_line n m) (Err e)
    unfolding step_line
    step_wrong e q = go n m (sym p ∙ q)
      where
        wrong_step : (p : spec.Line) → e ≡ Field sort.Step flaw.Number → spec.wrong sort.Step flaw.Number ≡ p → Anywhere p (Err e)
        wrong_step p x y = subst (λ (z : Fault). Anywhere p (Err z)) (sym x) (any_wrong sort.Step flaw.Number y)

        go : (n m : Option ℕ) → number_below n steps sort.Step ≡ Err e → Anywhere (step_line n m) (Err e)
        go None m z = wrong_step (spec.wrong sort.Step flaw.Number) (number_err sort.Step None e z).1 refl
        go (Some v) None z = wrong_step (spec.wrong sort.Step flaw.Number) (limited_err sort.Step steps spec.states (Some v) e z).0 refl
        go (Some v) (Some w) z = by (ltb v steps) z
          where
            by : (t : Bool) → number_in (pick t (Some v) None) sort.Step ≡ Err e → Anywhere (pick t (spec.right (spec.step v w)) (spec.wrong sort.Step flaw.Number)) (Err e)
            by true z = let y : ◌≡◌ {A = ℕ} 0 1 = cc in absurd (omega arith)
            by false z = wrong_step (spec.wrong sort.Step flaw.Number) (number_err sort.Step None e z).1 refl

    pub step_right : (v : ℕ) → r ≡ Ok v → (o : Option ℕ) → o ≡ m → (t : Returned ℕ Fault) → t ≡ number_in o sort.Step
        → (w : ℕ) → t ≡ Ok w → Anywhere (step_line n m) (Ok (Step v w))
    unfolding step_line
    step_right v q o i t p' w q' =
        let low : Limited n steps v = below_ok sort.Step n steps v (sym p ∙ q) in
        any_step v w (rw (low.is, ← i, number_ok sort.Step o w (sym p' ∙ q'), lt-ltb v steps low.small) refl)

-- truths that are none make the line wrong, whatever its number
pub step_truths : (n m o : Option ℕ) (t : Returned ℕ Fault) (e : Fault) → o ≡ m → t ≡ number_in o sort.Step → t ≡ Err e → Anywhere (step_line n m) (Err e)
unfolding step_line
step_truths n m o t e i p q =
    let (x, y) = number_err sort.Step o e (sym p ∙ q) in
    subst (λ (z : Fault). Anywhere (step_line n m) (Err z)) (sym y) (any_wrong sort.Step flaw.Number (rw (← i, x) (go n)))
  where
    go : (n : Option ℕ) → spec.wrong sort.Step flaw.Number ≡ step_line n None
    go None = refl
    go (Some v) = refl

-- ---- a rule
module _ (f k : List ℕ) (start : ℕ) (n : Option Kind) (p : n ≡ rule_kind f k) where
  pub rule_wrong : n ≡ None → ReadAs f start (rule_line f k) (Err (Field sort.Rule flaw.Label))
  unfolding rule_line
  rule_wrong q = record { is = λ l _. (any_wrong sort.Rule flaw.Label (rw (← p, q) refl)).is l }

  pub rule_right : (v : Kind) → n ≡ Some v → ReadAs f start (rule_line f k) (Ok (Rule start (length f) v))
  unfolding rule_line means
  rule_right v q = record { is = λ l a. record { holds = rw (← p, q, a.is) refl; inside = a.inside } }

-- ---- a slot
module _ (f : List ℕ) (n : Option ℕ) (start : ℕ) (t : Bool) (p : t ≡ is_label f) where
  slot_any : (r : Answer) → Anywhere (slot_line f n) r → ReadAs f start (slot_line f n) r
  slot_any r a = record { is = λ l _. a.is l }

  pub slot_unnamed : t ≡ false → ReadAs f start (slot_line f n) (Err (Field sort.Slot flaw.Label))
  unfolding slot_line
  slot_unnamed q = slot_any _ (any_wrong sort.Slot flaw.Label (rw (← p, q) refl))

  module _ (q : t ≡ true) (r : Returned ℕ Fault) (e : r ≡ number_below n (slot_most + 1) sort.Slot) where
    pub slot_wrong : (x : Fault) → r ≡ Err x → ReadAs f start (slot_line f n) (Err x)
    unfolding slot_line
    slot_wrong x h =
        let (y, z) = limited_err sort.Slot (slot_most + 1) (spec.slot f) n x (sym e ∙ h) in
        slot_any _ (subst (λ (w : Fault). Anywhere (slot_line f n) (Err w)) (sym y) (any_wrong sort.Slot flaw.Number (rw (← p, q) (z ∙ width_limited f n))))

    pub slot_right : (v : ℕ) → r ≡ Ok v → ReadAs f start (slot_line f n) (Ok (Slot start (length f) v))
    unfolding slot_line means
    slot_right v h = record {
      is = λ l a. record {
        holds = rw (← p, q, a.is) (limited_ok sort.Slot (slot_most + 1) (spec.slot f) n v (sym e ∙ h) ∙ width_limited f n);
        inside = a.inside;
      };
    }

-- ---- by the word: its fields are as many as it takes, or the line is none
no_field_lem : (r : spec.Line) (n : ℕ) (f g : List ℕ) → (n ≡ 0 → ⊥) → spec.bad ≡ no_field r (behind n f g)
no_field_lem r zero f g h = absurd (h refl)
no_field_lem r (suc zero) f g h = refl
no_field_lem r (suc (suc zero)) f g h = refl
no_field_lem r (suc (suc (suc n))) f g h = refl

one_field_lem : (r : List ℕ → spec.Line) (n : ℕ) (f g : List ℕ) → (n ≡ 1 → ⊥) → spec.bad ≡ one_field r (behind n f g)
one_field_lem r zero f g h = refl
one_field_lem r (suc zero) f g h = absurd (h refl)
one_field_lem r (suc (suc zero)) f g h = refl
one_field_lem r (suc (suc (suc n))) f g h = refl

two_fields_lem : (r : List ℕ → List ℕ → spec.Line) (n : ℕ) (f g : List ℕ) → (n ≡ 2 → ⊥) → spec.bad ≡ two_fields r (behind n f g)
two_fields_lem r zero f g h = refl
two_fields_lem r (suc zero) f g h = refl
two_fields_lem r (suc (suc zero)) f g h = absurd (h refl)
two_fields_lem r (suc (suc (suc n))) f g h = refl

other_count : (w : Word) (n : ℕ) (f g : List ℕ) → (n ≡ fields_behind w → ⊥) → spec.bad ≡ content (Some w) (behind n f g)
unfolding content
other_count (word.Atom op) n f g h = one_field_lem _ n f g h
other_count (word.Plain op) n f g h = no_field_lem _ n f g h
other_count (word.Bounded op) n f g h = one_field_lem _ n f g h
other_count word.Rule n f g h = two_fields_lem _ n f g h
other_count word.Step n f g h = two_fields_lem _ n f g h
other_count word.States n f g h = one_field_lem _ n f g h
other_count word.Slot n f g h = two_fields_lem _ n f g h

module _ (w : Word) (n m : ℕ) (f g : List ℕ) (start : ℕ) (k : m ≡ fields_behind w) where
  pub count_other : (n ≡ m → ⊥) → ReadAs f start (content (Some w) (behind n f g)) (Err Unreadable)
  unfolding means
  count_other h = record { is = λ l _. record { holds = other_count w n f g (λ z. h (z ∙ sym k)); inside = tt } }

  module _ (h : n ≡ m) where
    read_any : (p : spec.Line) (r : Answer) → Anywhere p r → p ≡ content (Some w) (behind n f g) → ReadAs f start (content (Some w) (behind n f g)) r
    read_any p r a e = subst (λ (x : spec.Line). ReadAs f start x r) e (record { is = λ l _. a.is l })

    abbrev many : n ≡ fields_behind w
    many = h ∙ k

    module _ (op : ℕ) where
      pub atom_read : (r : Answer) → w ≡ word.Atom op → Anywhere (atom_line op (decimal_of f)) r → ReadAs f start (content (Some w) (behind n f g)) r
      unfolding content
      atom_read r e a = read_any _ r a (rw (many, e) refl)

      pub plain_read : w ≡ word.Plain op → ReadAs f start (content (Some w) (behind n f g)) (Ok (Node op 0))
      unfolding content
      plain_read e = read_any _ (Ok (Node op 0)) (any_node op 0 refl) (rw (many, e) refl)

      pub bound_read : (r : Answer) → w ≡ word.Bounded op → Anywhere (bound_line op (decimal_of f)) r → ReadAs f start (content (Some w) (behind n f g)) r
      unfolding content
      bound_read r e a = read_any _ r a (rw (many, e) refl)

    pub rule_read : (r : Answer) → w ≡ word.Rule → ReadAs f start (rule_line f g) r → ReadAs f start (content (Some w) (behind n f g)) r
    unfolding content
    rule_read r e a = subst (λ (x : spec.Line). ReadAs f start x r) (rw (many, e) refl) a

    pub step_read : (r : Answer) → w ≡ word.Step → Anywhere (step_line (decimal_of f) (hex_of g)) r → ReadAs f start (content (Some w) (behind n f g)) r
    unfolding content
    step_read r e a = read_any _ r a (rw (many, e) refl)

    pub states_read : (r : Answer) → w ≡ word.States → Anywhere (states_line (decimal_of f)) r → ReadAs f start (content (Some w) (behind n f g)) r
    unfolding content
    states_read r e a = read_any _ r a (rw (many, e) refl)

    pub slot_read : (r : Answer) → w ≡ word.Slot → ReadAs f start (slot_line f (decimal_of g)) r → ReadAs f start (content (Some w) (behind n f g)) r
    unfolding content
    slot_read r e a = subst (λ (x : spec.Line). ReadAs f start x r) (rw (many, e) refl) a

-- ---- the fields of a line
-- no word has three fields behind it
many_fields : (w : Option Word) (a b c : List ℕ) (fs : List (List ℕ)) → spec.bad ≡ content w (a ∷ b ∷ c ∷ fs)
unfolding content
many_fields (Some (word.Atom op)) a b c fs = refl
many_fields (Some (word.Plain op)) a b c fs = refl
many_fields (Some (word.Bounded op)) a b c fs = refl
many_fields (Some word.Rule) a b c fs = refl
many_fields (Some word.Step) a b c fs = refl
many_fields (Some word.States) a b c fs = refl
many_fields (Some word.Slot) a b c fs = refl
many_fields None a b c fs = refl

-- the fields from where the tabs stand
cut_at : (l : List ℕ) (t : ℕ) → Found 9 l t → (t ≡ length l → ⊥) → fields l ≡ take t l ∷ fields (drop (t + 1) l)
unfolding parts
cut_at l t f h = rw (add-one, f.is) (parts_cut 9 ([] ∷ []) l (subst (λ (n : ℕ). n < length l) f.is (less t (length l) f.inside h)))
  where
    less : (a b : ℕ) → a ≤ b → (a ≡ b → ⊥) → a < b
    less a b p q = native.Mathlib.Numerals.lt_of_le_of_ne p q

never_empty : (l : List ℕ) → (f : List ℕ) × (fs : List (List ℕ)) × (fields l ≡ f ∷ fs)
unfolding parts
never_empty l = go (Rattle.number.proofs.Numbers.below_or (first_at 9 l) (length l))
  where
    go : mathlib.Core.Logic.◌⊎◌ (first_at 9 l < length l) (length l ≤ first_at 9 l) → (f : List ℕ) × (fs : List (List ℕ)) × (fields l ≡ f ∷ fs)
    go (mathlib.Core.Logic.inl k) = (take (first_at 9 l) l, fields (drop (suc (first_at 9 l)) l), parts_cut 9 ([] ∷ []) l k)
    go (mathlib.Core.Logic.inr k) = (l, [], fields_whole l (omega (arith, Rattle.line.proofs.Parts.first_inside 9 l)))

-- ---- what stands past a tab

pub tail_short : (l r : List ℕ) (t : ℕ) → Tail l t r → length r ≤ length l
tail_short l r t a = go (below_or t (length l))
  where
    go : mathlib.Core.Logic.◌⊎◌ (t < length l) (length l ≤ t) → length r ≤ length l
    go (mathlib.Core.Logic.inl k) = omega (arith, ap length (a.cut k), length-drop (t + 1) l)
    go (mathlib.Core.Logic.inr k) = omega (arith, ap length (a.none k))

-- it is the line's end
tail_drop : (l r : List ℕ) (t : ℕ) → Tail l t r → r ≡ drop (length l - length r) l
tail_drop l r t a = go (below_or t (length l))
  where
    go : mathlib.Core.Logic.◌⊎◌ (t < length l) (length l ≤ t) → r ≡ drop (length l - length r) l
    go (mathlib.Core.Logic.inl k) =
        let z : length l - length r ≡ t + 1 = omega (arith, ap length (a.cut k), length-drop (t + 1) l) in
        a.cut k ∙ sym (ap (λ (i : ℕ). drop i l) z)
    go (mathlib.Core.Logic.inr k) = a.none k ∙ sym (lib.ListN.drop_of_length-le l {i = length l - length r} (omega (arith, ap length (a.none k))))

-- ---- the fields behind the word, from where the tabs stand
whole_field : (l : List ℕ) (t : ℕ) → Found 9 l t → ltb t (length l) ≡ false → fields l ≡ l ∷ []
whole_field l t f h = fields_whole l (sym f.is ∙ omega (arith, ltb-false t (length l) h, f.inside))

cut_field : (l r : List ℕ) (t : ℕ) → Found 9 l t → Tail l t r → ltb t (length l) ≡ true → fields l ≡ take t l ∷ fields r
cut_field l r t f a h =
    let k : t < length l = ltb-true t (length l) h in
    cut_at l t f (λ (z : t ≡ length l). omega arith) ∙ ap (λ (x : List ℕ). take t l ∷ fields x) (sym (a.cut k))

take_whole : (l : List ℕ) (t : ℕ) → ltb t (length l) ≡ false → take t l ≡ l
take_whole l t h = lib.Seq.take_all t l (omega (arith, ltb-false t (length l) h))

module _ (l first rest last : List ℕ) (t u v : ℕ) (o : Option Word) (w : Word) (f : Found 9 l t) (e : first ≡ take t l) (spells : o ≡ word_of first) (one : o ≡ Some w)
    (a : Tail l t rest) (f' : Found 9 rest u) (a' : Tail rest u last) (f'' : Found 9 last v) where
  is : Some w ≡ word_of first
  is = sym one ∙ spells

  behind_is : (x y z : Bool) → ltb t (length l) ≡ x → ltb u (length rest) ≡ y → ltb v (length last) ≡ z → parse l ≡ content (Some w) (behind (count_of x y z) (take u rest) last)
  unfolding parse of_fields
  behind_is false y z p q r = rw (whole_field l t f p, is, e, take_whole l t p) refl
  behind_is true false z p q r = rw (cut_field l rest t f a p, ← e, ← is, whole_field rest u f' q, take_whole rest u q) refl
  behind_is true true false p q r = rw (cut_field l rest t f a p, ← e, ← is, cut_field rest last u f' a' q, whole_field last v f'' r) refl
  behind_is true true true p q r =
      let (c, d, s) = never_empty (drop (v + 1) last) in
      let k : v < length last = ltb-true v (length last) r in
      let three : fields last ≡ take v last ∷ c ∷ d = cut_at last v f'' (λ (o : v ≡ length last). omega arith) ∙ ap (take v last ∷◌) s in
      rw (cut_field l rest t f a p, ← e, ← is, cut_field rest last u f' a' q, three)
      (sym (many_fields (Some w) (take u rest) (take v last) c d) ∙ many_fields (Some w) (take u rest) last [] [])

  pub line_read : (n : ℕ) (mid : List ℕ) (r : Answer)
      → n ≡ count_of (ltb t (length l)) (ltb u (length rest)) (ltb v (length last))
      → mid ≡ take u rest
      → ReadAs mid (length l - length rest) (content (Some w) (behind n mid last)) r
      → LineIs l r
  line_read n mid r c m p =
      let size : length mid ≡ u = ap length m ∙ lib.Seq.length-take-le u rest f'.inside in
      let here : FieldAt l mid (length l - length rest) = record {
        is = rw (← tail_drop l rest t a, size) (sym m);
        inside = omega (arith, size, f'.inside, tail_short l rest t a);
      } in
      let same : parse l ≡ content (Some w) (behind n mid last) = behind_is (ltb t (length l)) (ltb u (length rest)) (ltb v (length last)) refl refl refl ∙ rw (c, m) refl in
      subst (λ (x : spec.Line). Meant l x r) (sym same) (p.is l here)

-- ---- a line without a word
module _ (l first : List ℕ) (t : ℕ) (w : Option Word) (f : Found 9 l t) (e : first ≡ take t l) (is : w ≡ word_of first) where
  pub line_unworded : w ≡ None → LineIs l (Err Unreadable)
  unfolding parse of_fields means content
  line_unworded q = record { holds = go (ltb t (length l)) refl; inside = tt }
    where
      go : (x : Bool) → ltb t (length l) ≡ x → spec.bad ≡ parse l
      go false p = rw (whole_field l t f p, ← take_whole l t p, ← e, ← is, q) refl
      go true p =
          let k : t < length l = ltb-true t (length l) p in
          rw (cut_at l t f (λ (z : t ≡ length l). omega arith), ← e, ← is, q) refl
