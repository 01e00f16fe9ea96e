-- A fresh monitor: loops that store a run from the front, and the call.
use mathlib.Core.Path.{◌≡◌, refl, sym, ap, ap₂, subst, ◌∙◌}
use mathlib.Core.Bool.{Bool, true, false}
use mathlib.Core.List.{List, [], ◌∷◌, ◌++◌}
use mathlib.Core.Option.{Option, none, some}
use Prim.Native.Nat.{ℕ, zero, suc, ◌+◌, ◌*◌, ◌<◌}
use native.Mathlib.Omega.{arith}
use native.Mathlib.Nat.{add-zero, add-suc, suc-add, zero-add}
use native.Mathlib.Numerals.{add-one}
use lib.ListN.{length, get_or, set, replicate, length-replicate}
use lib.Seq.{sets}
use Rattle.monitor.specs.Mon.{Mon}
use Rattle.std.specs.Prelude.{Result, Ok, Err, None, Some}
use Rattle.result.specs.declared.Refusal.{Refusal}
use Rattle.result.specs.declared.Refusal.TheVariants.{Short}
use Rattle.meaning.specs.Culprit.{minus_one}
use Rattle.node_step.specs.declared.state.MonState.{MonState}
use Rattle.node_step.specs.Memory.{Memory, Inside, initial_entry, put}
use Rattle.node_step.proofs.Entries.{inside_put}
use Rattle.terms.specs.Choice.{pick}
use Rattle.lent.specs.Lent.{LentTables, lent_of, rule_mon, ruleless, refusal_to_make}
use Rattle.stepping.specs.Fresh.{column, cleared, Makes, Making, refuse, make_mon, or_short, fresh_call, FreshAnswers}
use Rattle.lent.proofs.Refusals.{admitted}

sets_append : {A : Type 0} (l : List A) (i : ℕ) (xs ys : List A) → sets (sets l i xs) (i + length xs) ys ≡ sets l i (xs ++ ys)
sets_append l i [] ys = ap (λ (n : ℕ). sets l n ys) (add-zero i)
sets_append l i (x ∷ xs) ys = ap (λ (n : ℕ). sets (sets (set l i x) (suc i) xs) n ys) (add-suc i (length xs) ∙ sym (suc-add i (length xs))) ∙ sets_append (set l i x) (suc i) xs ys

-- the first k of a run are stored
pub record Stored {A : Type 0} (run : ℕ → List A) (l₀ l : List A) (k : ℕ) : Type 0 where
  pub is : l ≡ sets l₀ 0 (run k)

module _ {A : Type 0} (run : ℕ → List A) (l₀ l : List A) (k : ℕ) where
  stored_more : (v : A) → length (run k) ≡ k → run (k + 1) ≡ run k ++ (v ∷ []) → Stored run l₀ l k → Stored run l₀ (set l k v) (k + 1)
  stored_more v z e d = record {
    is = ap (λ (x : List A). set x k v) d.is ∙ ap (λ (j : ℕ). set (sets l₀ 0 (run k)) j v) (sym (zero-add (length (run k)) ∙ z)) ∙ sets_append l₀ 0 (run k) (v ∷ []) ∙ ap (sets l₀ 0) (sym e);
  }

-- ---- cleared entries
replicate_more : {A : Type 0} (k : ℕ) (v : A) → replicate (k + 1) v ≡ replicate k v ++ (v ∷ [])
replicate_more k v = ap (λ (j : ℕ). replicate j v) (add-one k) ∙ go k
  where
    go : (k : ℕ) → replicate (suc k) v ≡ replicate k v ++ (v ∷ [])
    go zero = refl
    go (suc k) = ap (v ∷◌) (go k)

-- the first k entries of a memory are cleared
pub record Clearing (mem₀ mem : Memory) (k : ℕ) : Type 0 where
  pub held : Stored (λ (j : ℕ). replicate j false) mem₀.held mem.held k
  pub remaining : Stored (λ (j : ℕ). replicate j 0) mem₀.remaining mem.remaining k
  pub failed : Stored (λ (j : ℕ). replicate j false) mem₀.failed mem.failed k
  pub culprits : Stored (λ (j : ℕ). replicate j minus_one) mem₀.culprits mem.culprits k
  pub inside : (n : ℕ) → Inside mem₀ n → Inside mem n

module _ (mem₀ : Memory) where
  pub clear_start : Clearing mem₀ mem₀ 0
  clear_start = record { held = record { is = refl }; remaining = record { is = refl }; failed = record { is = refl }; culprits = record { is = refl }; inside = λ n d. d }

  module _ (mem : Memory) (k : ℕ) (d : Clearing mem₀ mem k) where
    pub clear_inside : (n : ℕ) → Inside mem₀ n → k < n → Inside mem (k + 1)
    clear_inside n i h =
        let x = d.inside n i in
        record { held = omega (arith, x.held); remaining = omega (arith, x.remaining); failed = omega (arith, x.failed); culprits = omega (arith, x.culprits) }

    pub clear_next : (e : MonState) (mem' : Memory) → e ≡ initial_entry → mem' ≡ put mem k e → Clearing mem₀ mem' (k + 1)
    clear_next e mem' p q = subst (λ (x : Memory). Clearing mem₀ x (k + 1)) (sym (q ∙ ap (put mem k) p))
        record { held = more d.held; remaining = more d.remaining; failed = more d.failed; culprits = more d.culprits; inside = λ n i. inside_put mem k initial_entry n (d.inside n i) }
      where
        more : {A : Type 0} {v : A} {l₀ l : List A} → Stored (λ (j : ℕ). replicate j v) l₀ l k → Stored (λ (j : ℕ). replicate j v) l₀ (set l k v) (k + 1)
        more {v = v} {l₀ = l₀} {l = l} x = stored_more (λ (j : ℕ). replicate j v) l₀ l k v (length-replicate k v) (replicate_more k v) x

    pub clear_all : mem ≡ cleared mem₀ k
    clear_all = λ i. record { held = d.held.is i; remaining = d.remaining.is i; failed = d.failed.is i; culprits = d.culprits.is i }

-- ---- a column
column_suc : (nodes : List ℕ) (col i k : ℕ) → column nodes col i (suc k) ≡ column nodes col i k ++ (get_or nodes (7 * (i + k) + col) 0 ∷ [])
unfolding column
column_suc nodes col i zero = ap (λ (j : ℕ). get_or nodes (7 * j + col) 0 ∷ []) (sym (add-zero i))
column_suc nodes col i (suc k) = ap (get_or nodes (7 * i + col) 0 ∷◌) (column_suc nodes col (i + 1) k ∙ ap (λ (j : ℕ). column nodes col (i + 1) k ++ (get_or nodes (7 * j + col) 0 ∷ [])) (further i k))
  where
    further : (i k : ℕ) → i + 1 + k ≡ i + suc k
    further i k = omega arith

column_more : (nodes : List ℕ) (col i k : ℕ) → column nodes col i (k + 1) ≡ column nodes col i k ++ (get_or nodes (7 * (i + k) + col) 0 ∷ [])
column_more nodes col i k = ap (column nodes col i) (add-one k) ∙ column_suc nodes col i k

column_length : (nodes : List ℕ) (col i k : ℕ) → length (column nodes col i k) ≡ k
unfolding column
column_length nodes col i zero = refl
column_length nodes col i (suc k) = ap suc (column_length nodes col (i + 1) k)

module _ (nodes : List ℕ) (col nfirst : ℕ) (out₀ : List ℕ) where
  pub column_start : Stored (column nodes col nfirst) out₀ out₀ 0
  unfolding column
  column_start = record { is = refl }

  pub column_next : (out : List ℕ) (k : ℕ) → Stored (column nodes col nfirst) out₀ out k
      → Stored (column nodes col nfirst) out₀ (set out k (get_or nodes (7 * (nfirst + k) + col) 0)) (k + 1)
  column_next out k d = stored_more (column nodes col nfirst) out₀ out k (get_or nodes (7 * (nfirst + k) + col) 0) (column_length nodes col nfirst k) (column_more nodes col nfirst k) d

-- ---- the whole monitor
module _ (t : LentTables) (forms bounds : List ℕ) (mem : Memory) where
  answered : (r : Result ℕ Refusal) (c : Making) → r ≡ c.answer → fresh_call t forms bounds mem ≡ c → FreshAnswers t forms bounds mem r c.forms c.bounds c.memory
  answered r c a s = record {
    answers = a ∙ sym (ap (λ (x : Making). x.answer) s);
    forms_are = sym (ap (λ (x : Making). x.forms) s);
    bounds_are = sym (ap (λ (x : Making). x.bounds) s);
    memory_is = sym (ap (λ (x : Making). x.memory) s);
  }

  pub made_refused : (r : Refusal) → refusal_to_make t forms bounds mem ≡ Some r → FreshAnswers t forms bounds mem (Err r) forms bounds mem
  unfolding fresh_call refusal_to_make
  made_refused r e = answered (Err r) (refuse r forms bounds mem) refl (go (lent_of t.ops t.nums t.nodes forms bounds mem) (rule_mon t) e)
    where
      same : {a b : Refusal} → Some a ≡ Some b → a ≡ b
      same q = cc

      go : (b : Bool) (o : Option Mon) → pick b (ruleless o) (Some Short) ≡ Some r → or_short b forms bounds mem (make_mon o t forms bounds mem) ≡ refuse r forms bounds mem
      go true none h = ap (λ (x : Refusal). refuse x forms bounds mem) (same h)
      go true (some m) h = cc
      go false o h = ap (λ (x : Refusal). refuse x forms bounds mem) (same h)

  pub made_all : (forms' bounds' : List ℕ) (mem' : Memory) → refusal_to_make t forms bounds mem ≡ None → Makes t.nodes t.nfirst t.ncount forms bounds mem forms' bounds' mem'
      → FreshAnswers t forms bounds mem (Ok t.ncount) forms' bounds' mem'
  unfolding fresh_call
  made_all forms' bounds' mem' e a =
      let d = admitted t forms bounds mem e in
      let x = answered (Ok t.ncount) (make_mon (some d.mon) t forms bounds mem) refl (ap₂ (λ (x : Bool) (y : Option Mon). or_short x forms bounds mem (make_mon y t forms bounds mem)) d.room d.rule) in
      record { answers = x.answers; forms_are = a.forms_are ∙ x.forms_are; bounds_are = a.bounds_are ∙ x.bounds_are; memory_is = a.memory_is ∙ x.memory_is }
