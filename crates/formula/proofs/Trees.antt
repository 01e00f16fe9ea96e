-- A run of tokens reads as a tree in at most one way, and `tree_of` finds it.
use mathlib.Core.Path.{◌≡◌, refl, sym, ap, ap₂, subst, ◌∙◌}
use mathlib.Core.List.{List, [], ◌∷◌, ◌++◌, append_assoc, append-nil}
use mathlib.Core.Option.{Option, none, some}
use Prim.Native.Nat.{ℕ, zero, suc, ◌+◌, ◌-◌, ◌≤◌}
use native.Mathlib.Omega.{arith}
use native.Mathlib.Numerals.{one-add}
use native.Mathlib.Nat.{suc-add, add_assoc, add-zero}
use lib.ListN.{length, length-append}
use Rattle.formula.specs.Tree.{Tree, leaf, one, two, Token, leaf_of, one_of, two_of, unknown, size, prefix, push, forest, single, tree_of}
use Rattle.formula.specs.Spells.{run, Spells, due, reach, nodes_at}
use Rattle.formula.proofs.Nodes.{spells_leaf, spells_one, spells_two}

pub some_inj : {A : Type 0} {a b : A} → some a ≡ some b → a ≡ b
some_inj e = cc

pub none_some : {A : Type 0} {a : A} {B : Type 0} → none ≡ some a → B
none_some e = let z : ◌≡◌ {A = ℕ} 0 1 = cc in absurd (omega arith)

-- two lists of known lengths that agree when joined agree
cons_head : {A : Type 0} {x y : A} {a b : List A} → x ∷ a ≡ y ∷ b → x ≡ y
cons_head e = cc

cons_tail : {A : Type 0} {x y : A} {a b : List A} → x ∷ a ≡ y ∷ b → a ≡ b
cons_tail e = cc

append_split : {A : Type 0} (a b c d : List A) → length a ≡ length c → a ++ b ≡ c ++ d → (a ≡ c) × (b ≡ d)
append_split [] b [] d n e = (refl, e)
append_split [] b (x ∷ c) d n e = absurd (omega arith)
append_split (x ∷ a) b [] d n e = absurd (omega arith)
append_split (x ∷ a) b (y ∷ c) d n e =
    let h : (a ≡ c) × (b ≡ d) = append_split a b c d (omega arith) (cons_tail e) in
    (ap₂ ◌∷◌ (cons_head e) h.0, h.1)

module _ {L O T : Type 0} where
  -- a whole tree in front of what follows
  onto : Tree L O T → Option (List (Tree L O T)) → Option (List (Tree L O T))
  onto t none = none
  onto t (some ts) = some (t ∷ ts)

  push_none : (t : Token L O T) → push t none ≡ none
  unfolding push
  push_none t = refl

  onto_one : (o : O) (t : Tree L O T) (m : Option (List (Tree L O T))) → push (one_of o) (onto t m) ≡ onto (one o t) m
  unfolding push onto
  onto_one o t none = refl
  onto_one o t (some ts) = refl

  onto_two : (o : T) (l r : Tree L O T) (m : Option (List (Tree L O T))) → push (two_of o) (onto l (onto r m)) ≡ onto (two o l r) m
  unfolding push onto
  onto_two o l r none = refl
  onto_two o l r (some ts) = refl

  onto_leaf : (a : L) (m : Option (List (Tree L O T))) → push (leaf_of a) m ≡ onto (leaf a) m
  unfolding push onto
  onto_leaf a none = refl
  onto_leaf a (some ts) = refl

  forest_prefix : (t : Tree L O T) (rest : List (Token L O T)) → forest (prefix t ++ rest) ≡ onto t (forest rest)
  unfolding prefix forest
  forest_prefix (leaf a) rest = onto_leaf a (forest rest)
  forest_prefix (one o t) rest = ap (push (one_of o)) (forest_prefix t rest) ∙ onto_one o t (forest rest)
  forest_prefix (two o l r) rest =
      ap (λ (ts : List (Token L O T)). push (two_of o) (forest ts)) (append_assoc (prefix l) (prefix r) rest)
      ∙ ap (push (two_of o)) (forest_prefix l (prefix r ++ rest) ∙ ap (onto l) (forest_prefix r rest))
      ∙ onto_two o l r (forest rest)

  -- the tokens of trees one behind the other
  prefixes : List (Tree L O T) → List (Token L O T)
  prefixes [] = []
  prefixes (t ∷ ts) = prefix t ++ prefixes ts

  push_inv : (t : Token L O T) (ts : List (Token L O T)) (m : Option (List (Tree L O T))) (us : List (Tree L O T)) → ((vs : List (Tree L O T)) → m ≡ some vs → ts ≡ prefixes vs)
      → push t m ≡ some us → t ∷ ts ≡ prefixes us
  unfolding push prefix prefixes
  push_inv t ts none us h e = none_some e
  push_inv (leaf_of a) ts (some vs) us h e = ap (leaf_of a ∷◌) (h vs refl) ∙ ap prefixes (some_inj e)
  push_inv (one_of o) ts (some []) us h e = none_some e
  push_inv (one_of o) ts (some (v ∷ vs)) us h e = ap (one_of o ∷◌) (h (v ∷ vs) refl) ∙ ap prefixes (some_inj e)
  push_inv (two_of o) ts (some []) us h e = none_some e
  push_inv (two_of o) ts (some (l ∷ [])) us h e = none_some e
  push_inv (two_of o) ts (some (l ∷ r ∷ vs)) us h e = ap (two_of o ∷◌) (h (l ∷ r ∷ vs) refl ∙ sym (append_assoc (prefix l) (prefix r) (prefixes vs))) ∙ ap prefixes (some_inj e)
  push_inv unknown ts (some vs) us h e = none_some e

  forest_inv : (ts : List (Token L O T)) (us : List (Tree L O T)) → forest ts ≡ some us → ts ≡ prefixes us
  unfolding forest prefixes
  forest_inv [] us e = ap prefixes (some_inj e)
  forest_inv (t ∷ ts) us e = push_inv t ts (forest ts) us (forest_inv ts) e

  single_inv : (m : Option (List (Tree L O T))) (t : Tree L O T) → single m ≡ some t → m ≡ some (t ∷ [])
  single_inv none t e = none_some e
  single_inv (some []) t e = none_some e
  single_inv (some (u ∷ [])) t e = ap (λ (x : Tree L O T). some (x ∷ [])) (some_inj e)
  single_inv (some (u ∷ w ∷ ts)) t e = none_some e

  -- `tree_of` finds a tree where the tokens are that tree's, and nowhere else
  pub tree_of_prefix : (t : Tree L O T) → tree_of (prefix t) ≡ some t
  unfolding tree_of forest onto
  tree_of_prefix t = ap (λ (ts : List (Token L O T)). single (forest ts)) (sym (append-nil (prefix t))) ∙ ap single (forest_prefix t [])

  pub tree_of_inv : (ts : List (Token L O T)) (t : Tree L O T) → tree_of ts ≡ some t → ts ≡ prefix t
  unfolding tree_of prefixes
  tree_of_inv ts t e = forest_inv ts (t ∷ []) (single_inv (forest ts) t e) ∙ append-nil (prefix t)

  -- ---- places
  pub size_pos : (t : Tree L O T) → 1 ≤ size t
  unfolding size
  size_pos (leaf a) = omega arith
  size_pos (one o t) = omega arith
  size_pos (two o l r) = omega arith

  run_add : (tok : ℕ → Token L O T) (i m n : ℕ) → run tok i (m + n) ≡ run tok i m ++ run tok (i + m) n
  unfolding run
  run_add tok i zero n = rw (add-zero, native.Mathlib.Nat.zero-add) refl
  run_add tok i (suc m) n = rw suc-add (ap (tok i ∷◌) (run_add tok (i + 1) m n ∙ ap (λ (k : ℕ). run tok (i + 1) m ++ run tok k n) (omega arith)))

  run_length : (tok : ℕ → Token L O T) (i n : ℕ) → length (run tok i n) ≡ n
  unfolding run
  run_length tok i zero = refl
  run_length tok i (suc n) = ap suc (run_length tok (i + 1) n)

  pub prefix_length : (t : Tree L O T) → length (prefix t) ≡ size t
  unfolding prefix size
  prefix_length (leaf a) = refl
  prefix_length (one o t) = ap suc (prefix_length t) ∙ sym (one-add (size t))
  prefix_length (two o l r) = ap suc (length-append (prefix l) (prefix r)) ∙ omega (arith, prefix_length l, prefix_length r)

  -- what stands at a place is the tree's tokens
  pub spells_run : (tok : ℕ → Token L O T) (i : ℕ) (t : Tree L O T) → Spells tok i t → run tok i (size t) ≡ prefix t
  unfolding Spells size prefix run
  spells_run tok i (leaf a) s = ap (◌∷ []) s
  spells_run tok i (one o t) s = rw one-add (ap₂ ◌∷◌ s.0 (spells_run tok (i + 1) t s.1))
  spells_run tok i (two o l r) s =
      rw (add_assoc, one-add)
      (ap₂ ◌∷◌ s.0
      (run_add tok (i + 1) (size l) (size r)
      ∙ ap₂ ◌++◌ (spells_run tok (i + 1) l s.1) (spells_run tok (i + 1 + size l) r s.2)))

  pub run_spells : (tok : ℕ → Token L O T) (i : ℕ) (t : Tree L O T) → run tok i (size t) ≡ prefix t → Spells tok i t
  unfolding Spells size prefix run
  run_spells tok i (leaf a) e = cons_head e
  run_spells tok i (one o t) e =
      let e' : tok i ∷ run tok (i + 1) (size t) ≡ one_of o ∷ prefix t = rw one-add at e in
      (cons_head e', run_spells tok (i + 1) t (cons_tail e'))
  run_spells tok i (two o l r) e =
      let e' : tok i ∷ run tok (i + 1) (size l + size r) ≡ two_of o ∷ prefix l ++ prefix r = rw (add_assoc, one-add) at e in
      let h : (run tok (i + 1) (size l) ≡ prefix l) × (run tok (i + 1 + size l) (size r) ≡ prefix r) =
      append_split _ _ _ _ (run_length tok (i + 1) (size l) ∙ sym (prefix_length l)) (sym (run_add tok (i + 1) (size l) (size r)) ∙ cons_tail e') in
      (cons_head e', run_spells tok (i + 1) l h.0, run_spells tok (i + 1 + size l) r h.1)

  -- the n places from i on are one tree exactly where some tree of n nodes stands at i
  pub tree_spells : (tok : ℕ → Token L O T) (i n : ℕ) (t : Tree L O T) → tree_of (run tok i n) ≡ some t → Spells tok i t × (size t ≡ n)
  tree_spells tok i n t e =
      let p : run tok i n ≡ prefix t = tree_of_inv (run tok i n) t e in
      let q : size t ≡ n = sym (prefix_length t) ∙ sym (ap length p) ∙ run_length tok i n in
      (run_spells tok i t (ap (run tok i) q ∙ p), q)

  pub spells_tree : (tok : ℕ → Token L O T) (i : ℕ) (t : Tree L O T) → Spells tok i t → tree_of (run tok i (size t)) ≡ some t
  spells_tree tok i t s = ap tree_of (spells_run tok i t s) ∙ tree_of_prefix t

  -- at most one tree stands at a place
  pub spells_unique : (tok : ℕ → Token L O T) (i : ℕ) (t u : Tree L O T) → Spells tok i t → Spells tok i u → t ≡ u
  unfolding Spells
  spells_unique tok i (leaf a) u s p = sym (spells_leaf tok i a u s p)
  spells_unique tok i (one o t) u s p =
      let (u', e, q) = spells_one tok i o u s.0 p in
      ap (one o) (spells_unique tok (i + 1) t u' s.1 q) ∙ sym e
  spells_unique tok i (two o l r) u s p =
      let (l', r', e, a, b) = spells_two tok i o u s.0 p in
      let m : l ≡ l' = spells_unique tok (i + 1) l l' s.1 a in
      ap₂ (two o) m (spells_unique tok (i + 1 + size l) r r' s.2 (subst (λ (x : Tree L O T). Spells tok (i + 1 + size x) r') (sym m) b)) ∙ sym e

  -- ---- how many nodes the tree at a place has
  none_due : (tok : ℕ → Token L O T) (i n : ℕ) → reach tok i n 0 ≡ 0
  unfolding reach
  none_due tok i zero = refl
  none_due tok i (suc n) = refl

  -- a tree that is due takes its own tokens
  reach_tree : (tok : ℕ → Token L O T) (t : Tree L O T) (i k n d : ℕ) → Spells tok i t → k ≡ size t + n → reach tok i k (suc d) ≡ size t + reach tok (i + size t) n d
  unfolding reach Spells size
  reach_tree tok (leaf a) i zero n d s q = absurd (omega arith)
  reach_tree tok (leaf a) i (suc k) n d s q =
      let e : k ≡ n = omega arith in
      ap₂ (λ (x : Token L O T) (j : ℕ). 1 + reach tok (i + 1) j (due x d)) s e
  reach_tree tok (one o t) i zero n d s q = absurd (omega arith)
  reach_tree tok (one o t) i (suc k) n d s q =
      let z : i + 1 + size t ≡ i + (1 + size t) = omega arith in
      ap (λ (x : Token L O T). 1 + reach tok (i + 1) k (due x d)) s.0
      ∙ ap (1 +◌) (reach_tree tok t (i + 1) k n d s.1 (omega arith))
      ∙ sym (add_assoc 1 (size t) _)
      ∙ ap (λ (j : ℕ). 1 + size t + reach tok j n d) z
  reach_tree tok (two o l r) i zero n d s q = absurd (omega arith)
  reach_tree tok (two o l r) i (suc k) n d s q =
      let z : i + 1 + size l + size r ≡ i + (1 + size l + size r) = omega arith in
      ap (λ (x : Token L O T). 1 + reach tok (i + 1) k (due x d)) s.0
      ∙ ap (1 +◌) (reach_tree tok l (i + 1) k (size r + n) (suc d) s.1 (omega arith) ∙ ap (size l +◌) (reach_tree tok r (i + 1 + size l) (size r + n) n d s.2 refl))
      ∙ sym (add_assoc 1 (size l) _)
      ∙ sym (add_assoc (1 + size l) (size r) _)
      ∙ ap (λ (j : ℕ). 1 + size l + size r + reach tok j n d) z

  pub nodes_at_lem : (tok : ℕ → Token L O T) (i n : ℕ) (t : Tree L O T) → Spells tok i t → size t ≤ n → nodes_at tok n i ≡ size t
  nodes_at_lem tok i n t s h =
      let q : n ≡ size t + (n - size t) = omega arith in
      reach_tree tok t i n (n - size t) 0 s q ∙ ap (size t +◌) (none_due tok (i + size t) (n - size t)) ∙ add-zero (size t)
