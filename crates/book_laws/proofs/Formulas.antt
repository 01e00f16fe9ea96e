-- The nodes of a rule in hand: whatever trees stand at the places still due, the nodes read so far and theirs are one formula.
use mathlib.Core.Path.{◌≡◌, sym, ap, ap₂, subst, ◌∙◌}
use mathlib.Core.Bool.{true, ◌&&◌}
use mathlib.Core.List.{List, [], ◌∷◌, ◌++◌, append_assoc, append-nil}
use mathlib.Core.Logic.{⊎_elim}
use Prim.Native.Nat.{ℕ, suc, ◌+◌, ◌≤◌}
use native.Mathlib.Omega.{arith}
use borrow.Author.Tests.{lt-ltb, le-ltb, le-leb}
use Rattle.number.proofs.Numbers.{below_or}
use Rattle.formula.specs.Tree.{leaf, one, two, leaf_of, one_of, two_of, depth, prefix, all}
use Rattle.formula.specs.Formula.{Atom, Unary, Binary, Formula, Node, node, signal}
use Rattle.formula.specs.Table.{in_word}
use Rattle.formula.proofs.Nodes.{node_leaf, node_one, node_two}
use Rattle.line.proofs.Sane.{NodeSane}
use Rattle.book.specs.Book.{spend}

-- trees that may stand at the depths that are due: none reaches below depth 64, and atoms are within a word
pub Fits : List Formula → List ℕ → Type 0
Fits [] [] = Unit
Fits [] (d ∷ ds) = ⊥
Fits (t ∷ ts) [] = ⊥
Fits (t ∷ ts) (d ∷ ds) = (depth t + d ≤ 65) × (all in_word t ≡ true) × Fits ts ds

pub prefixes : List Formula → List Node
prefixes [] = []
prefixes (t ∷ ts) = prefix t ++ prefixes ts

pub record Formulated (toks : List Node) : Type 0 where
  pub formula : Formula
  pub is : toks ≡ prefix formula
  pub shallow : depth formula ≤ 64
  pub word_fits : all in_word formula ≡ true

-- the nodes read so far, and the depths still due
pub record Opens (cur : List Node) (due : List ℕ) : Type 0 where
  pub with_trees : (ts : List Formula) → Fits ts due → Formulated (cur ++ prefixes ts)

pub opens_first : Opens [] (1 ∷ [])
unfolding Fits prefixes
opens_first = record { with_trees = go }
  where
    go : (ts : List Formula) → Fits ts (1 ∷ []) → Formulated ([] ++ prefixes ts)
    go [] h = absurd h
    go (t ∷ []) h = record { formula = t; is = append-nil (prefix t); shallow = omega (arith, h.0); word_fits = h.1 }
    go (t ∷ u ∷ ts) h = absurd h.2

pub opens_done : (cur : List Node) → Opens cur [] → Formulated cur
unfolding Fits prefixes
opens_done cur o = subst Formulated (append-nil cur) (o.with_trees [] tt)

-- one node more
snoc : (cur : List Node) (x : Node) (r : List Node) → cur ++ x ∷ r ≡ (cur ++ x ∷ []) ++ r
snoc cur x r = sym (append_assoc cur (x ∷ []) r)

module _ (cur : List Node) (d : ℕ) (r : List ℕ) (o : Opens cur (d ∷ r)) (low : d ≤ 64) where
  opens_leaf : (a : Atom) → in_word a ≡ true → Opens (cur ++ leaf_of a ∷ []) r
  unfolding Fits prefixes prefix depth all
  opens_leaf a w = record { with_trees = go }
    where
      go : (ts : List Formula) → Fits ts r → Formulated ((cur ++ leaf_of a ∷ []) ++ prefixes ts)
      go ts h = subst Formulated (snoc cur (leaf_of a) (prefixes ts)) (o.with_trees (leaf a ∷ ts) (omega arith, w, h))

  opens_one : (u : Unary) → Opens (cur ++ one_of u ∷ []) (suc d ∷ r)
  unfolding Fits prefixes prefix depth all
  opens_one u = record { with_trees = go }
    where
      go : (ts : List Formula) → Fits ts (suc d ∷ r) → Formulated ((cur ++ one_of u ∷ []) ++ prefixes ts)
      go [] h = absurd h
      go (t ∷ ts) h = subst Formulated (snoc cur (one_of u) (prefix t ++ prefixes ts)) (o.with_trees (one u t ∷ ts) (omega (arith, h.0), h.1, h.2))

  opens_two : (p : Binary) → Opens (cur ++ two_of p ∷ []) (suc d ∷ suc d ∷ r)
  unfolding Fits prefixes prefix depth all
  opens_two p = record { with_trees = go }
    where
      go : (ts : List Formula) → Fits ts (suc d ∷ suc d ∷ r) → Formulated ((cur ++ two_of p ∷ []) ++ prefixes ts)
      go [] h = absurd h
      go (t ∷ []) h = absurd h.2
      go (t ∷ v ∷ ts) h =
          subst Formulated (ap (λ (x : List Node). cur ++ two_of p ∷ x) (append_assoc (prefix t) (prefix v) (prefixes ts)) ∙ snoc cur (two_of p) (prefix t ++ (prefix v ++ prefixes ts)))
          (o.with_trees (two p t v ∷ ts) (omega (arith, h.0, h.2.0), ap₂ ◌&&◌ h.1 h.2.1, h.2.2))

pub opens_node : (cur : List Node) (d : ℕ) (r : List ℕ) (op v : ℕ)
    → Opens cur (d ∷ r)
    → d ≤ 64
    → NodeSane op v
    → Opens (cur ++ node op v ∷ []) (spend op (d ∷ r))
unfolding spend
opens_node cur d r op v o low k = ⊎_elim
    (λ h. let (a, e, n) = node_leaf op v h in
    rw (e, lt-ltb op 3 h) (opens_leaf cur d r o low a (le-leb (signal a) 63 (subst (λ (x : ℕ). x ≤ 63) (sym n) (omega (arith, k.signal h))))))
    (λ g. ⊎_elim
    (λ h. let (u, e) = node_one op v g h in rw (e, le-ltb op 3 g, lt-ltb op 9 h) (opens_one cur d r o low u))
    (λ h. let (p, e) = node_two op v h k.known in rw (e, le-ltb op 3 g, le-ltb op 9 h) (opens_two cur d r o low p))
    (below_or op 9))
    (below_or op 3)
