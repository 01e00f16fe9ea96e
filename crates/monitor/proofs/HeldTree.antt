-- The compiled rule that the tables hold: `compiled_of` gives a tree exactly where `HoldsTree` says so, and `is_compiled` tests that.
use mathlib.Core.Path.{◌≡◌, refl, sym, ap, ap₂, ◌∙◌}
use mathlib.Core.Bool.{Bool, true, false, ◌&&◌}
use mathlib.Core.List.{List, ◌∷◌}
use mathlib.Core.Option.{Option, none, some}
use Prim.Native.Nat.{ℕ, zero, suc, ◌+◌, ◌-◌, ◌*◌, ◌/◌, ◌≤◌, ◌<◌}
use native.Mathlib.Omega.{arith}
use lib.Dec.{leb, eqb}
use lib.ListN.{length}
use borrow.Author.Tests.{le-leb, leb-true, eqb-true, eqb-false}
use Rattle.formula.specs.Tree.{Tree, leaf, one, two, tree_of, size, depth, all}
use Rattle.formula.specs.Spells.{run, Spells}
use Rattle.formula.specs.Formula.{Formula}
use Rattle.formula.specs.Table.{IsRule, is_some, keep, rule_of}
use Rattle.formula.specs.Walk.{Walked}
use Rattle.std.specs.Prelude.{None, Option as Opt, Some}
use Rattle.std.specs.Option.{option_eq}
use Rattle.formula.proofs.Trees.{some_inj, none_some, tree_spells, spells_tree, spells_unique}
use Rattle.formula.proofs.Walks.{both_true}
use Rattle.formula.proofs.Rules.{keep_inv}
use Rattle.monitor.specs.Mon.{Check, Mon}
use Rattle.monitor.specs.Table.{Never, Join, cell_at, cell_by, cells, row_of, from_tree, limited_mon, mon_of, mon_by, compiled_of, any_check}

module _ (ops nums : List ℕ) (first count : ℕ) (nodes : List ℕ) (nfirst ncount : ℕ) where
  pub record HoldsTree (f : Formula) (t : Tree Check Never Join) : Type 0 where
    pub rule : rule_of ops nums first count ≡ some f
    pub few : ncount ≤ 256
    pub in_nodes : 7 * (nfirst + ncount) ≤ length nodes
    pub spells : Spells (cells ops nums first count nodes) nfirst t
    pub covers : size t ≡ ncount
    pub shallow : depth t ≤ 64

  same_cells : (f : Formula) → rule_of ops nums first count ≡ some f → (i n : ℕ) → run (cells ops nums first count nodes) i n ≡ run (cell_at f first nodes) i n
  unfolding run cells cell_at
  same_cells f e i zero = refl
  same_cells f e i (suc n) = ap₂ ◌∷◌ (ap (λ (o : Option Formula). cell_by o first (row_of nodes i)) e) (same_cells f e (i + 1) n)

  pub held : (f : Formula) (t : Tree Check Never Join) → HoldsTree f t → compiled_of ops nums first count nodes nfirst ncount ≡ some (from_tree t)
  unfolding compiled_of mon_of
  held f t h =
      ap (λ (o : Option Formula). mon_by o first nodes nfirst ncount) h.rule
      ∙ ap₂ (λ (b : Bool) (o : Option Mon). keep b o)
      (ap₂ ◌&&◌ (le-leb ncount 256 h.few) (le-leb (7 * (nfirst + ncount)) (length nodes) h.in_nodes))
      (ap limited_mon
      (ap tree_of (sym (same_cells f h.rule nfirst ncount))
      ∙ ap (λ (n : ℕ). tree_of (run (cells ops nums first count nodes) nfirst n)) (sym h.covers)
      ∙ spells_tree (cells ops nums first count nodes) nfirst t h.spells)
      ∙ ap (λ (b : Bool). keep b (some (from_tree t))) (le-leb (depth t) 64 h.shallow))

  limited_inv : (o : Option (Tree Check Never Join)) (m : Mon) → limited_mon o ≡ some m → (t : Tree Check Never Join) × (o ≡ some t) × (depth t ≤ 64) × (m ≡ from_tree t)
  limited_inv none m e = none_some e
  limited_inv (some t) m e =
      let (b, p) = keep_inv (leb (depth t) 64) (some (from_tree t)) m e in
      (t, refl, leb-true _ _ b, sym (some_inj p))

  pub held_inv : (m : Mon) → compiled_of ops nums first count nodes nfirst ncount ≡ some m → (f : Formula) × (t : Tree Check Never Join) × HoldsTree f t × (m ≡ from_tree t)
  unfolding compiled_of mon_of
  held_inv m e = go (rule_of ops nums first count) refl e
    where
      go : (o : Option Formula) → rule_of ops nums first count ≡ o → mon_by o first nodes nfirst ncount ≡ some m → (f : Formula) × (t : Tree Check Never Join) × HoldsTree f t × (m ≡ from_tree t)
      go none r e = none_some e
      go (some f) r e =
          let (b, p) = keep_inv (leb ncount 256 && leb (7 * (nfirst + ncount)) (length nodes)) _ m e in
          let (c, d) = both_true (leb ncount 256) _ b in
          let (t, o, w, q) = limited_inv _ m p in
          let (s, z) = tree_spells (cells ops nums first count nodes) nfirst ncount t (ap tree_of (same_cells f r nfirst ncount) ∙ o) in
          (f, t, record { rule = r; few = leb-true _ _ c; in_nodes = leb-true _ _ d; spells = s; covers = z; shallow = w }, q)

  none_held : ((f : Formula) (t : Tree Check Never Join) → HoldsTree f t → ⊥) → false ≡ is_some (compiled_of ops nums first count nodes nfirst ncount)
  none_held h = go (compiled_of ops nums first count nodes nfirst ncount) refl
    where
      go : (o : Option Mon) → compiled_of ops nums first count nodes nfirst ncount ≡ o → false ≡ is_some o
      go none e = refl
      go (some m) e = let (f, t, x, q) = held_inv m e in absurd (h f t x)

  pub no_formula : (c : Bool) → c ≡ is_some (rule_of ops nums first count) → c ≡ false → false ≡ is_some (compiled_of ops nums first count nodes nfirst ncount)
  no_formula c p q = none_held λ f t h.
      let z : ◌≡◌ {A = Bool} true false = sym (ap is_some h.rule) ∙ sym p ∙ q in
      let z' : ◌≡◌ {A = ℕ} 0 1 = cc in omega arith

  pub many_nodes : 256 < ncount → false ≡ is_some (compiled_of ops nums first count nodes nfirst ncount)
  many_nodes h = none_held (λ f t x. omega arith)

  pub past_nodes : length nodes / 7 < ncount → false ≡ is_some (compiled_of ops nums first count nodes nfirst ncount)
  past_nodes h = none_held (λ f t x. omega arith)

  pub past_nodes_from : ncount ≤ length nodes / 7 → length nodes / 7 - ncount < nfirst → false ≡ is_some (compiled_of ops nums first count nodes nfirst ncount)
  past_nodes_from g h = none_held (λ f t x. omega arith)

  pub end_inside : ncount ≤ length nodes / 7 → nfirst ≤ length nodes / 7 - ncount → 7 * (nfirst + ncount) ≤ length nodes
  end_inside g h = omega arith

  all_any : (t : Tree Check Never Join) → all any_check t ≡ true
  unfolding all
  all_any (leaf c) = refl
  all_any (one n t) = elim n [ ]
  all_any (two j l r) = ap₂ ◌&&◌ (all_any l) (all_any r)

  module _ (w : Opt ℕ) (x : Walked (cells ops nums first count nodes) any_check nfirst (nfirst + ncount) 64 w) where
    no_nodes : w ≡ None → false ≡ is_some (compiled_of ops nums first count nodes nfirst ncount)
    no_nodes q = none_held (λ f t h. x.stuck q (nfirst + ncount) t (record { spells = h.spells; ends = omega (arith, h.covers); inside = omega arith; shallow = h.shallow; good = all_any t }))

    other_end : (e : ℕ) → w ≡ Some e → (e ≡ nfirst + ncount → ⊥) → false ≡ is_some (compiled_of ops nums first count nodes nfirst ncount)
    other_end e q n = none_held λ f t h.
        let (u, s) = x.found e q in
        let m : u ≡ t = spells_unique (cells ops nums first count nodes) nfirst u t s.spells h.spells in
        n (s.ends ∙ ap (λ (y : Tree Check Never Join). nfirst + size y) m ∙ ap (λ (k : ℕ). nfirst + k) h.covers)

    -- the walk ends where the part does exactly where a compiled rule stands there
    pub nodes_end : IsRule ops nums first count → ncount ≤ 256 → ncount ≤ length nodes / 7 → nfirst ≤ length nodes / 7 - ncount
        → option_eq eqb w (Some (nfirst + ncount)) ≡ is_some (compiled_of ops nums first count nodes nfirst ncount)
    nodes_end u a b c = go w refl
      where
        all_nodes : (e : ℕ) → w ≡ Some e → e ≡ nfirst + ncount → true ≡ is_some (compiled_of ops nums first count nodes nfirst ncount)
        all_nodes e q n =
            let (t, s) = x.found e q in
            sym (ap is_some (held u.formula t (record { rule = u.is; few = a; in_nodes = end_inside b c; spells = s.spells; covers = omega (arith, s.ends); shallow = s.shallow })))

        same : (e : ℕ) (t : Bool) → eqb e (nfirst + ncount) ≡ t → w ≡ Some e → t ≡ is_some (compiled_of ops nums first count nodes nfirst ncount)
        same e true h q = all_nodes e q (eqb-true _ _ h)
        same e false h q = other_end e q (eqb-false _ _ h)

        go : (o : Opt ℕ) → w ≡ o → option_eq eqb o (Some (nfirst + ncount)) ≡ is_some (compiled_of ops nums first count nodes nfirst ncount)
        go None q = no_nodes q
        go (Some e) q = same e _ refl q
