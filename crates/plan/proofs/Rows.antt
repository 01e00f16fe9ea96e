-- Where a part of a node table is a compiled rule, its rows give that rule's pieces.
use mathlib.Core.Path.{◌≡◌, refl, sym, ap, ap₂, ◌∙◌}
use mathlib.Core.Bool.{◌&&◌}
use mathlib.Core.List.{List, [], ◌∷◌, ◌++◌}
use mathlib.Core.Option.{Option, none, some}
use Prim.Native.Nat.{ℕ, zero, suc, ◌+◌, ◌*◌, ◌≤◌}
use native.Mathlib.Omega.{arith}
use native.Mathlib.Numerals.{one-add}
use native.Mathlib.Nat.{add_assoc}
use borrow.Author.Tests.{leb-true, le-ltb, ne_eqb}
use lib.Dec.{leb, ltb}
use lib.ListN.{length}
use Rattle.terms.specs.Choice.{pick}
use Rattle.formula.specs.Tree.{Tree, leaf, one, two, leaf_of, two_of, unknown, size, depth}
use Rattle.formula.specs.Spells.{Spells}
use Rattle.formula.specs.Formula.{Formula}
use Rattle.formula.specs.Table.{rule_of}
use Rattle.formula.proofs.Trees.{some_inj, none_some, tree_spells}
use Rattle.formula.proofs.Walks.{both_true}
use Rattle.formula.proofs.Rules.{keep_inv}
use Rattle.monitor.specs.declared.range.AnchorRange.{AnchorRange}
use Rattle.monitor.specs.declared.node.SignalExpr.{SignalExpr}
use Rattle.monitor.specs.declared.node.MonNode.{MonNode}
use Rattle.monitor.specs.declared.node.MonNode.TheVariants.{RangeCheck, DelayedCheck, Obligation, And as AndNode, Or as OrNode}
use Rattle.std.specs.Prelude.{None, Option as Opt, Some}
use Rattle.monitor.specs.Mon.{Signal, Check, range_check, delayed_check, obligation, Mon}
use Rattle.monitor.specs.Table.{form_at, cell, row_of, range_from, expr_from, signal_of, Never, Join, join_and, join_or, Cell, checked, cell_of, cell_at, from_tree, limited_mon, mon_of, mon_by, compiled_of}
use Rattle.plan.specs.Layout.{nothing, register, owing, check_piece, pieces, total, bits}
use Rattle.plan.specs.Rows.{piece_of, row_piece, row_pieces, row_bits, RowsPart}
use Rattle.plan.proofs.Pieces.{rows_add}

-- ---- a token that is known says what its row's form and bound are
unknown_leaf : {c : Check} {B : Type 0} → ◌≡◌ {A = Cell} unknown (leaf_of c) → B
unknown_leaf e = let z : ◌≡◌ {A = ℕ} 0 1 = cc in absurd (omega arith)

unknown_two : {j : Join} {B : Type 0} → ◌≡◌ {A = Cell} unknown (two_of j) → B
unknown_two e = let z : ◌≡◌ {A = ℕ} 0 1 = cc in absurd (omega arith)

leaf_two : {c : Check} {j : Join} {B : Type 0} → ◌≡◌ {A = Cell} (leaf_of c) (two_of j) → B
leaf_two e = let z : ◌≡◌ {A = ℕ} 0 1 = cc in absurd (omega arith)

leaf_inj : {c d : Check} → ◌≡◌ {A = Cell} (leaf_of c) (leaf_of d) → c ≡ d
leaf_inj e = cc

-- what the row of seven numbers says, by its form
abbrev row_by : ℕ → ℕ → SignalExpr → SignalExpr → AnchorRange → Opt MonNode
row_by form b s t r =
    pick (ltb form 1) (Some (RangeCheck s r))
    (pick (ltb form 2) (Some (DelayedCheck s t r))
    (pick (ltb form 3) (Some (Obligation b s t r))
    (pick (ltb form 4) (Some AndNode)
    (pick (ltb form 5) (Some OrNode) None))))

row_past : (form b : ℕ) (s t : SignalExpr) (r : AnchorRange) → 5 ≤ form → row_by form b s t r ≡ None
row_past form b s t r h =
    let h₁ : 1 ≤ form = omega arith in
    let h₂ : 2 ≤ form = omega arith in
    let h₃ : 3 ≤ form = omega arith in
    let h₄ : 4 ≤ form = omega arith in
    rw (le-ltb form 1 h₁, le-ltb form 2 h₂, le-ltb form 3 h₃, le-ltb form 4 h₄, le-ltb form 5 h) refl

piece_past : (form b : ℕ) → 3 ≤ form → piece_of form b ≡ nothing
piece_past form b h =
    let n₁ : form ≡ 1 → ⊥ = λ e. omega arith in
    let n₂ : form ≡ 2 → ⊥ = λ e. omega arith in
    rw (ne_eqb form 1 n₁, ne_eqb form 2 n₂) refl

module _ (f : Formula) (first : ℕ) where
  one_leaf : (r : AnchorRange) (o : Option Signal) (c : Check) → checked (λ x. leaf_of (range_check x r)) o ≡ leaf_of c → nothing ≡ check_piece c
  one_leaf r none c e = unknown_leaf e
  one_leaf r (some x) c e = ap check_piece (leaf_inj e)

  delayed_leaf : (r : AnchorRange) (o p : Option Signal) (c : Check) → checked (λ x. checked (λ y. leaf_of (delayed_check x y r)) p) o ≡ leaf_of c → register ≡ check_piece c
  delayed_leaf r none p c e = unknown_leaf e
  delayed_leaf r (some x) none c e = unknown_leaf e
  delayed_leaf r (some x) (some y) c e = ap check_piece (leaf_inj e)

  owing_leaf : (b : ℕ) (r : AnchorRange) (o p : Option Signal) (c : Check) → checked (λ x. checked (λ y. leaf_of (obligation b x y r)) p) o ≡ leaf_of c → owing b ≡ check_piece c
  owing_leaf b r none p c e = unknown_leaf e
  owing_leaf b r (some x) none c e = unknown_leaf e
  owing_leaf b r (some x) (some y) c e = ap check_piece (leaf_inj e)

  two_leaf : (j : Join) (c : Check) {B : Type 0} → ◌≡◌ {A = Cell} (two_of j) (leaf_of c) → B
  two_leaf j c e = leaf_two (sym e)

  row_leaf : (form b : ℕ) (s t : SignalExpr) (r : AnchorRange) (c : Check) → cell_of f first (row_by form b s t r) ≡ leaf_of c → piece_of form b ≡ check_piece c
  row_leaf zero b s t r c e = one_leaf r (signal_of f first s) c e
  row_leaf (suc zero) b s t r c e = delayed_leaf r (signal_of f first s) (signal_of f first t) c e
  row_leaf (suc (suc zero)) b s t r c e = owing_leaf b r (signal_of f first s) (signal_of f first t) c e
  row_leaf (suc (suc (suc zero))) b s t r c e = two_leaf join_and c e
  row_leaf (suc (suc (suc (suc zero)))) b s t r c e = two_leaf join_or c e
  row_leaf (suc (suc (suc (suc (suc k))))) b s t r c e = unknown_leaf (sym (ap (cell_of f first) (row_past (suc (suc (suc (suc (suc k))))) b s t r (omega arith))) ∙ e)

  row_two : (form b : ℕ) (s t : SignalExpr) (r : AnchorRange) (j : Join) → cell_of f first (row_by form b s t r) ≡ two_of j → piece_of form b ≡ nothing
  row_two zero b s t r j e = refl
  row_two (suc zero) b s t r j e = both_signals (signal_of f first s) (signal_of f first t) e
    where
      both_signals : (o p : Option Signal) → checked (λ x. checked (λ y. leaf_of (delayed_check x y r)) p) o ≡ two_of j → register ≡ nothing
      both_signals none p q = unknown_two q
      both_signals (some x) none q = unknown_two q
      both_signals (some x) (some y) q = leaf_two q
  row_two (suc (suc zero)) b s t r j e = both_signals (signal_of f first s) (signal_of f first t) e
    where
      both_signals : (o p : Option Signal) → checked (λ x. checked (λ y. leaf_of (obligation b x y r)) p) o ≡ two_of j → owing b ≡ nothing
      both_signals none p q = unknown_two q
      both_signals (some x) none q = unknown_two q
      both_signals (some x) (some y) q = leaf_two q
  row_two (suc (suc (suc k))) b s t r j e = piece_past (suc (suc (suc k))) b (omega arith)

  module _ (nodes : List ℕ) where
    cell_leaf : (i : ℕ) (c : Check) → cell_at f first nodes i ≡ leaf_of c → row_piece nodes i ≡ check_piece c
    unfolding cell_at row_of
    cell_leaf i c e = row_leaf (form_at nodes i) (cell nodes i 1) (expr_from (cell nodes i 5)) (expr_from (cell nodes i 6)) (range_from (cell nodes i 2) (cell nodes i 3) (cell nodes i 4)) c e

    cell_two : (i : ℕ) (j : Join) → cell_at f first nodes i ≡ two_of j → row_piece nodes i ≡ nothing
    unfolding cell_at row_of
    cell_two i j e = row_two (form_at nodes i) (cell nodes i 1) (expr_from (cell nodes i 5)) (expr_from (cell nodes i 6)) (range_from (cell nodes i 2) (cell nodes i 3) (cell nodes i 4)) j e

    pieces_two : (j : Join) (l r : Tree Check Never Join) → pieces (from_tree (two j l r)) ≡ nothing ∷ pieces (from_tree l) ++ pieces (from_tree r)
    unfolding from_tree pieces
    pieces_two join_and l r = refl
    pieces_two join_or l r = refl

    tree_pieces : (t : Tree Check Never Join) (i : ℕ) → Spells (cell_at f first nodes) i t → row_pieces nodes i (size t) ≡ pieces (from_tree t)
    unfolding Spells size row_pieces from_tree pieces
    tree_pieces (leaf c) i s = ap (◌∷ []) (cell_leaf i c s)
    tree_pieces (one n t) i s = elim n [ ]
    tree_pieces (two j l r) i s =
        rw (add_assoc, one-add)
        (ap₂ ◌∷◌ (cell_two i j s.0)
        (rows_add nodes (i + 1) (size l) (size r)
        ∙ ap₂ ◌++◌ (tree_pieces l (i + 1) s.1) (tree_pieces r (i + 1 + size l) s.2))
        ∙ sym (pieces_two j l r))

    limited_inv : (o : Option (Tree Check Never Join)) (m : Mon) → limited_mon o ≡ some m → (t : Tree Check Never Join) × (o ≡ some t) × (from_tree t ≡ m)
    limited_inv none m e = none_some e
    limited_inv (some t) m e = (t, refl, some_inj (keep_inv (leb (depth t) 64) (some (from_tree t)) m e).1)

    module _ (nfirst ncount : ℕ) (m : Mon) (e : mon_of f first nodes nfirst ncount ≡ some m) where
      -- the rows of a compiled rule give its pieces, and so its bits
      pub rows_pieces : row_pieces nodes nfirst ncount ≡ pieces m
      unfolding mon_of
      rows_pieces =
          let (b, p) = keep_inv (leb ncount 256 && leb (7 * (nfirst + ncount)) (length nodes)) _ m e in
          let (t, q, u) = limited_inv _ m p in
          let (s, z) = tree_spells (cell_at f first nodes) nfirst ncount t q in
          ap (row_pieces nodes nfirst) (sym z) ∙ tree_pieces t nfirst s ∙ ap pieces u

      pub rows_bits : row_bits nodes nfirst ncount ≡ bits m
      rows_bits = ap total rows_pieces

      -- it is a part of the table
      pub compiled_part : RowsPart nodes nfirst ncount
      unfolding mon_of
      compiled_part =
          let (b, p) = keep_inv (leb ncount 256 && leb (7 * (nfirst + ncount)) (length nodes)) _ m e in
          let (x, y) = both_true (leb ncount 256) _ b in
          record { few = leb-true _ _ x; inside = leb-true _ _ y }

-- ---- the two tables together
module _ (ops nums : List ℕ) (first count : ℕ) (nodes : List ℕ) (nfirst ncount : ℕ) (m : Mon) where
  by_rule : (o : Option Formula) → mon_by o first nodes nfirst ncount ≡ some m → (f : Formula) × (mon_of f first nodes nfirst ncount ≡ some m)
  by_rule none e = none_some e
  by_rule (some f) e = (f, e)

  module _ (e : compiled_of ops nums first count nodes nfirst ncount ≡ some m) where
    pub over_formula : (f : Formula) × (mon_of f first nodes nfirst ncount ≡ some m)
    unfolding compiled_of
    over_formula = by_rule (rule_of ops nums first count) e

    pub table_bits : row_bits nodes nfirst ncount ≡ bits m
    table_bits = let (f, u) = over_formula in rows_bits f first nodes nfirst ncount m u

    pub table_part : RowsPart nodes nfirst ncount
    table_part = let (f, u) = over_formula in compiled_part f first nodes nfirst ncount m u
