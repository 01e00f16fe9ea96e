-- The cells of two compiled rules agree one for one exactly where the rules are alike.
use mathlib.Core.Path.{◌≡◌, refl, sym, ap, ap₂, subst, ◌∙◌}
use mathlib.Core.Bool.{Bool, true, false, ◌&&◌}
use mathlib.Core.List.{List, [], ◌∷◌, ◌++◌, append_assoc, append-nil}
use mathlib.Core.Option.{Option, none, some}
use Prim.Native.Nat.{ℕ, suc}
use native.Mathlib.Omega.{arith}
use lib.ListN.{length}
use Rattle.formula.specs.Tree.{Tree, leaf, one, two, leaf_of, unknown, prefix}
use Rattle.formula.specs.Formula.{Formula}
use Rattle.formula.specs.Table.{Rule}
use Rattle.formula.proofs.Trees.{some_inj}
use Rattle.monitor.specs.declared.node.SignalExpr.{SignalExpr}
use Rattle.monitor.specs.declared.node.SignalExpr.TheVariants.{True, At}
use Rattle.monitor.specs.declared.node.MonNode.{MonNode}
use Rattle.monitor.specs.declared.node.MonNode.TheVariants.{RangeCheck, DelayedCheck, Obligation, And as AndNode, Or as OrNode}
use Rattle.std.specs.Prelude.{None, Option as Opt, Some}
use Rattle.monitor.specs.declared.range.AnchorRange.{AnchorRange}
use Rattle.monitor.specs.Mon.{Signal, Check, range_check, delayed_check, obligation}
use Rattle.monitor.specs.Table.{Never, Join, join_and, join_or, Cell, signal_of, checked, cell_of, from_tree}
use Rattle.monitor.proofs.Signals.{signal_inv}
use Rattle.alike.specs.Alike.{alike_mon}
use Rattle.alike.specs.Signs.{Means}
use Rattle.alike.specs.Rows.{alike_cell, alike_cells, Shows}

-- ---- trees
and_assoc : (a b c : Bool) → (a && (b && c)) ≡ ((a && b) && c)
and_assoc true b c = refl
and_assoc false b c = refl

agree_pair : (ls rs ls' rs' xs ys : List Cell) (a b : Bool) → alike_cells (ls ++ (rs ++ xs)) (ls' ++ (rs' ++ ys)) ≡ (a && alike_cells (rs ++ xs) (rs' ++ ys))
    → alike_cells (rs ++ xs) (rs' ++ ys) ≡ (b && alike_cells xs ys) → alike_cells ((ls ++ rs) ++ xs) ((ls' ++ rs') ++ ys) ≡ ((a && b) && alike_cells xs ys)
agree_pair ls rs ls' rs' xs ys a b p q =
    ap₂ alike_cells (append_assoc ls rs xs) (append_assoc ls' rs' ys)
    ∙ p
    ∙ ap (a &&◌) q
    ∙ and_assoc a b (alike_cells xs ys)

agree_trees : (t u : Tree Check Never Join) (xs ys : List Cell) → alike_cells (prefix t ++ xs) (prefix u ++ ys) ≡ (alike_mon (from_tree t) (from_tree u) && alike_cells xs ys)
unfolding prefix alike_cells alike_mon from_tree
agree_trees (leaf c) (leaf d) xs ys = refl
agree_trees (leaf c) (one n u) xs ys = elim n [ ]
agree_trees (leaf c) (two join_and l r) xs ys = refl
agree_trees (leaf c) (two join_or l r) xs ys = refl
agree_trees (one n t) u xs ys = elim n [ ]
agree_trees (two j l r) (one n u) xs ys = elim n [ ]
agree_trees (two join_and l r) (leaf d) xs ys = refl
agree_trees (two join_or l r) (leaf d) xs ys = refl
agree_trees (two join_and l r) (two join_or l' r') xs ys = refl
agree_trees (two join_or l r) (two join_and l' r') xs ys = refl
agree_trees (two join_and l r) (two join_and l' r') xs ys =
    agree_pair (prefix l) (prefix r) (prefix l') (prefix r') xs ys (alike_mon (from_tree l) (from_tree l')) (alike_mon (from_tree r) (from_tree r')) (agree_trees l l' (prefix r ++ xs) (prefix r' ++ ys)) (agree_trees r r' xs ys)
agree_trees (two join_or l r) (two join_or l' r') xs ys =
    agree_pair (prefix l) (prefix r) (prefix l') (prefix r') xs ys (alike_mon (from_tree l) (from_tree l')) (alike_mon (from_tree r) (from_tree r')) (agree_trees l l' (prefix r ++ xs) (prefix r' ++ ys)) (agree_trees r r' xs ys)

and_true : (a : Bool) → (a && true) ≡ a
and_true true = refl
and_true false = refl

pub trees_alike : (t u : Tree Check Never Join) → alike_mon (from_tree t) (from_tree u) ≡ alike_cells (prefix t) (prefix u)
unfolding alike_cells
trees_alike t u = sym
    (ap₂ alike_cells (sym (append-nil (prefix t))) (sym (append-nil (prefix u)))
    ∙ agree_trees t u [] []
    ∙ and_true (alike_mon (from_tree t) (from_tree u)))

and_false : (a : Bool) → (a && false) ≡ false
and_false true = refl
and_false false = refl

pub lengths_differ : (xs ys : List Cell) → (length xs ≡ length ys → ⊥) → alike_cells xs ys ≡ false
unfolding alike_cells
lengths_differ [] [] h = absurd (h refl)
lengths_differ [] (y ∷ ys) h = refl
lengths_differ (x ∷ xs) [] h = refl
lengths_differ (x ∷ xs) (y ∷ ys) h = ap (alike_cell x y &&◌) (lengths_differ xs ys (λ e. h (ap suc e))) ∙ and_false (alike_cell x y)

-- ---- a known cell of a rule's table is shown by its row
module _ (ops nums : List ℕ) (first count : ℕ) (f : Formula) (rule : Rule ops nums first count f) where
  signal_means : (e : SignalExpr) (x : Signal) → signal_of f first e ≡ some x → Means ops nums e x
  signal_means True x h = subst (Means ops nums True) (some_inj h) (record { is = refl; sound = omega arith })
  signal_means (At p) x h =
      let (g, e, s) = signal_inv ops nums first count f rule p x h in
      subst (Means ops nums (At p)) (sym e) (record { is = refl; sound = record { spells = s.spells; is_pure = s.is_pure; in_ops = s.in_ops; in_nums = s.in_nums } })

  shows_one : (s : SignalExpr) (r : AnchorRange) (o : Option Signal) → signal_of f first s ≡ o → (checked (λ x. leaf_of (range_check x r)) o ≡ unknown → ⊥)
      → Shows ops nums (Some (RangeCheck s r)) (checked (λ x. leaf_of (range_check x r)) o)
  shows_one s r none e h = absurd (h refl)
  shows_one s r (some x) e h =
      let m = signal_means s x e in
      record { is = ap (λ (y : SignalExpr). Some (RangeCheck y r)) m.is; known = h; sound = (m.sound, m.sound) }

  shows_delayed : (s t : SignalExpr) (r : AnchorRange) (o o' : Option Signal) → signal_of f first s ≡ o → signal_of f first t ≡ o'
      → (checked (λ x. checked (λ y. leaf_of (delayed_check x y r)) o') o ≡ unknown → ⊥)
      → Shows ops nums (Some (DelayedCheck s t r)) (checked (λ x. checked (λ y. leaf_of (delayed_check x y r)) o') o)
  shows_delayed s t r none o' e e' h = absurd (h refl)
  shows_delayed s t r (some x) none e e' h = absurd (h refl)
  shows_delayed s t r (some x) (some y) e e' h =
      let m = signal_means s x e in
      let n = signal_means t y e' in
      record { is = ap₂ (λ (a b : SignalExpr). Some (DelayedCheck a b r)) m.is n.is; known = h; sound = (m.sound, n.sound) }

  shows_owed : (b : ℕ) (s t : SignalExpr) (r : AnchorRange) (o o' : Option Signal) → signal_of f first s ≡ o → signal_of f first t ≡ o'
      → (checked (λ x. checked (λ y. leaf_of (obligation b x y r)) o') o ≡ unknown → ⊥)
      → Shows ops nums (Some (Obligation b s t r)) (checked (λ x. checked (λ y. leaf_of (obligation b x y r)) o') o)
  shows_owed b s t r none o' e e' h = absurd (h refl)
  shows_owed b s t r (some x) none e e' h = absurd (h refl)
  shows_owed b s t r (some x) (some y) e e' h =
      let m = signal_means s x e in
      let n = signal_means t y e' in
      record { is = ap₂ (λ (a c : SignalExpr). Some (Obligation b a c r)) m.is n.is; known = h; sound = (m.sound, n.sound) }

  pub cell_shown : (w : Opt MonNode) → (cell_of f first w ≡ unknown → ⊥) → Shows ops nums w (cell_of f first w)
  cell_shown (Some (RangeCheck s r)) h = shows_one s r (signal_of f first s) refl h
  cell_shown (Some (DelayedCheck s t r)) h = shows_delayed s t r (signal_of f first s) (signal_of f first t) refl refl h
  cell_shown (Some (Obligation b s t r)) h = shows_owed b s t r (signal_of f first s) (signal_of f first t) refl refl h
  cell_shown (Some AndNode) h = record { is = refl; known = h; sound = omega arith }
  cell_shown (Some OrNode) h = record { is = refl; known = h; sound = omega arith }
  cell_shown None h = absurd (h refl)
