-- The rows that `compile_formula` leaves in its output read back as the compiled rule.
--     reads_stored       wherever a table holds the rows of a rule that no refusal applies to
--     reads_back         from the output's start
--     compiled_reads     for the call's own definition, where its answer is a count of nodes
use mathlib.Core.Path.{◌≡◌, refl, sym, ap, ap₂, subst, ◌∙◌}
use mathlib.Core.Bool.{Bool, true, false, ◌&&◌}
use mathlib.Core.Logic.{⊎_elim}
use mathlib.Core.List.{List, [], ◌∷◌, ◌++◌}
use mathlib.Core.Option.{Option, none, some}
use Prim.Native.Nat.{ℕ, zero, suc, ◌+◌, ◌-◌, ◌*◌, ◌≤◌, ◌<◌}
use native.Mathlib.Omega.{arith}
use native.Mathlib.Nat.{add-zero, zero-add, suc-add}
use lib.Dec.{leb, eqb}
use lib.ListN.{length, get_or, set, take, drop, length-append, get_or-append}
use lib.Seq.{sets, sets-eq, length-sets, length-take-le, get_or-append-add, get_or-set_other}
use borrow.Author.Tests.{le-leb, leb-true, lt-ltb, le-ltb}
use Rattle.terms.specs.Choice.{pick}
use Rattle.formula.specs.Tree.{Tree, leaf, one, two, leaf_of, size, depth}
use Rattle.formula.specs.Spells.{Spells}
use Rattle.formula.specs.Formula.{Formula, Unary, Binary, not, next, always, eventually, always_for, within, and, or, implies, until}
use Rattle.formula.specs.Table.{Rule, keep, rule_of, roomy}
use Rattle.formula.specs.Pure.{pure, unless}
use Rattle.formula.proofs.Cases.{below_or}
use Rattle.formula.proofs.Faults.{cons_nil, append_nil_inv, unless_nil}
use Rattle.formula.proofs.Trees.{some_inj, none_some, size_pos}
use Rattle.formula.proofs.Rules.{rule_inv}
use Rattle.formula.proofs.Walks.{both_true}
use Rattle.monitor.specs.declared.range.End.{End}
use Rattle.monitor.specs.declared.range.End.TheVariants.{Step, Open}
use Rattle.monitor.specs.declared.range.AnchorRange.{AnchorRange}
use Rattle.monitor.specs.declared.node.SignalExpr.{SignalExpr}
use Rattle.monitor.specs.declared.node.SignalExpr.TheVariants.{True, At}
use Rattle.monitor.specs.declared.node.MonNode.{MonNode}
use Rattle.monitor.specs.declared.node.MonNode.TheVariants.{RangeCheck, DelayedCheck, Obligation, And as AndNode, Or as OrNode}
use Rattle.std.specs.Prelude.{Some}
use Rattle.monitor.specs.Range.{all_of, upto_of}
use Rattle.monitor.specs.Mon.{Signal, always_true, at, Check, range_check, delayed_check, obligation, Mon, check, And, Or, count, expr_number, has_last, last_of, expr_of, node_row, node_of, rows}
use Rattle.monitor.specs.Table.{expr_from, range_from, form_at, row_of, sub_at, pure_signal, signal_of, Never, Join, join_and, join_or, checked, cell_of, cell_by, cells, from_tree, compiled_of}
use Rattle.monitor.specs.Compile.{when, consequent, faults, implication, node, rule_faults, rule_node}
use Rattle.monitor.proofs.Rows.{expr_zero, expr_some, row_range, row_delayed, row_owed, row_and, row_or}
use Rattle.monitor.proofs.Parts.{no_part}
use Rattle.monitor.proofs.HeldTree.{held}
use Rattle.result.specs.Result.{given, refused}
use Rattle.result.specs.Refusal.{number_of}
use Rattle.result.specs.declared.Refusal.{Refusal}
use Rattle.result.specs.declared.Refusal.TheVariants.{NestedFor, ZeroFor, Antecedent, WithinOperand, NextConsequent, Consequent, NextOperand, NotOperand}
use Rattle.compiler.specs.Compiled.{first_or, compile_formula, or_short, compile_call}
use Rattle.compiler.proofs.Joining.{count_size, rows_length}

-- ---- numbers stored one behind the other
abbrev pub Stored : List ℕ → ℕ → List ℕ → Type 0
Stored l k vs = (j : ℕ) → j < length vs → get_or l (k + j) 0 ≡ get_or vs j 0

stored_left : (l : List ℕ) (k : ℕ) (xs ys : List ℕ) → Stored l k (xs ++ ys) → Stored l k xs
stored_left l k xs ys s j h = s j (omega (arith, length-append xs ys)) ∙ get_or-append xs ys 0 j h

stored_right : (l : List ℕ) (k n : ℕ) (xs ys : List ℕ) → k + length xs ≡ n → Stored l k (xs ++ ys) → Stored l n ys
stored_right l k n xs ys e s j h =
    ap (λ (i : ℕ). get_or l i 0) (omega arith) ∙ s (length xs + j) (omega (arith, length-append xs ys)) ∙ get_or-append-add xs ys j 0

pub stored : (l vs : List ℕ) (k : ℕ) → k + length vs ≤ length l → Stored (sets l k vs) k vs
stored l vs k h j w =
    let z : length (take k l) ≡ k = length-take-le k l (omega arith) in
    ap (λ (x : List ℕ). get_or x (k + j) 0) (sets-eq vs l k h)
    ∙ get_or-append (take k l ++ vs) (drop (k + length vs) l) 0 (k + j) (omega (arith, length-append (take k l) vs))
    ∙ ap (λ (i : ℕ). get_or (take k l ++ vs) (i + j) 0) (sym z)
    ∙ get_or-append-add (take k l) vs j 0

-- what stands before a run of stores stays
before_sets : (l ws : List ℕ) (i j : ℕ) → j < i → get_or (sets l i ws) j 0 ≡ get_or l j 0
before_sets l [] i j h = refl
before_sets l (w ∷ ws) i j h = before_sets (set l i w) ws (suc i) j (omega arith) ∙ get_or-set_other l i j w 0 (λ e. omega arith)

pub stored_before : (l vs ws : List ℕ) (k i : ℕ) → k + length vs ≤ i → Stored l k vs → Stored (sets l i ws) k vs
stored_before l vs ws k i h s j w = before_sets l ws i (k + j) (omega arith) ∙ s j w

-- ---- one row
expr_read : (s : SignalExpr) (n : ℕ) → n ≡ expr_number s → s ≡ expr_from n
expr_read True n e = expr_zero n e
expr_read (At p) n e = ap At (less e) ∙ expr_some n (pos e)
  where
    less : n ≡ p + 1 → p ≡ n - 1
    less h = omega arith

    pos : n ≡ p + 1 → n ≡ 0 → ⊥
    pos h g = omega arith

range_whole : (from : ℕ) (to : End) → ◌≡◌ {A = AnchorRange} (record { from = from; to = to }) (range_from from (has_last to) (last_of to))
range_whole from (Step t) = refl
range_whole from Open = refl

range_read : (r : AnchorRange) (a b c : ℕ) → a ≡ r.from → b ≡ has_last r.to → c ≡ last_of r.to → r ≡ range_from a b c
range_read r a b c p q s = rw (p, q, s) (range_whole r.from r.to)

module _ (nodes : List ℕ) (i : ℕ) where
  form_read : (n : MonNode) → Stored nodes (7 * i) (node_row n) → 0 < length (node_row n) → form_at nodes i ≡ get_or (node_row n) 0 0
  form_read n s h = ap (λ (k : ℕ). get_or nodes k 0) (sym (add-zero (7 * i))) ∙ s 0 h

  row_read : (n : MonNode) → Stored nodes (7 * i) (node_row n) → row_of nodes i ≡ Some n
  row_read (RangeCheck e r) s = sym (row_range nodes i r e True
      (range_read r _ _ _ (s 2 (omega arith)) (s 3 (omega arith)) (s 4 (omega arith)))
      (expr_read e _ (s 5 (omega arith)))
      (omega (arith, form_read (RangeCheck e r) s (omega arith))))
  row_read (DelayedCheck e d r) s = sym (row_delayed nodes i r e d
      (range_read r _ _ _ (s 2 (omega arith)) (s 3 (omega arith)) (s 4 (omega arith)))
      (expr_read e _ (s 5 (omega arith)))
      (expr_read d _ (s 6 (omega arith)))
      (omega (arith, form_read (DelayedCheck e d r) s (omega arith)))
      (omega (arith, form_read (DelayedCheck e d r) s (omega arith))))
  row_read (Obligation b e d r) s = sym (row_owed nodes i r e d
      (range_read r _ _ _ (s 2 (omega arith)) (s 3 (omega arith)) (s 4 (omega arith)))
      (expr_read e _ (s 5 (omega arith)))
      (expr_read d _ (s 6 (omega arith)))
      (omega (arith, form_read (Obligation b e d r) s (omega arith)))
      (omega (arith, form_read (Obligation b e d r) s (omega arith))))
      ∙ ap (λ (x : ℕ). Some (Obligation x e d r)) (s 1 (omega arith))
  row_read AndNode s = sym (row_and nodes i (omega (arith, form_read AndNode s (omega arith))) (omega (arith, form_read AndNode s (omega arith))))
  row_read OrNode s = sym (row_or nodes i (omega (arith, form_read OrNode s (omega arith))) (omega (arith, form_read OrNode s (omega arith))))

-- ---- parts of parts
part_whole : (f : Formula) → sub_at f 0 ≡ some f
unfolding sub_at
part_whole (leaf a) = refl
part_whole (one o f) = refl
part_whole (two o l r) = refl

part_start : (f g h : Formula) (j : ℕ) → some f ≡ some g → sub_at g j ≡ some h → sub_at f (0 + j) ≡ some h
part_start f g h j e q = ap (sub_at f) (zero-add j) ∙ ap (λ (x : Formula). sub_at x j) (some_inj e) ∙ q

part_part : (f : Formula) (k : ℕ) (g : Formula) (j : ℕ) (h : Formula) → sub_at f k ≡ some g → sub_at g j ≡ some h → sub_at f (k + j) ≡ some h
unfolding sub_at
part_part (leaf a) zero g j h e q = part_start (leaf a) g h j e q
part_part (leaf a) (suc k) g j h e q = none_some e
part_part (one o f) zero g j h e q = part_start (one o f) g h j e q
part_part (one o f) (suc k) g j h e q = ap (sub_at (one o f)) (suc-add k j) ∙ part_part f k g j h e q
part_part (two o l r) zero g j h e q = part_start (two o l r) g h j e q
part_part (two o l r) (suc k) g j h e q = ap (sub_at (two o l r)) (suc-add k j) ∙ ⊎_elim
    (λ w.
    let p : sub_at l (k + j) ≡ some h = part_part l k g j h (sym (ap (λ (b : Bool). pick b (sub_at l k) (sub_at r (k - size l))) (lt-ltb k (size l) w)) ∙ e) q in
    ⊎_elim
    (λ v. ap (λ (b : Bool). pick b (sub_at l (k + j)) (sub_at r (k + j - size l))) (lt-ltb (k + j) (size l) v) ∙ p)
    (λ v. none_some (sym (no_part l (k + j) v) ∙ p))
    (below_or (k + j) (size l)))
    (λ w.
    let p : sub_at r (k - size l + j) ≡ some h = part_part r (k - size l) g j h (sym (ap (λ (b : Bool). pick b (sub_at l k) (sub_at r (k - size l))) (le-ltb k (size l) w)) ∙ e) q in
    let z : k + j - size l ≡ k - size l + j = omega arith in
    ap (λ (b : Bool). pick b (sub_at l (k + j)) (sub_at r (k + j - size l))) (le-ltb (k + j) (size l) (omega arith)) ∙ ap (sub_at r) z ∙ p)
    (below_or k (size l))

-- ---- signals
module _ (f : Formula) (first : ℕ) where
  -- g is the part of f at place i
  record Here (i : ℕ) (g : Formula) : Type 0 where
    from : first ≤ i
    is : sub_at f (i - first) ≡ some g

  here_part : (i k : ℕ) (g h : Formula) → Here i g → sub_at g k ≡ some h → Here (i + k) h
  here_part i k g h p q =
      let z : i + k - first ≡ i - first + k = omega (arith, p.from) in
      record { from = omega (arith, p.from); is = ap (sub_at f) z ∙ part_part f (i - first) g k h p.is q }

  here_one : (i : ℕ) (o : Unary) (g : Formula) → Here i (one o g) → Here (i + 1) g
  unfolding sub_at
  here_one i o g p = here_part i 1 (one o g) g p (part_whole g)

  here_left : (i : ℕ) (o : Binary) (l r : Formula) → Here i (two o l r) → Here (i + 1) l
  unfolding sub_at
  here_left i o l r p = here_part i 1 (two o l r) l p
      (ap (λ (b : Bool). pick b (sub_at l 0) (sub_at r (0 - size l))) (lt-ltb 0 (size l) (size_pos l)) ∙ part_whole l)

  here_right : (i : ℕ) (o : Binary) (l r : Formula) → Here i (two o l r) → Here (i + 1 + size l) r
  unfolding sub_at
  here_right i o l r p =
      let z : size l - size l ≡ 0 = omega arith in
      let w : i + suc (size l) ≡ i + 1 + size l = omega arith in
      subst (λ (n : ℕ). Here n r) w
      (here_part i (suc (size l)) (two o l r) r p
      (ap (λ (b : Bool). pick b (sub_at l (size l)) (sub_at r (size l - size l))) (le-ltb (size l) (size l) (omega arith)) ∙ ap (sub_at r) z ∙ part_whole r))

  -- a signal that the rows can name
  abbrev Seen : Signal → Type 0
  Seen always_true = 0 < 1
  Seen (at p g) = Here p g × (pure g ≡ true)

  abbrev SeenCheck : Check → Type 0
  SeenCheck (range_check s r) = Seen s
  SeenCheck (delayed_check s t r) = Seen s × Seen t
  SeenCheck (obligation b s t r) = Seen s × Seen t

  unfoldable SeenMon : Mon → Type 0
  SeenMon (check c) = SeenCheck c
  SeenMon (And m n) = SeenMon m × SeenMon n
  SeenMon (Or m n) = SeenMon m × SeenMon n

  pure_read : (p : ℕ) (g : Formula) → pure g ≡ true → pure_signal p (some g) ≡ some (at p g)
  pure_read p g h = rw h refl

  signal_read : (s : Signal) → Seen s → signal_of f first (expr_of s) ≡ some s
  signal_read always_true h = refl
  signal_read (at p g) h =
      ap₂ (λ (b : Bool) (o : Option Formula). keep b (pure_signal p o)) (le-leb first p h.0.from) h.0.is ∙ pure_read p g h.1

  check_read : (c : Check) → SeenCheck c → cell_of f first (Some (node_of c)) ≡ leaf_of c
  check_read (range_check s r) h = ap (checked (λ x. leaf_of (range_check x r))) (signal_read s h)
  check_read (delayed_check s t r) h =
      ap₂ (λ (a b : Option Signal). checked (λ x. checked (λ y. leaf_of (delayed_check x y r)) b) a) (signal_read s h.0) (signal_read t h.1)
  check_read (obligation b s t r) h =
      ap₂ (λ (a c : Option Signal). checked (λ x. checked (λ y. leaf_of (obligation b x y r)) c) a) (signal_read s h.0) (signal_read t h.1)

  both_pure : (l c : Formula) → pure l ≡ true → unless (pure c) Consequent ≡ [] → (pure l && pure c) ≡ true
  both_pure l c p q = ap₂ ◌&&◌ p (unless_nil (pure c) Consequent q)

  implies_seen : (l c : Formula) (i : ℕ) (r : AnchorRange) (t : Bool) → Here i (two implies l c) → pure l ≡ true → consequent c ≡ [] → SeenCheck (implication l c i (i + 1 + size l) r t)
  unfolding implication consequent pure
  implies_seen l (leaf a) i r t p q e = (p, both_pure l (leaf a) q e)
  implies_seen l (one not x) i r t p q e = (p, both_pure l (one not x) q e)
  implies_seen l (one next x) i r t p q e =
      ((here_left i implies l (one next x) p, q), (here_one (i + 1 + size l) next x (here_right i implies l (one next x) p), unless_nil (pure x) NextConsequent e))
  implies_seen l (one always x) i r t p q e = (p, both_pure l (one always x) q e)
  implies_seen l (one eventually x) i r t p q e = (p, both_pure l (one eventually x) q e)
  implies_seen l (one (always_for b) x) i r t p q e = (p, both_pure l (one (always_for b) x) q e)
  implies_seen l (one (within b) x) i r t p q e =
      ((here_left i implies l (one (within b) x) p, q), (here_one (i + 1 + size l) (within b) x (here_right i implies l (one (within b) x) p), unless_nil (pure x) WithinOperand e))
  implies_seen l (two o m n) i r t p q e = (p, both_pure l (two o m n) q e)

  node_seen : (g : Formula) (i : ℕ) (r : AnchorRange) (t : Bool) → Here i g → faults g t ≡ [] → SeenMon (node g i r t)
  unfolding node faults SeenMon pure
  node_seen (leaf a) i r t p e = (p, refl)
  node_seen (one not g) i r t p e = (p, unless_nil (pure g) NotOperand e)
  node_seen (one next g) i r t p e = (here_one i next g p, unless_nil (pure g) NextOperand e)
  node_seen (one always g) i r t p e = node_seen g (i + 1) r true (here_one i always g p) e
  node_seen (one eventually g) i r t p e = cons_nil e
  node_seen (one (always_for b) g) i r t p e =
      node_seen g (i + 1) (upto_of (b - 1)) true (here_one i (always_for b) g p) (append_nil_inv (when (eqb b 0) ZeroFor) (faults g true) (append_nil_inv (when t NestedFor) _ e).1).1
  node_seen (one (within b) g) i r t p e = (omega arith, (here_one i (within b) g p, unless_nil (pure g) WithinOperand e))
  node_seen (two and l c) i r t p e =
      (node_seen l (i + 1) r t (here_left i and l c p) (append_nil_inv (faults l t) (faults c t) e).0, node_seen c (i + 1 + size l) r t (here_right i and l c p) (append_nil_inv (faults l t) (faults c t) e).1)
  node_seen (two or l c) i r t p e =
      (node_seen l (i + 1) r t (here_left i or l c p) (append_nil_inv (faults l t) (faults c t) e).0, node_seen c (i + 1 + size l) r t (here_right i or l c p) (append_nil_inv (faults l t) (faults c t) e).1)
  node_seen (two implies l c) i r t p e =
      implies_seen l c i r t p (unless_nil (pure l) Antecedent (append_nil_inv (unless (pure l) Antecedent) (consequent c) e).0) (append_nil_inv (unless (pure l) Antecedent) (consequent c) e).1
  node_seen (two until l c) i r t p e = cons_nil e

-- ---- the tree of the cells
unfoldable to_tree : Mon → Tree Check Never Join
to_tree (check c) = leaf c
to_tree (And m n) = two join_and (to_tree m) (to_tree n)
to_tree (Or m n) = two join_or (to_tree m) (to_tree n)

from_to : (m : Mon) → from_tree (to_tree m) ≡ m
unfolding to_tree from_tree
from_to (check c) = refl
from_to (And m n) = ap₂ And (from_to m) (from_to n)
from_to (Or m n) = ap₂ Or (from_to m) (from_to n)

tree_size : (m : Mon) → size (to_tree m) ≡ count m
unfolding to_tree size count
tree_size (check c) = refl
tree_size (And m n) = ap₂ (λ (a b : ℕ). 1 + a + b) (tree_size m) (tree_size n)
tree_size (Or m n) = ap₂ (λ (a b : ℕ). 1 + a + b) (tree_size m) (tree_size n)

depth_pos : (g : Formula) → 1 ≤ depth g
unfolding depth
depth_pos (leaf a) = omega arith
depth_pos (one o g) = omega arith
depth_pos (two o l r) = omega arith

tree_depth : (g : Formula) (i : ℕ) (r : AnchorRange) (t : Bool) → depth (to_tree (node g i r t)) ≤ depth g
unfolding to_tree node depth
tree_depth (leaf a) i r t = omega arith
tree_depth (one not g) i r t = omega arith
tree_depth (one next g) i r t = omega arith
tree_depth (one always g) i r t = omega (arith, tree_depth g (i + 1) r true)
tree_depth (one eventually g) i r t = omega arith
tree_depth (one (always_for b) g) i r t = omega (arith, tree_depth g (i + 1) (upto_of (b - 1)) true)
tree_depth (one (within b) g) i r t = omega arith
tree_depth (two and l c) i r t = omega (arith, tree_depth l (i + 1) r t, tree_depth c (i + 1 + size l) r t)
tree_depth (two or l c) i r t = omega (arith, tree_depth l (i + 1) r t, tree_depth c (i + 1 + size l) r t)
tree_depth (two implies l c) i r t = omega arith
tree_depth (two until l c) i r t = omega arith

module _ (ops nums : List ℕ) (first count' : ℕ) (nodes : List ℕ) (f : Formula) (e : rule_of ops nums first count' ≡ some f) where
  at_row : (i : ℕ) → cells ops nums first count' nodes i ≡ cell_of f first (row_of nodes i)
  unfolding cells
  at_row i = ap (λ (o : Option Formula). cell_by o first (row_of nodes i)) e

  cell_read : (i : ℕ) (n : MonNode) → Stored nodes (7 * i) (node_row n) → cells ops nums first count' nodes i ≡ cell_of f first (Some n)
  cell_read i n s = at_row i ∙ ap (cell_of f first) (row_read nodes i n s)

  spelled : (m : Mon) (i : ℕ) → SeenMon f first m → Stored nodes (7 * i) (rows m) → Spells (cells ops nums first count' nodes) i (to_tree m)
  unfolding Spells to_tree rows SeenMon
  spelled (check c) i h s = cell_read i (node_of c) s ∙ check_read f first c h
  spelled (And m n) i h s =
      let behind : Stored nodes (7 * (i + 1)) (rows m ++ rows n) = stored_right nodes (7 * i) (7 * (i + 1)) (node_row AndNode) (rows m ++ rows n) (omega arith) s in
      let z : 7 * (i + 1) + length (rows m) ≡ 7 * (i + 1 + size (to_tree m)) = omega (arith, rows_length m, tree_size m) in (
        cell_read i AndNode (stored_left nodes (7 * i) (node_row AndNode) (rows m ++ rows n) s),
        spelled m (i + 1) h.0 (stored_left nodes (7 * (i + 1)) (rows m) (rows n) behind),
        spelled n (i + 1 + size (to_tree m)) h.1 (stored_right nodes (7 * (i + 1)) (7 * (i + 1 + size (to_tree m))) (rows m) (rows n) z behind),
      )
  spelled (Or m n) i h s =
      let behind : Stored nodes (7 * (i + 1)) (rows m ++ rows n) = stored_right nodes (7 * i) (7 * (i + 1)) (node_row OrNode) (rows m ++ rows n) (omega arith) s in
      let z : 7 * (i + 1) + length (rows m) ≡ 7 * (i + 1 + size (to_tree m)) = omega (arith, rows_length m, tree_size m) in (
        cell_read i OrNode (stored_left nodes (7 * i) (node_row OrNode) (rows m ++ rows n) s),
        spelled m (i + 1) h.0 (stored_left nodes (7 * (i + 1)) (rows m) (rows n) behind),
        spelled n (i + 1 + size (to_tree m)) h.1 (stored_right nodes (7 * (i + 1)) (7 * (i + 1 + size (to_tree m))) (rows m) (rows n) z behind),
      )

-- ---- the whole rule
pub reads_stored : (ops nums : List ℕ) (first count' : ℕ) (f : Formula) (nodes : List ℕ) (i : ℕ) → rule_of ops nums first count' ≡ some f → rule_faults f ≡ []
    → 7 * (i + count (rule_node f first)) ≤ length nodes → Stored nodes (7 * i) (rows (rule_node f first))
    → compiled_of ops nums first count' nodes i (count (rule_node f first)) ≡ some (rule_node f first)
reads_stored ops nums first count' f nodes i e w h s =
    let u : Rule ops nums first count' f = rule_inv ops nums first count' f e in
    let few : count (rule_node f first) ≤ 256 = omega (arith, count_size f first all_of false, u.covers, u.few) in
    let z : first - first ≡ 0 = omega arith in
    let p : Here f first first f = record { from = omega arith; is = ap (sub_at f) z ∙ part_whole f } in
    held ops nums first count' nodes i (count (rule_node f first)) f (to_tree (rule_node f first))
    (record {
      rule = e;
      few = few;
      in_nodes = h;
      spells = spelled ops nums first count' nodes f e (rule_node f first) i (node_seen f first f first all_of false p w) s;
      covers = tree_size (rule_node f first);
      shallow = omega (arith, tree_depth f first all_of false, u.shallow);
    })
    ∙ ap some (from_to (rule_node f first))

pub reads_back : (ops nums : List ℕ) (first count' : ℕ) (f : Formula) (out : List ℕ) → rule_of ops nums first count' ≡ some f → rule_faults f ≡ [] → 1792 ≤ length out
    → compiled_of ops nums first count' (sets out 0 (rows (rule_node f first))) 0 (count (rule_node f first)) ≡ some (rule_node f first)
reads_back ops nums first count' f out e w h =
    let u : Rule ops nums first count' f = rule_inv ops nums first count' f e in
    let m = rule_node f first in
    let few : 7 * count m ≤ 1792 = omega (arith, count_size f first all_of false, u.covers, u.few) in
    reads_stored ops nums first count' f (sets out 0 (rows m)) 0 e w (omega (arith, length-sets out 0 (rows m))) (stored out (rows m) 0 (omega (arith, rows_length m)))

-- what an answer of nodes says of a call: its rule, no refusal, and what its output holds
pub record ReadsRule (ops nums : List ℕ) (first count' : ℕ) (out : List ℕ) (n : ℕ) : Type 0 where
  pub formula : Formula
  pub rule : rule_of ops nums first count' ≡ some formula
  pub unrefused : rule_faults formula ≡ []
  pub counted : n ≡ count (rule_node formula first)
  pub reads : compiled_of ops nums first count' out 0 n ≡ some (rule_node formula first)

nodes_inj : {a b : ℕ} → given a ≡ given b → a ≡ b
nodes_inj e = cc

pub not_nodes : {B : Type 0} (k n : ℕ) → refused k ≡ given n → B
not_nodes k n e = let z : ◌≡◌ {A = ℕ} 0 1 = cc in absurd (omega arith)

pub compiled_reads : (ops nums : List ℕ) (first count' : ℕ) (out : List ℕ) (n : ℕ) → (compile_call ops nums first count' out).answer ≡ given n
    → ReadsRule ops nums first count' (compile_call ops nums first count' out).out n
unfolding compile_call
compiled_reads ops nums first count' out n = short (roomy ops nums && leb 1792 (length out)) refl
  where
    walked : (f : Formula) → rule_of ops nums first count' ≡ some f → 1792 ≤ length out → (fs : List Refusal) → rule_faults f ≡ fs → (first_or fs (rule_node f first) out).answer ≡ given n
        → ReadsRule ops nums first count' (first_or fs (rule_node f first) out).out n
    walked f e h [] w q =
        let c : n ≡ count (rule_node f first) = sym (nodes_inj q) in
        record {
          formula = f;
          rule = e;
          unrefused = w;
          counted = c;
          reads = ap (compiled_of ops nums first count' (sets out 0 (rows (rule_node f first))) 0) c ∙ reads_back ops nums first count' f out e w h;
        }
    walked f e h (k ∷ ks) w q = not_nodes (number_of k) n q

    ruled : (o : Option Formula) → rule_of ops nums first count' ≡ o → 1792 ≤ length out → (compile_formula o first out).answer ≡ given n
        → ReadsRule ops nums first count' (compile_formula o first out).out n
    ruled none e h q = not_nodes 2 n q
    ruled (some f) e h q = walked f e h (rule_faults f) refl q

    short : (b : Bool) → (roomy ops nums && leb 1792 (length out)) ≡ b → (or_short b out (compile_formula (rule_of ops nums first count') first out)).answer ≡ given n
        → ReadsRule ops nums first count' (or_short b out (compile_formula (rule_of ops nums first count') first out)).out n
    short true w q = ruled (rule_of ops nums first count') refl (leb-true 1792 (length out) (both_true (roomy ops nums) _ w).1) q
    short false w q = not_nodes 1 n q
