-- What valid tables hold: the compiled rule's nodes stand in their rows, its signals in the formula; so a monitor is tested by its rule; and
-- the room of what is lent with them.
use mathlib.Core.Path.{◌≡◌, refl, sym, ap, ap₂, subst, ◌∙◌}
use mathlib.Core.Bool.{Bool, true, false, ◌&&◌}
use mathlib.Core.List.{List}
use mathlib.Core.Option.{Option, none, some}
use Prim.Native.Nat.{ℕ, zero, suc, ◌+◌, ◌*◌, ◌≤◌}
use native.Mathlib.Omega.{arith}
use native.Mathlib.Nat.{add-zero, zero-add}
use lib.Dec.{eqb, leb}
use lib.ListN.{length, get_or}
use borrow.Author.Tests.{leb-true, le-leb}
use Rattle.formula.specs.Tree.{Tree, leaf, one, two, leaf_of, two_of, unknown, size}
use Rattle.formula.specs.Spells.{Spells}
use Rattle.formula.specs.Formula.{Formula}
use Rattle.formula.specs.Table.{Rule, rule_of}
use Rattle.formula.proofs.Trees.{some_inj}
use Rattle.formula.proofs.Rules.{rule_inv}
use Rattle.formula.proofs.Walks.{both_true}
use Rattle.monitor.specs.declared.node.SignalExpr.{SignalExpr}
use Rattle.monitor.specs.declared.node.SignalExpr.TheVariants.{True, At}
use Rattle.monitor.specs.declared.node.MonNode.{MonNode}
use Rattle.monitor.specs.declared.node.MonNode.TheVariants.{RangeCheck, DelayedCheck, Obligation, And as AndNode, Or as OrNode}
use Rattle.std.specs.Prelude.{None, Option as Opt, Some}
use Rattle.monitor.specs.Mon.{Signal, Check, range_check, delayed_check, obligation, Mon, check, And, Or, count, expr_of, node_of}
use Rattle.monitor.specs.Table.{row_of, signal_of, Never, Join, join_and, join_or, Cell, checked, cell_of, cell_by, cells, from_tree, compiled_of}
use Rattle.monitor.proofs.Signals.{signal_inv}
use Rattle.monitor.proofs.HeldTree.{held_inv}
use Rattle.node_step.specs.Check.{Standing, Grounded, GroundedCheck}
use Rattle.node_step.specs.Memory.{Memory, get, Inside}
use Rattle.node_step.proofs.Entries.{inside_less}
use Rattle.lent.specs.Nodes.{NodesAt}
use Rattle.lent.specs.Shape.{entry_fits, fits_mon, row_fits, shaped_from}
use Rattle.lent.specs.Lent.{LentTables, LentMonitor, table_room, monitor_room, is_lent, rule_mon, fits, rows_fit, HoldsRule, Ready, Spanned}

-- ---- signals
module _ (ops nums : List ℕ) (first count' : ℕ) (f : Formula) (u : Rule ops nums first count' f) where
  signal_stands : (e : SignalExpr) (x : Signal) → signal_of f first e ≡ some x → (expr_of x ≡ e) × Grounded ops nums x
  signal_stands True x q = subst (λ (y : Signal). (expr_of y ≡ True) × Grounded ops nums y) (some_inj q) (refl, tt)
  signal_stands (At p) x q =
      let (g, w, s) = signal_inv ops nums first count' f u p x q in
      let stands : Standing ops nums p g = record { spells = s.spells; in_ops = s.in_ops; in_nums = s.in_nums; is_pure = s.is_pure; word_fits = s.word_fits } in
      subst (λ (y : Signal). (expr_of y ≡ At p) × Grounded ops nums y) (sym w) (refl, stands)

  -- ---- rows
  checked_inv : (k : Signal → Cell) (o : Option Signal) (y : Cell) → ((y ≡ unknown) → ⊥) → checked k o ≡ y → (x : Signal) × (o ≡ some x) × (k x ≡ y)
  checked_inv k none y n e = absurd (n (sym e))
  checked_inv k (some x) y n e = (x, refl, e)

  leaf_known : (c : Check) → ◌≡◌ {A = Cell} (leaf_of c) unknown → ⊥
  leaf_known c e = let z : ◌≡◌ {A = ℕ} 0 1 = cc in omega arith

  two_known : (j : Join) → ◌≡◌ {A = Cell} (two_of j) unknown → ⊥
  two_known j e = let z : ◌≡◌ {A = ℕ} 0 1 = cc in omega arith

  leaf_inj : {a b : Check} → ◌≡◌ {A = Cell} (leaf_of a) (leaf_of b) → a ≡ b
  leaf_inj e = cc

  leaf_not_two : {a : Check} {j : Join} {B : Type 0} → ◌≡◌ {A = Cell} (leaf_of a) (two_of j) → B
  leaf_not_two e = let z : ◌≡◌ {A = ℕ} 0 1 = cc in absurd (omega arith)

  cell_leaf : (r : Opt MonNode) (c : Check) → cell_of f first r ≡ leaf_of c → (r ≡ Some (node_of c)) × GroundedCheck ops nums c
  cell_leaf (Some (RangeCheck s rg)) c e =
      let (x, p, q) = checked_inv (λ y. leaf_of (range_check y rg)) (signal_of f first s) (leaf_of c) (leaf_known c) e in
      let (u, v) = signal_stands s x p in
      subst (λ (y : Check). (Some (RangeCheck s rg) ≡ Some (node_of y)) × GroundedCheck ops nums y) (leaf_inj q) (ap (λ (z : SignalExpr). Some (RangeCheck z rg)) (sym u), v)
  cell_leaf (Some (DelayedCheck s t rg)) c e =
      let (x, p, q) = checked_inv (λ y. checked (λ z. leaf_of (delayed_check y z rg)) (signal_of f first t)) (signal_of f first s) (leaf_of c) (leaf_known c) e in
      let (x', p', q') = checked_inv (λ z. leaf_of (delayed_check x z rg)) (signal_of f first t) (leaf_of c) (leaf_known c) q in
      let (u, v) = signal_stands s x p in
      let (u', v') = signal_stands t x' p' in
      subst (λ (y : Check). (Some (DelayedCheck s t rg) ≡ Some (node_of y)) × GroundedCheck ops nums y) (leaf_inj q') (ap₂ (λ (z z' : SignalExpr). Some (DelayedCheck z z' rg)) (sym u) (sym u'), (v, v'))
  cell_leaf (Some (Obligation b s t rg)) c e =
      let (x, p, q) = checked_inv (λ y. checked (λ z. leaf_of (obligation b y z rg)) (signal_of f first t)) (signal_of f first s) (leaf_of c) (leaf_known c) e in
      let (x', p', q') = checked_inv (λ z. leaf_of (obligation b x z rg)) (signal_of f first t) (leaf_of c) (leaf_known c) q in
      let (u, v) = signal_stands s x p in
      let (u', v') = signal_stands t x' p' in
      subst (λ (y : Check). (Some (Obligation b s t rg) ≡ Some (node_of y)) × GroundedCheck ops nums y) (leaf_inj q') (ap₂ (λ (z z' : SignalExpr). Some (Obligation b z z' rg)) (sym u) (sym u'), (v, v'))
  cell_leaf (Some AndNode) c e = leaf_not_two (sym e)
  cell_leaf (Some OrNode) c e = leaf_not_two (sym e)
  cell_leaf None c e = absurd (leaf_known c (sym e))

  abbrev row_join : Join → MonNode
  row_join join_and = AndNode
  row_join join_or = OrNode

  cell_two : (r : Opt MonNode) (j : Join) → cell_of f first r ≡ two_of j → r ≡ Some (row_join j)
  cell_two (Some (RangeCheck s rg)) j e =
      let (x, p, q) = checked_inv (λ y. leaf_of (range_check y rg)) (signal_of f first s) (two_of j) (two_known j) e in leaf_not_two q
  cell_two (Some (DelayedCheck s t rg)) j e =
      let (x, p, q) = checked_inv (λ y. checked (λ z. leaf_of (delayed_check y z rg)) (signal_of f first t)) (signal_of f first s) (two_of j) (two_known j) e in
      let (x', p', q') = checked_inv (λ z. leaf_of (delayed_check x z rg)) (signal_of f first t) (two_of j) (two_known j) q in leaf_not_two q'
  cell_two (Some (Obligation b s t rg)) j e =
      let (x, p, q) = checked_inv (λ y. checked (λ z. leaf_of (obligation b y z rg)) (signal_of f first t)) (signal_of f first s) (two_of j) (two_known j) e in
      let (x', p', q') = checked_inv (λ z. leaf_of (obligation b x z rg)) (signal_of f first t) (two_of j) (two_known j) q in leaf_not_two q'
  cell_two (Some AndNode) j e = ap (λ (y : Join). Some (row_join y)) (two_inj e)
    where
      two_inj : {a b : Join} → ◌≡◌ {A = Cell} (two_of a) (two_of b) → a ≡ b
      two_inj h = cc
  cell_two (Some OrNode) j e = ap (λ (y : Join). Some (row_join y)) (two_inj e)
    where
      two_inj : {a b : Join} → ◌≡◌ {A = Cell} (two_of a) (two_of b) → a ≡ b
      two_inj h = cc
  cell_two None j e = absurd (two_known j (sym e))

count_tree : (t : Tree Check Never Join) → count (from_tree t) ≡ size t
unfolding from_tree count size
count_tree (leaf c) = refl
count_tree (one n t) = elim n [ ]
count_tree (two join_and l r) = ap₂ (λ (a b : ℕ). 1 + a + b) (count_tree l) (count_tree r)
count_tree (two join_or l r) = ap₂ (λ (a b : ℕ). 1 + a + b) (count_tree l) (count_tree r)

module _ (ops nums : List ℕ) (first count' : ℕ) (nodes : List ℕ) (f : Formula) (e : rule_of ops nums first count' ≡ some f) where
  u : Rule ops nums first count' f
  u = rule_inv ops nums first count' f e

  at_row : (i : ℕ) → cells ops nums first count' nodes i ≡ cell_of f first (row_of nodes i)
  unfolding cells
  at_row i = ap (λ (o : Option Formula). cell_by o first (row_of nodes i)) e

  nodes_stand : (t : Tree Check Never Join) (i : ℕ) → Spells (cells ops nums first count' nodes) i t → NodesAt ops nums nodes i (from_tree t)
  unfolding Spells from_tree NodesAt
  nodes_stand (leaf c) i s = cell_leaf ops nums first count' f u (row_of nodes i) c (sym (at_row i) ∙ s)
  nodes_stand (one n t) i s = elim n [ ]
  nodes_stand (two join_and l r) i s = (
    cell_two ops nums first count' f u (row_of nodes i) join_and (sym (at_row i) ∙ s.0),
    nodes_stand l (i + 1) s.1,
    subst (λ (n : ℕ). NodesAt ops nums nodes (i + 1 + n) (from_tree r)) (sym (count_tree l)) (nodes_stand r (i + 1 + size l) s.2),
  )
  nodes_stand (two join_or l r) i s = (
    cell_two ops nums first count' f u (row_of nodes i) join_or (sym (at_row i) ∙ s.0),
    nodes_stand l (i + 1) s.1,
    subst (λ (n : ℕ). NodesAt ops nums nodes (i + 1 + n) (from_tree r)) (sym (count_tree l)) (nodes_stand r (i + 1 + size l) s.2),
  )

-- what the tables hold, as the walk asks for it
pub record Stood (ops nums nodes : List ℕ) (nfirst ncount : ℕ) (m : Mon) : Type 0 where
  pub stands : NodesAt ops nums nodes nfirst m
  pub counted : count m ≡ ncount
  pub few : ncount ≤ 256
  pub in_nodes : 7 * (nfirst + ncount) ≤ length nodes

pub stood : (ops nums : List ℕ) (first count' : ℕ) (nodes : List ℕ) (nfirst ncount : ℕ) (m : Mon)
    → compiled_of ops nums first count' nodes nfirst ncount ≡ some m → Stood ops nums nodes nfirst ncount m
stood ops nums first count' nodes nfirst ncount m e =
    let (f, t, h, q) = held_inv ops nums first count' nodes nfirst ncount m e in
    record {
      stands = subst (NodesAt ops nums nodes nfirst) (sym q) (nodes_stand ops nums first count' nodes f h.rule t nfirst h.spells);
      counted = ap count q ∙ count_tree t ∙ h.covers;
      few = h.few;
      in_nodes = h.in_nodes;
    }

-- ---- the test of a monitor by the rows of a table that holds rule m is the test by m
and_assoc : (x y z : Bool) → ((x && y) && z) ≡ (x && (y && z))
and_assoc true y z = refl
and_assoc false y z = refl

and_true : (x : Bool) → (x && true) ≡ x
and_true true = refl
and_true false = refl

module _ (nodes : List ℕ) (nfirst : ℕ) (forms bounds : List ℕ) (mem : Memory) where
  -- a run of rows is two runs
  shaped_append : (a k n : ℕ) → shaped_from nodes nfirst forms bounds mem k (a + n) ≡ (shaped_from nodes nfirst forms bounds mem k a && shaped_from nodes nfirst forms bounds mem (k + a) n)
  unfolding shaped_from
  shaped_append zero k n = ap₂ (shaped_from nodes nfirst forms bounds mem) (sym (add-zero k)) (zero-add n)
  shaped_append (suc a) k n =
      let o : suc a + n ≡ suc (a + n) = omega arith in
      let o' : k + 1 + a ≡ k + suc a = omega arith in
      let here = row_fits (row_of nodes (nfirst + k)) (get_or forms k 0) (get_or bounds k 0) (get mem k) in
      ap (shaped_from nodes nfirst forms bounds mem k) o
      ∙ ap (here &&◌) (shaped_append a (k + 1) n ∙ ap (λ (i : ℕ). shaped_from nodes nfirst forms bounds mem (k + 1) a && shaped_from nodes nfirst forms bounds mem i n) o')
      ∙ sym (and_assoc here (shaped_from nodes nfirst forms bounds mem (k + 1) a) (shaped_from nodes nfirst forms bounds mem (k + suc a) n))

  row_and_parts : (k a b : ℕ) → shaped_from nodes nfirst forms bounds mem k (1 + a + b) ≡ (row_fits (row_of nodes (nfirst + k)) (get_or forms k 0) (get_or bounds k 0) (get mem k) && (shaped_from nodes nfirst forms bounds mem (k + 1) a && shaped_from nodes nfirst forms bounds mem (k + 1 + a) b))
  unfolding shaped_from
  row_and_parts k a b =
      let o : 1 + a + b ≡ suc (a + b) = omega arith in
      ap (shaped_from nodes nfirst forms bounds mem k) o ∙ ap (row_fits (row_of nodes (nfirst + k)) (get_or forms k 0) (get_or bounds k 0) (get mem k) &&◌) (shaped_append a (k + 1) b)

  here_fits : (k : ℕ) (x : MonNode) → row_of nodes (nfirst + k) ≡ Some x → row_fits (row_of nodes (nfirst + k)) (get_or forms k 0) (get_or bounds k 0) (get mem k) ≡ entry_fits x (get_or forms k 0) (get_or bounds k 0) (get mem k)
  here_fits k x e = ap (λ (r : Opt MonNode). row_fits r (get_or forms k 0) (get_or bounds k 0) (get mem k)) e

  pub rows_fit_lem : (ops nums : List ℕ) (m : Mon) (k : ℕ) → NodesAt ops nums nodes (nfirst + k) m → shaped_from nodes nfirst forms bounds mem k (count m) ≡ fits_mon m forms bounds mem k
  unfolding NodesAt shaped_from fits_mon count
  rows_fit_lem ops nums (check c) k a = and_true _ ∙ here_fits k (node_of c) a.0
  rows_fit_lem ops nums (And m n) k a =
      row_and_parts k (count m) (count n)
      ∙ ap₂ ◌&&◌ (here_fits k AndNode a.0)
      (ap₂ ◌&&◌ (rows_fit_lem ops nums m (k + 1) (subst (λ (i : ℕ). NodesAt ops nums nodes i m) (omega arith) a.1))
      (rows_fit_lem ops nums n (k + 1 + count m) (subst (λ (i : ℕ). NodesAt ops nums nodes i n) (omega arith) a.2)))
  rows_fit_lem ops nums (Or m n) k a =
      row_and_parts k (count m) (count n)
      ∙ ap₂ ◌&&◌ (here_fits k OrNode a.0)
      (ap₂ ◌&&◌ (rows_fit_lem ops nums m (k + 1) (subst (λ (i : ℕ). NodesAt ops nums nodes i m) (omega arith) a.1))
      (rows_fit_lem ops nums n (k + 1 + count m) (subst (λ (i : ℕ). NodesAt ops nums nodes i n) (omega arith) a.2)))

-- ---- what a lent monitor has
pub record Roomy (forms bounds : List ℕ) (mem : Memory) : Type 0 where
  pub forms_in : 256 ≤ length forms
  pub bounds_in : 256 ≤ length bounds
  pub inside : Inside mem 256

pub monitor_room_lem : (forms bounds : List ℕ) (mem : Memory) → monitor_room forms bounds mem ≡ true → Roomy forms bounds mem
monitor_room_lem forms bounds mem h =
    let (c, e) = both_true (leb 256 (length forms)) _ h in
    let (f, i) = both_true (leb 256 (length bounds)) _ e in
    let (j, l) = both_true (leb 256 (length mem.held)) _ i in
    let (m, n) = both_true (leb 256 (length mem.remaining)) _ l in
    let (o, p) = both_true (leb 256 (length mem.failed)) _ n in
    record {
      forms_in = leb-true _ _ c;
      bounds_in = leb-true _ _ f;
      inside = record { held = leb-true _ _ j; remaining = leb-true _ _ m; failed = leb-true _ _ o; culprits = leb-true _ _ p };
    }

pub room_back : (forms bounds : List ℕ) (mem : Memory) → Roomy forms bounds mem → monitor_room forms bounds mem ≡ true
room_back forms bounds mem d =
    let i = d.inside in
    ap₂ ◌&&◌ (le-leb 256 _ d.forms_in) (ap₂ ◌&&◌ (le-leb 256 _ d.bounds_in)
    (ap₂ ◌&&◌ (le-leb 256 _ i.held) (ap₂ ◌&&◌ (le-leb 256 _ i.remaining) (ap₂ ◌&&◌ (le-leb 256 _ i.failed) (le-leb 256 _ i.culprits)))))

-- what is lent, in its two parts
pub lent_parts : (t : LentTables) (k : LentMonitor) → is_lent t k ≡ true → (table_room t.ops t.nums t.nodes ≡ true) × (monitor_room k.forms k.bounds k.memory ≡ true)
lent_parts t k h = both_true (table_room t.ops t.nums t.nodes) (monitor_room k.forms k.bounds k.memory) h

pub rule_stood : (t : LentTables) (m : Mon) → rule_mon t ≡ some m → Stood t.ops t.nums t.nodes t.nfirst t.ncount m
rule_stood t m e = stood t.ops t.nums t.first t.count t.nodes t.nfirst t.ncount m e

module _ (t : LentTables) (k : LentMonitor) (m : Mon) (e : rule_mon t ≡ some m) where
  -- the test by the rows, of as many nodes as the table says
  pub table_fits : shaped_from t.nodes t.nfirst k.forms k.bounds k.memory 0 t.ncount ≡ fits_mon m k.forms k.bounds k.memory 0
  table_fits =
      let o = rule_stood t m e in
      let z : t.nfirst ≡ t.nfirst + 0 = omega arith in
      ap (shaped_from t.nodes t.nfirst k.forms k.bounds k.memory 0) (sym o.counted)
      ∙ rows_fit_lem t.nodes t.nfirst k.forms k.bounds k.memory t.ops t.nums m 0 (subst (λ (i : ℕ). NodesAt t.ops t.nums t.nodes i m) z o.stands)

  -- the whole test: the count and the rows
  pub fits_by_table : fits m k ≡ rows_fit t.nodes t.nfirst t.ncount k
  fits_by_table = ap₂ ◌&&◌ (ap (eqb k.size) (rule_stood t m e).counted) (sym table_fits)

  pub rule_inside : monitor_room k.forms k.bounds k.memory ≡ true → Inside k.memory (0 + count m)
  rule_inside h =
      let o = rule_stood t m e in
      inside_less k.memory (0 + count m) 256 (omega (arith, o.counted, o.few)) (monitor_room_lem k.forms k.bounds k.memory h).inside

  -- the rows and the entries that the test compares
  pub rule_spanned : monitor_room k.forms k.bounds k.memory ≡ true → Spanned t.nodes t.nfirst k.forms k.bounds k.memory t.ncount
  rule_spanned h =
      let o = rule_stood t m e in
      let r = monitor_room_lem k.forms k.bounds k.memory h in
      record {
        rows = o.in_nodes;
        forms_in = omega (arith, o.few, r.forms_in);
        bounds_in = omega (arith, o.few, r.bounds_in);
        inside = inside_less k.memory t.ncount 256 o.few r.inside;
      }

pub lent_both : (t : LentTables) (k : LentMonitor) (m : Mon) → HoldsRule t m → Ready k m → is_lent t k ≡ true
lent_both t k m a b = ap₂ ◌&&◌ a.room b.room
