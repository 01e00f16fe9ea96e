-- One step of the walk over a node table, and what it says of the tables together.
use mathlib.Core.Path.{◌≡◌, refl, sym, ap, ap₂, subst, ◌∙◌}
use mathlib.Core.Bool.{Bool, true, false}
use mathlib.Core.List.{List}
use mathlib.Core.Option.{Option, none, some}
use Prim.Native.Nat.{ℕ, ◌+◌, ◌-◌, ◌*◌, ◌≤◌, ◌<◌}
use native.Mathlib.Omega.{arith}
use lib.ListN.{length}
use borrow.Author.Tests.{le-leb, lt-leb}
use Rattle.terms.specs.Choice.{pick}
use Rattle.formula.specs.Tree.{leaf_of, one_of, two_of, unknown}
use Rattle.formula.specs.Spells.{Spells}
use Rattle.formula.specs.Formula.{Formula}
use Rattle.formula.specs.Table.{node_at, Rule, IsRule, Placed, is_some, keep, rule_of}
use Rattle.formula.specs.Pure.{pure}
use Rattle.formula.specs.Signal.{Purely}
use Rattle.formula.specs.Walk.{Walked}
use Rattle.std.specs.Prelude.{None, Option as Opt, Some}
use Rattle.std.specs.Option.{is_some as answered}
use Rattle.formula.proofs.Rules.{rule_inv}
use Rattle.formula.proofs.Signals.{purely_yes, purely_no}
use Rattle.formula.proofs.Walks.{walk_leaf, walk_unknown, walk_left, walk_two}
use Rattle.monitor.specs.declared.node.SignalExpr.{SignalExpr}
use Rattle.monitor.specs.declared.node.SignalExpr.TheVariants.{True, At}
use Rattle.monitor.specs.declared.node.MonNode.{MonNode}
use Rattle.monitor.specs.declared.node.MonNode.TheVariants.{RangeCheck, DelayedCheck, Obligation, And as AndNode, Or as OrNode}
use Rattle.std.specs.Prelude.{None, Option as Opt, Some}
use Rattle.std.specs.Option.{is_some as answered}
use Rattle.monitor.specs.declared.range.AnchorRange.{AnchorRange}
use Rattle.monitor.specs.declared.table.Kind.{Kind}
use Rattle.monitor.specs.declared.table.Kind.TheVariants.{Check as Check', Joined}
use Rattle.monitor.specs.Mon.{Signal, Check, delayed_check, obligation}
use Rattle.monitor.specs.Table.{row_of, sub_at, pure_signal, signal_of, signal_by, Join, Cell, checked, cell_by, cells, kind_of, any_check}
use Rattle.monitor.proofs.Parts.{FormulaPart, part_at, no_part}

-- ---- signals
module _ (ops nums : List ℕ) (first count p : ℕ) (u : IsRule ops nums first count) where
  rule : Rule ops nums first count u.formula
  rule = rule_inv ops nums first count u.formula u.is

  by_rule : (e : SignalExpr) → signal_by (rule_of ops nums first count) first e ≡ signal_of u.formula first e
  by_rule e = ap (λ (o : Option Formula). signal_by o first e) u.is

  pub before_rule : p < first → false ≡ is_some (signal_by (rule_of ops nums first count) first (At p))
  before_rule h = sym (ap is_some (by_rule (At p) ∙ ap (λ (b : Bool). keep b (pure_signal p (sub_at u.formula (p - first)))) (lt-leb first p h)))

  pub past_rule : first ≤ p → count ≤ p - first → false ≡ is_some (signal_by (rule_of ops nums first count) first (At p))
  past_rule g h = sym (ap is_some (by_rule (At p) ∙ ap₂ (λ (b : Bool) (o : Option Formula). keep b (pure_signal p o)) (le-leb first p g) (no_part u.formula (p - first) (omega (arith, rule.covers)))))

  module _ (g : first ≤ p) (h : p - first < count) where
    part : FormulaPart (node_at ops nums) first u.formula (p - first)
    part = part_at (node_at ops nums) first u.formula (p - first) rule.spells (omega (arith, rule.covers))

    there : Spells (node_at ops nums) p part.part
    there = subst (λ (n : ℕ). Spells (node_at ops nums) n part.part) (omega arith) part.spells

    pub placed_part : Placed ops nums p
    placed_part = record { formula = part.part; spells = there; in_ops = omega (arith, rule.in_ops, rule.covers, part.inside); in_nums = omega (arith, rule.in_nums, rule.covers, part.inside) }

    named : signal_by (rule_of ops nums first count) first (At p) ≡ pure_signal p (some part.part)
    named = by_rule (At p) ∙ ap₂ (λ (b : Bool) (o : Option Formula). keep b (pure_signal p o)) (le-leb first p g) part.is

    some_if : (f : Formula) → is_some (pure_signal p (some f)) ≡ pure f
    some_if f = go (pure f) refl
      where
        go : (b : Bool) → pure f ≡ b → is_some (pure_signal p (some f)) ≡ pure f
        go true e = rw e refl
        go false e = rw e refl

    pub is_pure_at : (w : Opt ℕ) → Purely ops nums p w → answered w ≡ is_some (signal_by (rule_of ops nums first count) first (At p))
    is_pure_at w q = go w refl
      where
        go : (o : Opt ℕ) → w ≡ o → answered o ≡ is_some (signal_by (rule_of ops nums first count) first (At p))
        go None e = sym (ap is_some named ∙ some_if part.part ∙ purely_no ops nums p w q part.part there e)
        go (Some n) e = sym (ap is_some named ∙ some_if part.part ∙ (purely_yes ops nums p w q part.part there n e).0)

module _ (ops nums : List ℕ) (first count : ℕ) (u : IsRule ops nums first count) where
  pub true_signal : (e : SignalExpr) → e ≡ True → true ≡ is_some (signal_by (rule_of ops nums first count) first e)
  true_signal e h = sym (ap₂ (λ (o : Option Formula) (x : SignalExpr). is_some (signal_by o first x)) u.is h)

pub at_signal : (o : Option Formula) (first p : ℕ) (e : SignalExpr) (b : Bool) → e ≡ At p → b ≡ is_some (signal_by o first (At p)) → b ≡ is_some (signal_by o first e)
at_signal o first p e b h q = q ∙ sym (ap (λ (x : SignalExpr). is_some (signal_by o first x)) h)

-- ---- one row
one_signal : (x : Option Signal) (k : Signal → Cell) → ((y : Signal) → kind_of (k y) ≡ Some Check') → kind_of (checked k x) ≡ pick (is_some x) (Some Check') None
one_signal none k h = refl
one_signal (some y) k h = h y

two_signals : (x y : Option Signal) (k : Signal → Signal → Cell) → ((a b : Signal) → kind_of (k a b) ≡ Some Check')
    → kind_of (checked (λ a. checked (λ b. k a b) y) x) ≡ pick (is_some x) (pick (is_some y) (Some Check') None) None
two_signals none y k h = refl
two_signals (some a) y k h = one_signal y (λ b. k a b) (λ b. h a b)

kind_range : (o : Option Formula) (first : ℕ) (s : SignalExpr) (r : AnchorRange) → kind_of (cell_by o first (Some (RangeCheck s r))) ≡ pick (is_some (signal_by o first s)) (Some Check') None
kind_range none first s r = refl
kind_range (some f) first s r = one_signal (signal_of f first s) _ (λ y. refl)

kind_delayed : (o : Option Formula) (first : ℕ) (s t : SignalExpr) (r : AnchorRange)
    → kind_of (cell_by o first (Some (DelayedCheck s t r))) ≡ pick (is_some (signal_by o first s)) (pick (is_some (signal_by o first t)) (Some Check') None) None
kind_delayed none first s t r = refl
kind_delayed (some f) first s t r = two_signals (signal_of f first s) (signal_of f first t) (λ a b. leaf_of (delayed_check a b r)) (λ a b. refl)

kind_owed : (o : Option Formula) (first b : ℕ) (s t : SignalExpr) (r : AnchorRange)
    → kind_of (cell_by o first (Some (Obligation b s t r))) ≡ pick (is_some (signal_by o first s)) (pick (is_some (signal_by o first t)) (Some Check') None) None
kind_owed none first b s t r = refl
kind_owed (some f) first b s t r = two_signals (signal_of f first s) (signal_of f first t) (λ x y. leaf_of (obligation b x y r)) (λ x y. refl)

module _ (o : Option Formula) (first : ℕ) (n : MonNode) where
  module _ (s : SignalExpr) (r : AnchorRange) (e : n ≡ RangeCheck s r) (b : Bool) (p : b ≡ is_some (signal_by o first s)) where
    by_one : kind_of (cell_by o first (Some n)) ≡ pick b (Some Check') None
    by_one = ap (λ (x : MonNode). kind_of (cell_by o first (Some x))) e ∙ kind_range o first s r ∙ ap (λ (x : Bool). pick x (Some Check') None) (sym p)

    pub range_known : b ≡ true → Some Check' ≡ kind_of (cell_by o first (Some n))
    range_known q = sym (by_one ∙ ap (λ (x : Bool). pick x (Some Check') None) q)

    pub range_unknown : b ≡ false → None ≡ kind_of (cell_by o first (Some n))
    range_unknown q = sym (by_one ∙ ap (λ (x : Bool). pick x (Some Check') None) q)

  module _ (s t : SignalExpr) (h : kind_of (cell_by o first (Some n)) ≡ pick (is_some (signal_by o first s)) (pick (is_some (signal_by o first t)) (Some Check') None) None) (b c : Bool) (p : b ≡ is_some (signal_by o first s)) where
    first_unknown : b ≡ false → None ≡ kind_of (cell_by o first (Some n))
    first_unknown q = sym (h ∙ ap (λ (x : Bool). pick x (pick (is_some (signal_by o first t)) (Some Check') None) None) (sym p ∙ q))

    both_pick : c ≡ is_some (signal_by o first t) → b ≡ true → kind_of (cell_by o first (Some n)) ≡ pick c (Some Check') None
    both_pick p' q = h ∙ ap₂ (λ (x y : Bool). pick x (pick y (Some Check') None) None) (sym p ∙ q) (sym p')

  module _ (s t : SignalExpr) (r : AnchorRange) (e : n ≡ DelayedCheck s t r) where
    delayed_pick : kind_of (cell_by o first (Some n)) ≡ pick (is_some (signal_by o first s)) (pick (is_some (signal_by o first t)) (Some Check') None) None
    delayed_pick = ap (λ (x : MonNode). kind_of (cell_by o first (Some x))) e ∙ kind_delayed o first s t r

    pub delayed_known : (b c : Bool) → b ≡ is_some (signal_by o first s) → c ≡ is_some (signal_by o first t) → b ≡ true → c ≡ true → Some Check' ≡ kind_of (cell_by o first (Some n))
    delayed_known b c p p' q q' = sym (both_pick s t delayed_pick b c p p' q ∙ ap (λ (x : Bool). pick x (Some Check') None) q')

    pub delayed_second : (b c : Bool) → b ≡ is_some (signal_by o first s) → c ≡ is_some (signal_by o first t) → b ≡ true → c ≡ false → None ≡ kind_of (cell_by o first (Some n))
    delayed_second b c p p' q q' = sym (both_pick s t delayed_pick b c p p' q ∙ ap (λ (x : Bool). pick x (Some Check') None) q')

    pub delayed_first : (b : Bool) → b ≡ is_some (signal_by o first s) → b ≡ false → None ≡ kind_of (cell_by o first (Some n))
    delayed_first b p q = first_unknown s t delayed_pick b b p q

  module _ (k : ℕ) (s t : SignalExpr) (r : AnchorRange) (e : n ≡ Obligation k s t r) where
    owed_pick : kind_of (cell_by o first (Some n)) ≡ pick (is_some (signal_by o first s)) (pick (is_some (signal_by o first t)) (Some Check') None) None
    owed_pick = ap (λ (x : MonNode). kind_of (cell_by o first (Some x))) e ∙ kind_owed o first k s t r

    pub owed_known : (b c : Bool) → b ≡ is_some (signal_by o first s) → c ≡ is_some (signal_by o first t) → b ≡ true → c ≡ true → Some Check' ≡ kind_of (cell_by o first (Some n))
    owed_known b c p p' q q' = sym (both_pick s t owed_pick b c p p' q ∙ ap (λ (x : Bool). pick x (Some Check') None) q')

    pub owed_second : (b c : Bool) → b ≡ is_some (signal_by o first s) → c ≡ is_some (signal_by o first t) → b ≡ true → c ≡ false → None ≡ kind_of (cell_by o first (Some n))
    owed_second b c p p' q q' = sym (both_pick s t owed_pick b c p p' q ∙ ap (λ (x : Bool). pick x (Some Check') None) q')

    pub owed_first : (b : Bool) → b ≡ is_some (signal_by o first s) → b ≡ false → None ≡ kind_of (cell_by o first (Some n))
    owed_first b p q = first_unknown s t owed_pick b b p q

module _ (ops nums : List ℕ) (first count : ℕ) (u : IsRule ops nums first count) (n : MonNode) where
  pub and_joined : n ≡ AndNode → Some Joined ≡ kind_of (cell_by (rule_of ops nums first count) first (Some n))
  and_joined e = sym (ap₂ (λ (o : Option Formula) (x : MonNode). kind_of (cell_by o first (Some x))) u.is e)

  pub or_joined : n ≡ OrNode → Some Joined ≡ kind_of (cell_by (rule_of ops nums first count) first (Some n))
  or_joined e = sym (ap₂ (λ (o : Option Formula) (x : MonNode). kind_of (cell_by o first (Some x))) u.is e)

module _ (ops nums : List ℕ) (first count : ℕ) (nodes : List ℕ) (i : ℕ) (w : Opt MonNode) (p : w ≡ row_of nodes i) where
  pub row_no : (k : Opt Kind) → w ≡ None → k ≡ None → k ≡ kind_of (cells ops nums first count nodes i)
  unfolding cells
  row_no k q z = z ∙ go (rule_of ops nums first count) ∙ sym (ap (λ (x : Opt MonNode). kind_of (cell_by (rule_of ops nums first count) first x)) (sym p ∙ q))
    where
      go : (o : Option Formula) → None ≡ kind_of (cell_by o first None)
      go none = refl
      go (some f) = refl

  pub row_yes : (n : MonNode) (k : Opt Kind) → w ≡ Some n → k ≡ kind_of (cell_by (rule_of ops nums first count) first (Some n)) → k ≡ kind_of (cells ops nums first count nodes i)
  unfolding cells
  row_yes n k q h = h ∙ sym (ap (λ (x : Opt MonNode). kind_of (cell_by (rule_of ops nums first count) first x)) (sym p ∙ q))

-- ---- the walk
module _ (tok : ℕ → Cell) (i end room : ℕ) (k : Opt Kind) (p : k ≡ kind_of (tok i)) where
  is_leaf : (c : Cell) → kind_of c ≡ Some Check' → (x : Check) × (c ≡ leaf_of x)
  is_leaf (leaf_of x) e = (x, refl)
  is_leaf (one_of n) e = elim n [ ]
  is_leaf (two_of j) e = let z : ◌≡◌ {A = ℕ} 0 1 = cc in absurd (omega arith)
  is_leaf unknown e = let z : ◌≡◌ {A = ℕ} 0 1 = cc in absurd (omega arith)

  is_pair : (c : Cell) → kind_of c ≡ Some Joined → (j : Join) × (c ≡ two_of j)
  is_pair (leaf_of x) e = let z : ◌≡◌ {A = ℕ} 0 1 = cc in absurd (omega arith)
  is_pair (one_of n) e = elim n [ ]
  is_pair (two_of j) e = (j, refl)
  is_pair unknown e = let z : ◌≡◌ {A = ℕ} 0 1 = cc in absurd (omega arith)

  is_unknown : (c : Cell) → kind_of c ≡ None → c ≡ unknown
  is_unknown (leaf_of x) e = let z : ◌≡◌ {A = ℕ} 0 1 = cc in absurd (omega arith)
  is_unknown (one_of n) e = elim n [ ]
  is_unknown (two_of j) e = let z : ◌≡◌ {A = ℕ} 0 1 = cc in absurd (omega arith)
  is_unknown unknown e = refl

  pub node_leaf : i < end → (room ≡ 0 → ⊥) → k ≡ Some Check' → Walked tok any_check i end room (Some (i + 1))
  node_leaf j h q = let (x, e) = is_leaf (tok i) (sym p ∙ q) in walk_leaf tok any_check i end room x e j h refl

  pub node_unknown : (r : Opt ℕ) → k ≡ None → r ≡ None → Walked tok any_check i end room r
  node_unknown r q z = subst (Walked tok any_check i end room) (sym z) (walk_unknown tok any_check i end room (is_unknown (tok i) (sym p ∙ q)))

  module _ (left : Opt ℕ) (w : Walked tok any_check (i + 1) end (room - 1) left) (d : room ≡ 0 → ⊥) (q : k ≡ Some Joined) where
    pub node_left : (r : Opt ℕ) → left ≡ None → r ≡ None → Walked tok any_check i end room r
    node_left r z x = let (j, e) = is_pair (tok i) (sym p ∙ q) in walk_left tok any_check i end room left w d j r e z x

    pub node_two : (e : ℕ) (right : Opt ℕ) → left ≡ Some e → Walked tok any_check e end (room - 1) right → Walked tok any_check i end room right
    node_two e right z w' = let (j, x) = is_pair (tok i) (sym p ∙ q) in walk_two tok any_check i end room left w d j e right x z w'

pub row_inside : (nodes : List ℕ) (i end : ℕ) → 7 * end ≤ length nodes → i < end → 7 * (i + 1) ≤ length nodes
row_inside nodes i end h g = omega arith
