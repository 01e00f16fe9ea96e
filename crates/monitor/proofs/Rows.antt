-- A node's row: one run of stores behind another, and what a row's numbers say.
use mathlib.Core.Path.{◌≡◌, refl, sym, ap, ◌∙◌}
use mathlib.Core.Bool.{Bool}
use mathlib.Core.List.{List, [], ◌∷◌, ◌++◌}
use Prim.Native.Nat.{ℕ, suc, ◌+◌, ◌-◌, ◌≤◌, ◌<◌}
use native.Mathlib.Omega.{arith}
use native.Mathlib.Nat.{add-suc, suc-add, add-zero}
use lib.ListN.{length, set}
use lib.Seq.{sets}
use borrow.Author.Tests.{eq-eqb, ne_eqb, lt-ltb, le-ltb}
use Rattle.terms.specs.Choice.{pick}
use Rattle.monitor.specs.declared.range.AnchorRange.{AnchorRange}
use Rattle.monitor.specs.declared.node.SignalExpr.{SignalExpr}
use Rattle.monitor.specs.declared.node.SignalExpr.TheVariants.{True, At}
use Rattle.monitor.specs.declared.node.MonNode.TheVariants.{RangeCheck, DelayedCheck, Obligation, And as AndNode, Or as OrNode}
use Rattle.std.specs.Prelude.{Some}
use Rattle.monitor.specs.Table.{expr_from, range_from, form_at, cell, row_of}

-- ---- numbers of a row
pub expr_zero : (n : ℕ) → n ≡ 0 → True ≡ expr_from n
expr_zero n h = sym (ap (λ (b : Bool). pick b True (At (n - 1))) (eq-eqb n 0 h))

pub expr_some : (n : ℕ) → (n ≡ 0 → ⊥) → At (n - 1) ≡ expr_from n
expr_some n h = sym (ap (λ (b : Bool). pick b True (At (n - 1))) (ne_eqb n 0 h))

-- ---- a run of stores behind another
pub sets_append : (l : List ℕ) (i : ℕ) (xs ys : List ℕ) → sets (sets l i xs) (i + length xs) ys ≡ sets l i (xs ++ ys)
sets_append l i [] ys = ap (λ (n : ℕ). sets l n ys) (add-zero i)
sets_append l i (x ∷ xs) ys = ap (λ (n : ℕ). sets (sets (set l i x) (suc i) xs) n ys) (add-suc i (length xs) ∙ sym (suc-add i (length xs))) ∙ sets_append (set l i x) (suc i) xs ys

-- ---- a row read
module _ (nodes : List ℕ) (i : ℕ) where
  pub row_or : form_at nodes i < 5 → 4 ≤ form_at nodes i → Some OrNode ≡ row_of nodes i
  unfolding row_of
  row_or g h = rw (le-ltb (form_at nodes i) 1 (omega arith), le-ltb (form_at nodes i) 2 (omega arith), le-ltb (form_at nodes i) 3 (omega arith), le-ltb (form_at nodes i) 4 h, lt-ltb (form_at nodes i) 5 g) refl

  pub row_and : form_at nodes i < 4 → 3 ≤ form_at nodes i → Some AndNode ≡ row_of nodes i
  unfolding row_of
  row_and g h = rw (le-ltb (form_at nodes i) 1 (omega arith), le-ltb (form_at nodes i) 2 (omega arith), le-ltb (form_at nodes i) 3 h, lt-ltb (form_at nodes i) 4 g) refl

  module _ (r : AnchorRange) (s t : SignalExpr) (p : r ≡ range_from (cell nodes i 2) (cell nodes i 3) (cell nodes i 4)) (q : s ≡ expr_from (cell nodes i 5)) where
    pub row_range : form_at nodes i < 1 → Some (RangeCheck s r) ≡ row_of nodes i
    unfolding row_of
    row_range h = rw (lt-ltb (form_at nodes i) 1 h, p, q) refl

    pub row_delayed : t ≡ expr_from (cell nodes i 6) → 1 ≤ form_at nodes i → form_at nodes i < 2 → Some (DelayedCheck s t r) ≡ row_of nodes i
    unfolding row_of
    row_delayed w g h = rw (le-ltb (form_at nodes i) 1 g, lt-ltb (form_at nodes i) 2 h, p, q, w) refl

    pub row_owed : t ≡ expr_from (cell nodes i 6) → 2 ≤ form_at nodes i → form_at nodes i < 3 → Some (Obligation (cell nodes i 1) s t r) ≡ row_of nodes i
    unfolding row_of
    row_owed w g h = rw (le-ltb (form_at nodes i) 1 (omega arith), le-ltb (form_at nodes i) 2 g, lt-ltb (form_at nodes i) 3 h, p, q, w) refl
