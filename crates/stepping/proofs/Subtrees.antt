-- The size of the subtree that the rows from a place on hold, as the walk's measure reads it.
use mathlib.Core.Path.{◌≡◌, refl, ap, ap₂, subst, ◌∙◌}
use mathlib.Core.List.{List}
use Prim.Native.Nat.{ℕ, ◌+◌, ◌≤◌}
use native.Mathlib.Omega.{arith}
use lib.ListN.{length}
use Rattle.formula.specs.Tree.{Tree, leaf, two, size}
use Rattle.formula.specs.Spells.{Spells}
use Rattle.formula.proofs.Trees.{nodes_at_lem}
use Rattle.monitor.specs.Mon.{range_check, delayed_check, obligation, Mon, check, And, Or, count}
use Rattle.monitor.specs.Table.{row_of}
use Rattle.lent.specs.Nodes.{NodesAt}
use Rattle.stepping.specs.Walk.{token_of, mon_nodes}

abbrev Shape : Type 0
Shape = Tree (Unit {0}) (Unit {0}) (Unit {0})

shape : Mon → Shape
shape (check c) = leaf tt
shape (And m n) = two tt (shape m) (shape n)
shape (Or m n) = two tt (shape m) (shape n)

shape_size : (m : Mon) → size (shape m) ≡ count m
unfolding shape size count
shape_size (check c) = refl
shape_size (And m n) = ap₂ (λ (a b : ℕ). 1 + a + b) (shape_size m) (shape_size n)
shape_size (Or m n) = ap₂ (λ (a b : ℕ). 1 + a + b) (shape_size m) (shape_size n)

spelled : (ops nums nodes : List ℕ) (i : ℕ) (m : Mon) → NodesAt ops nums nodes i m → Spells (λ j. token_of (row_of nodes j)) i (shape m)
unfolding NodesAt Spells shape
spelled ops nums nodes i (check (range_check p r)) a = ap token_of a.0
spelled ops nums nodes i (check (delayed_check p q r)) a = ap token_of a.0
spelled ops nums nodes i (check (obligation b p q r)) a = ap token_of a.0
spelled ops nums nodes i (And m n) a =
    let z : i + 1 + count m ≡ i + 1 + size (shape m) = omega (arith, shape_size m) in
    (ap token_of a.0, spelled ops nums nodes (i + 1) m a.1, subst (λ (j : ℕ). Spells (λ j. token_of (row_of nodes j)) j (shape n)) z (spelled ops nums nodes (i + 1 + count m) n a.2))
spelled ops nums nodes i (Or m n) a =
    let z : i + 1 + count m ≡ i + 1 + size (shape m) = omega (arith, shape_size m) in
    (ap token_of a.0, spelled ops nums nodes (i + 1) m a.1, subst (λ (j : ℕ). Spells (λ j. token_of (row_of nodes j)) j (shape n)) z (spelled ops nums nodes (i + 1 + count m) n a.2))

pub subtree : (ops nums nodes : List ℕ) (i : ℕ) (m : Mon) → NodesAt ops nums nodes i m → count m ≤ length nodes → mon_nodes nodes i ≡ count m
subtree ops nums nodes i m a h =
    nodes_at_lem (λ j. token_of (row_of nodes j)) i (length nodes) (shape m) (spelled ops nums nodes i m a) (omega (arith, shape_size m))
    ∙ shape_size m
