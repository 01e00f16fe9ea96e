-- The skeleton's entries and the obligations of a formula, by its words, and how many they are.
use mathlib.Core.Path.{◌≡◌, refl, ap}
use mathlib.Core.List.{List, [], ◌∷◌, ◌++◌}
use Prim.Native.Nat.{ℕ, ◌+◌, ◌*◌, ◌≤◌, ◌<◌}
use native.Mathlib.Omega.{arith}
use lib.ListN.{length, length-append}
use Rattle.formula.specs.Tree.{leaf, one, two, two_of, size}
use Rattle.formula.specs.Formula.{Binary, Formula, not, next, always, eventually, always_for, within, and, or, implies, until}
use Rattle.formula.proofs.Nodes.{number_of}
use Rattle.liveness.specs.Split.{Obligation, E, U, Skeleton, safety, owed, Not, And, Or, Implies, skeleton_of, obligations_of, owes}
use Rattle.split.specs.Held.{entries, skeleton_cells, owed_cells, obligation_cells}

-- ---- skeleton and obligations of a word with two operands
pub record Joined (o : Binary) (l r : Formula) (i k : ℕ) : Type 0 where
  pub cells : skeleton_cells (skeleton_of (two o l r) i k) ≡ (number_of (two_of o) ∷ 0 ∷ []) ++ (skeleton_cells (skeleton_of l (i + 1) k) ++ skeleton_cells (skeleton_of r (i + 1 + size l) (k + owes l (i + 1))))
  pub count : entries (skeleton_of (two o l r) i k) ≡ 1 + entries (skeleton_of l (i + 1) k) + entries (skeleton_of r (i + 1 + size l) (k + owes l (i + 1)))
  pub owe : obligations_of (two o l r) i ≡ obligations_of l (i + 1) ++ obligations_of r (i + 1 + size l)

pub joined : (o : Binary) (l r : Formula) (i k : ℕ) → number_of (two_of o) < 12 → Joined o l r i k
unfolding skeleton_cells skeleton_of entries obligations_of
joined and l r i k h = record { cells = refl; count = refl; owe = refl }
joined or l r i k h = record { cells = refl; count = refl; owe = refl }
joined implies l r i k h = record { cells = refl; count = refl; owe = refl }
joined until l r i k h = absurd (omega arith)

-- ---- sizes: a skeleton has at most as many entries as its formula has nodes, and so with obligations
pub entries_most : (f : Formula) (i k : ℕ) → entries (skeleton_of f i k) ≤ size f
unfolding skeleton_of entries size
entries_most (leaf a) i k = omega arith
entries_most (one not f) i k = omega (arith, entries_most f (i + 1) k)
entries_most (one next f) i k = omega arith
entries_most (one always f) i k = omega arith
entries_most (one eventually f) i k = omega arith
entries_most (one (always_for b) f) i k = omega arith
entries_most (one (within b) f) i k = omega arith
entries_most (two and l r) i k = omega (arith, entries_most l (i + 1) k, entries_most r (i + 1 + size l) (k + owes l (i + 1)))
entries_most (two or l r) i k = omega (arith, entries_most l (i + 1) k, entries_most r (i + 1 + size l) (k + owes l (i + 1)))
entries_most (two implies l r) i k = omega (arith, entries_most l (i + 1) k, entries_most r (i + 1 + size l) (k + owes l (i + 1)))
entries_most (two until l r) i k = omega arith

pub owes_most_lem : (f : Formula) (i : ℕ) → owes f i ≤ size f
unfolding obligations_of size
owes_most_lem (leaf a) i = omega arith
owes_most_lem (one not f) i = omega (arith, owes_most_lem f (i + 1))
owes_most_lem (one next f) i = omega arith
owes_most_lem (one always f) i = omega arith
owes_most_lem (one eventually f) i = omega arith
owes_most_lem (one (always_for b) f) i = omega arith
owes_most_lem (one (within b) f) i = omega arith
owes_most_lem (two and l r) i = omega (arith, length-append (obligations_of l (i + 1)) (obligations_of r (i + 1 + size l)), owes_most_lem l (i + 1), owes_most_lem r (i + 1 + size l))
owes_most_lem (two or l r) i = omega (arith, length-append (obligations_of l (i + 1)) (obligations_of r (i + 1 + size l)), owes_most_lem l (i + 1), owes_most_lem r (i + 1 + size l))
owes_most_lem (two implies l r) i = omega (arith, length-append (obligations_of l (i + 1)) (obligations_of r (i + 1 + size l)), owes_most_lem l (i + 1), owes_most_lem r (i + 1 + size l))
owes_most_lem (two until l r) i = omega arith

pub cells_length : (s : Skeleton) → length (skeleton_cells s) ≡ 2 * entries s
unfolding skeleton_cells entries
cells_length (safety i a) = refl
cells_length (owed k) = refl
cells_length (Not s) = omega (arith, cells_length s)
cells_length (And s t) = omega (arith, length-append (skeleton_cells s) (skeleton_cells t), cells_length s, cells_length t)
cells_length (Or s t) = omega (arith, length-append (skeleton_cells s) (skeleton_cells t), cells_length s, cells_length t)
cells_length (Implies s t) = omega (arith, length-append (skeleton_cells s) (skeleton_cells t), cells_length s, cells_length t)

three : (o : Obligation) → length (obligation_cells o) ≡ 3
three (E i f) = refl
three (U i f j g) = refl

pub owed_length : (os : List Obligation) → length (owed_cells os) ≡ 3 * length os
unfolding owed_cells
owed_length [] = refl
owed_length (o ∷ os) = omega (arith, length-append (obligation_cells o) (owed_cells os), three o, owed_length os)

pub owed_append : (os ps : List Obligation) → owed_cells (os ++ ps) ≡ owed_cells os ++ owed_cells ps
unfolding owed_cells
owed_append [] ps = refl
owed_append (E i f ∷ os) ps = ap (λ (x : List ℕ). 0 ∷ i ∷ 0 ∷ x) (owed_append os ps)
owed_append (U i f j g ∷ os) ps = ap (λ (x : List ℕ). 1 ∷ i ∷ j ∷ x) (owed_append os ps)
