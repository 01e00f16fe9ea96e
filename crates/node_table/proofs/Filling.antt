-- How many of a table's nodes may hold a rule, which places are read, and what one more node adds to a column.
use mathlib.Core.List.{List, [], ◌∷◌, map, head-eq_of_cons-eq, tail-eq_of_cons-eq}
use mathlib.Core.Path.{◌≡◌, refl, sym, ◌∙◌, ap, subst}
use Prim.Native.Nat.{ℕ, zero, suc, ◌+◌, ◌≤◌, ◌<◌}
use native.Mathlib.Nat.{not-suc-le-zero, le_of_suc-le-suc}
use native.Mathlib.Numerals.{add-one}
use native.Mathlib.Omega.{arith}
use borrow.Author.Tests.{le-leb}
use lib.ListN.{length, get_or, set, length-map, length-set}
use Rattle.node_table.specs.Node.{ops_of, nums_of}
use Rattle.node_table.specs.Columns.{end_of, HoldsColumn, front}
use Rattle.node_table.specs.declared.FormulaNode.{FormulaNode}

-- ---- the places of a rule that are read
-- where all of a rule's places are lent, all are read
pub end_fits : (lent first count i : ℕ) → first + count ≤ lent → i < first + count → i < end_of lent first count
end_fits lent first count i h below = rw (le-leb (first + count) lent h) below

-- ---- columns in front of a table
map_set : {A : Type 0} (f : A → ℕ) (l : List A) (i : ℕ) (a : A) → map f (set l i a) ≡ set (map f l) i (f a)
map_set f [] i a = refl
map_set f (x ∷ xs) zero a = refl
map_set f (x ∷ xs) (suc i) a = ap (λ (r : List ℕ). f x ∷ r) (map_set f xs i a)

front_suc : (xs l : List ℕ) (i : ℕ) → i < length xs → i < length l → set (front i xs l) i (get_or xs i 0) ≡ front (suc i) xs l
front_suc [] l i lx ll = absurd (not-suc-le-zero lx)
front_suc (x ∷ xs) [] i lx ll = absurd (not-suc-le-zero ll)
front_suc (x ∷ xs) (y ∷ ys) zero lx ll = refl
front_suc (x ∷ xs) (y ∷ ys) (suc i) lx ll = ap (λ (r : List ℕ). x ∷ r) (front_suc xs ys i (le_of_suc-le-suc lx) (le_of_suc-le-suc ll))

-- a table with i nodes of the columns in front that is given the next
pub stores : (f : FormulaNode → ℕ) (zs ys : List FormulaNode) (xs : List ℕ) (i : ℕ) (a : FormulaNode) → f a ≡ get_or xs i 0 → i < length xs → i < length ys
    → map f zs ≡ front i xs (map f ys) → map f (set zs i a) ≡ front (i + 1) xs (map f ys)
stores f zs ys xs i a is lx ly e =
    map_set f zs i a
    ∙ ap (λ (l : List ℕ). set l i (f a)) e
    ∙ ap (λ (v : ℕ). set (front i xs (map f ys)) i v) is
    ∙ front_suc xs (map f ys) i lx (subst (λ (n : ℕ). i < n) (sym (length-map ys f)) ly)
    ∙ ap (λ (k : ℕ). front k xs (map f ys)) (sym (add-one i))

-- a table is its operations and its numbers
pub same_table : (t u : List FormulaNode) → ops_of t ≡ ops_of u → nums_of t ≡ nums_of u → t ≡ u
same_table [] [] o n = refl
same_table [] (y ∷ u) o n = absurd (let z : ◌≡◌ {A = ℕ} 0 1 = cc in omega arith)
same_table (x ∷ t) [] o n = absurd (let z : ◌≡◌ {A = ℕ} 0 1 = cc in omega arith)
same_table (x ∷ t) (y ∷ u) o n =
    ap (λ (a : ℕ). record { op = a; num = x.num } ∷ t) (head-eq_of_cons-eq o)
    ∙ ap (λ (a : ℕ). record { op = y.op; num = a } ∷ t) (head-eq_of_cons-eq n)
    ∙ ap (λ (r : List FormulaNode). y ∷ r) (same_table t u (tail-eq_of_cons-eq o) (tail-eq_of_cons-eq n))

-- ---- how far the two loops have come
-- the columns of a table after the places from `first` to i were read
pub record Unpacking (table : List FormulaNode) (first i : ℕ) (os ns : List ℕ) : Type 0 where
  pub above : first ≤ i
  pub ops_room : length os ≡ 1024
  pub nums_room : length ns ≡ 1024
  pub ops_are : HoldsColumn os (ops_of table) first i
  pub nums_are : HoldsColumn ns (nums_of table) first i

-- a table after the first i nodes of the columns were stored
pub record Packing (os ns : List ℕ) (n : ℕ) (before : List FormulaNode) (i : ℕ) (table : List FormulaNode) : Type 0 where
  pub upto : i ≤ n
  pub same : length table ≡ length before
  pub ops_are : ops_of table ≡ front i os (ops_of before)
  pub nums_are : nums_of table ≡ front i ns (nums_of before)

module _ (os ns : List ℕ) (n : ℕ) (before : List FormulaNode) where
  pub packing_more : (i : ℕ) (table : List FormulaNode) → n ≤ length os → n ≤ length ns → n ≤ length before → Packing os ns n before i table → i < n
      → Packing os ns n before (i + 1) (set table i (record { op = get_or os i 0; num = get_or ns i 0 }))
  packing_more i table lo ln lb p h = record {
    upto = omega arith;
    same = length-set table i _ ∙ p.same;
    ops_are = stores (λ y. y.op) table before os i _ refl (omega arith) (omega arith) p.ops_are;
    nums_are = stores (λ y. y.num) table before ns i _ refl (omega arith) (omega arith) p.nums_are;
  }
