-- The rows of a node table and what a rule keeps.
--     rows_keep    where they hold a compiled rule they keep what it keeps
--     rest_row     the next of the rows that are left
use mathlib.Core.Path.{◌≡◌, sym, ap, ap₂, ◌∙◌}
use mathlib.Core.List.{List, [], ◌∷◌, ◌++◌}
use mathlib.Core.Option.{some}
use Prim.Native.Nat.{ℕ, zero, suc, ◌+◌, ◌-◌, ◌≤◌, ◌<◌}
use native.Mathlib.Omega.{arith}
use native.Mathlib.Nat.{add-zero, zero-add}
use Rattle.monitor.specs.Mon.{Mon, check, And, Or, count}
use Rattle.monitor.specs.Table.{row_of}
use Rattle.plan.proofs.Rows.{table_bits, table_part}
use Rattle.lent.specs.Nodes.{NodesAt}
use Rattle.lent.specs.Lent.{LentTables, rule_mon}
use Rattle.lent.proofs.Standings.{rule_stood}
use Rattle.kept.specs.declared.Keep.{Keep}
use Rattle.kept.specs.Kept.{keep_row, keeps, row_keeps, BitsPart}
use Rattle.kept.proofs.Slots.{kept_bits_lem}
use Rattle.kept.specs.Kept.{kept_bits}

module _ (nodes : List ℕ) where
  rows_append : (i a b : ℕ) → row_keeps nodes i (a + b) ≡ row_keeps nodes i a ++ row_keeps nodes (i + a) b
  unfolding row_keeps
  rows_append i zero b = ap₂ (row_keeps nodes) (sym (add-zero i)) (zero-add b)
  rows_append i (suc a) b =
      let o : suc a + b ≡ suc (a + b) = omega arith in
      let p : i + 1 + a ≡ i + suc a = omega arith in
      ap (row_keeps nodes i) o ∙ ap (keep_row (row_of nodes i) ∷◌) (rows_append (i + 1) a b ∙ ap (λ (x : ℕ). row_keeps nodes (i + 1) a ++ row_keeps nodes x b) p)

  row_and_parts : (i a b : ℕ) → row_keeps nodes i (1 + a + b) ≡ keep_row (row_of nodes i) ∷ row_keeps nodes (i + 1) a ++ row_keeps nodes (i + 1 + a) b
  unfolding row_keeps
  row_and_parts i a b =
      let o : 1 + a + b ≡ suc (a + b) = omega arith in
      ap (row_keeps nodes i) o ∙ ap (keep_row (row_of nodes i) ∷◌) (rows_append (i + 1) a b)

  keeps_at : (ops nums : List ℕ) (m : Mon) (i : ℕ) → NodesAt ops nums nodes i m → row_keeps nodes i (count m) ≡ keeps m
  unfolding NodesAt row_keeps keeps count
  keeps_at ops nums (check c) i a = ap (λ (x : Keep). x ∷ []) (ap keep_row a.0)
  keeps_at ops nums (And m n) i a =
      row_and_parts i (count m) (count n)
      ∙ (λ j. keep_row (a.0 j) ∷ keeps_at ops nums m (i + 1) a.1 j ++ keeps_at ops nums n (i + 1 + count m) a.2 j)
  keeps_at ops nums (Or m n) i a =
      row_and_parts i (count m) (count n)
      ∙ (λ j. keep_row (a.0 j) ∷ keeps_at ops nums m (i + 1) a.1 j ++ keeps_at ops nums n (i + 1 + count m) a.2 j)

  -- ---- the rows that are left
  module _ (nfirst n k : ℕ) where
    pub rest_row : k < n → row_keeps nodes (nfirst + k) (n - k) ≡ keep_row (row_of nodes (nfirst + k)) ∷ row_keeps nodes (nfirst + (k + 1)) (n - (k + 1))
    unfolding row_keeps
    rest_row h =
        let o : n - k ≡ suc (n - (k + 1)) = omega arith in
        let p : nfirst + k + 1 ≡ nfirst + (k + 1) = omega arith in
        ap (row_keeps nodes (nfirst + k)) o ∙ ap (λ (x : ℕ). keep_row (row_of nodes (nfirst + k)) ∷ row_keeps nodes x (n - (k + 1))) p

    pub rest_none : n ≤ k → row_keeps nodes (nfirst + k) (n - k) ≡ []
    unfolding row_keeps
    rest_none h = let o : n - k ≡ 0 = omega arith in ap (row_keeps nodes (nfirst + k)) o

-- ---- tables that hold a rule
module _ (t : LentTables) (m : Mon) (e : rule_mon t ≡ some m) where
  pub rows_keep : row_keeps t.nodes t.nfirst t.ncount ≡ keeps m
  rows_keep =
      let o = rule_stood t m e in
      ap (row_keeps t.nodes t.nfirst) (sym o.counted) ∙ keeps_at t.nodes t.ops t.nums m t.nfirst o.stands

  pub bits_part : BitsPart t.nodes t.nfirst t.ncount
  bits_part = record {
    rows = table_part t.ops t.nums t.first t.count t.nodes t.nfirst t.ncount m e;
    laid = table_bits t.ops t.nums t.first t.count t.nodes t.nfirst t.ncount m e ∙ sym (kept_bits_lem m) ∙ sym (ap kept_bits rows_keep);
  }
