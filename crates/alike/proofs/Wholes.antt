-- From the rows of two compiled rules to their likeness.
use mathlib.Core.Path.{◌≡◌, refl, sym, ap, ap₂, subst, ◌∙◌}
use mathlib.Core.Bool.{Bool, true, false, ◌&&◌}
use mathlib.Core.List.{List}
use mathlib.Core.Option.{Option, none, some}
use Prim.Native.Nat.{ℕ, suc, ◌+◌, ◌-◌, ◌*◌, ◌≤◌, ◌<◌}
use native.Mathlib.Omega.{arith}
use lib.ListN.{length}
use Rattle.formula.specs.Tree.{Tree, unknown, prefix}
use Rattle.formula.specs.Spells.{run}
use Rattle.formula.specs.Formula.{Formula}
use Rattle.formula.specs.Table.{is_some, rule_of}
use Rattle.formula.proofs.Trees.{prefix_length, spells_run}
use Rattle.formula.proofs.Nodes.{known_at}
use Rattle.formula.proofs.Rules.{rule_inv}
use Rattle.monitor.specs.Mon.{Check, Mon}
use Rattle.monitor.specs.Table.{Never, Join, Cell, cell_of, cell_by, cells, row_of, from_tree}
use Rattle.monitor.proofs.HeldTree.{HoldsTree, held_inv}
use Rattle.monitor.specs.declared.table.Part.{Part}
use Rattle.alike.specs.Alike.{part_of, alike_some}
use Rattle.alike.specs.Rows.{alike_cells, Shows, IsShown, SameRow, IsCompiled}
use Rattle.alike.proofs.Matches.{trees_alike, lengths_differ, cell_shown}

-- ---- a compiled rule in the tables
module _ (ops nums nodes : List ℕ) where
  abbrev cells_of : Part → ℕ → Cell
  cells_of a i = cells ops nums a.first a.count nodes i

  -- the rule's tree, and its rows
  record Held (a : Part) : Type 0 where
    pub formula : Formula
    pub tree : Tree Check Never Join
    pub holds : HoldsTree ops nums a.first a.count nodes a.nfirst a.ncount formula tree
    pub is : part_of ops nums nodes a ≡ some (from_tree tree)

  held : (a : Part) → IsCompiled ops nums nodes a → Held a
  held a u =
      let (f, t, h, e) = held_inv ops nums a.first a.count nodes a.nfirst a.ncount u.mon u.is in
      record { formula = f; tree = t; holds = h; is = u.is ∙ ap some e }

  rows_of : (a : Part) (h : Held a) → run (cells_of a) a.nfirst a.ncount ≡ prefix h.tree
  rows_of a h = ap (run (cells_of a) a.nfirst) (sym h.holds.covers) ∙ spells_run (cells_of a) a.nfirst h.tree h.holds.spells

  shown_at : (a : Part) → IsCompiled ops nums nodes a → (k : ℕ) → k < a.ncount → Shows ops nums (row_of nodes (a.nfirst + k)) (cells_of a (a.nfirst + k))
  unfolding cells
  shown_at a u k l =
      let h = held a u in
      let i = a.nfirst + k in
      let r : rule_of ops nums a.first a.count ≡ some h.formula = h.holds.rule in
      let n : cells_of a i ≡ unknown → ⊥ = known_at (cells_of a) a.nfirst h.tree k h.holds.spells (omega (arith, h.holds.covers)) in
      let e : cells_of a i ≡ cell_of h.formula a.first (row_of nodes i) = ap (λ (o : Option Formula). cell_by o a.first (row_of nodes i)) r in
      subst (Shows ops nums (row_of nodes i)) (sym e)
      (cell_shown ops nums a.first a.count h.formula (rule_inv ops nums a.first a.count h.formula r) (row_of nodes i) (λ z. n (e ∙ z)))

  -- the rules are alike where their rows are
  by_cells : (a b : Part) → IsCompiled ops nums nodes a → IsCompiled ops nums nodes b
      → alike_some (part_of ops nums nodes a) (part_of ops nums nodes b) ≡ alike_cells (run (cells_of a) a.nfirst a.ncount) (run (cells_of b) b.nfirst b.ncount)
  by_cells a b u w =
      let h = held a u in
      let g = held b w in
      ap₂ alike_some h.is g.is
      ∙ trees_alike h.tree g.tree
      ∙ sym (ap₂ alike_cells (rows_of a h) (rows_of b g))

  pub counts_differ : (a b : Part) → IsCompiled ops nums nodes a → IsCompiled ops nums nodes b → (a.ncount ≡ b.ncount → ⊥) → false ≡ alike_some (part_of ops nums nodes a) (part_of ops nums nodes b)
  counts_differ a b u w n =
      let h = held a u in
      let g = held b w in
      sym (ap₂ alike_some h.is g.is
      ∙ trees_alike h.tree g.tree
      ∙ lengths_differ (prefix h.tree) (prefix g.tree)
      (λ e. n (omega (arith, prefix_length h.tree, prefix_length g.tree, h.holds.covers, g.holds.covers))))

  -- ---- row by row
  abbrev Rowed : (ℕ → Cell) → ℕ → ℕ → Type 0
  Rowed tok i n = (q : ℕ) → q < n → Shows ops nums (row_of nodes (i + q)) (tok (i + q))

  -- the first k rows agree, so that the rest decides
  pub record Agreed (n i j k : ℕ) : Type 0 where
    pub within : k ≤ n
    pub is : (s t : ℕ → Cell) → Rowed s i n → Rowed t j n → alike_cells (run s i n) (run t j n) ≡ alike_cells (run s (i + k) (n - k)) (run t (j + k) (n - k))

  module _ (n i j k : ℕ) (u : Agreed n i j k) (h : k < n) (r : Bool) (w : SameRow ops nums (row_of nodes (i + k)) (row_of nodes (j + k)) r) where
    one_row : (s t : ℕ → Cell) → Rowed s i n → Rowed t j n → alike_cells (run s i n) (run t j n) ≡ (r && alike_cells (run s (i + k + 1) (n - (k + 1))) (run t (j + k + 1) (n - (k + 1))))
    unfolding run alike_cells
    one_row s t x y =
        let p : n - k ≡ suc (n - (k + 1)) = omega arith in
        u.is s t x y
        ∙ ap (λ (m : ℕ). alike_cells (run s (i + k) m) (run t (j + k) m)) p
        ∙ ap (λ (b : Bool). b && alike_cells (run s (i + k + 1) (n - (k + 1))) (run t (j + k + 1) (n - (k + 1)))) (sym (w.is (s (i + k)) (t (j + k)) (x k h) (y k h)))

    pub agreed_more : r ≡ true → Agreed n i j (k + 1)
    agreed_more e = record {
      within = omega arith;
      is = λ s t x y.
          let a : i + k + 1 ≡ i + (k + 1) = omega arith in
          let b : j + k + 1 ≡ j + (k + 1) = omega arith in
          one_row s t x y
          ∙ ap (λ (c : Bool). c && alike_cells (run s (i + k + 1) (n - (k + 1))) (run t (j + k + 1) (n - (k + 1)))) e
          ∙ ap₂ (λ (c d : ℕ). alike_cells (run s c (n - (k + 1))) (run t d (n - (k + 1)))) a b;
    }

  module _ (a b : Part) (u : IsCompiled ops nums nodes a) (w : IsCompiled ops nums nodes b) (e : a.ncount ≡ b.ncount) (k : ℕ) where
    shown_second : Rowed (cells_of b) b.nfirst a.ncount
    shown_second q l = shown_at b w q (omega arith)

    by_rows : alike_some (part_of ops nums nodes a) (part_of ops nums nodes b) ≡ alike_cells (run (cells_of a) a.nfirst a.ncount) (run (cells_of b) b.nfirst a.ncount)
    by_rows = by_cells a b u w ∙ ap (λ (n : ℕ). alike_cells (run (cells_of a) a.nfirst a.ncount) (run (cells_of b) b.nfirst n)) (sym e)

    pub row_differs : Agreed a.ncount a.nfirst b.nfirst k → k < a.ncount → (r : Bool) → SameRow ops nums (row_of nodes (a.nfirst + k)) (row_of nodes (b.nfirst + k)) r
        → r ≡ false → false ≡ alike_some (part_of ops nums nodes a) (part_of ops nums nodes b)
    row_differs v h r x z = sym
        (by_rows
        ∙ one_row a.ncount a.nfirst b.nfirst k v h r x (cells_of a) (cells_of b) (shown_at a u) shown_second
        ∙ ap (λ (c : Bool). c && alike_cells (run (cells_of a) (a.nfirst + k + 1) (a.ncount - (k + 1))) (run (cells_of b) (b.nfirst + k + 1) (a.ncount - (k + 1)))) z)

    pub rows_agree : Agreed a.ncount a.nfirst b.nfirst k → a.ncount ≤ k → true ≡ alike_some (part_of ops nums nodes a) (part_of ops nums nodes b)
    unfolding run alike_cells
    rows_agree v h =
        let z : a.ncount - k ≡ 0 = omega arith in
        sym
        (by_rows
        ∙ v.is (cells_of a) (cells_of b) (shown_at a u) shown_second
        ∙ ap (λ (m : ℕ). alike_cells (run (cells_of a) (a.nfirst + k) m) (run (cells_of b) (b.nfirst + k) m)) z)

  -- ---- what comparing a row asks
  module _ (a : Part) (u : IsCompiled ops nums nodes a) (k : ℕ) where
    pub row_in : k < a.ncount → 7 * (a.nfirst + k + 1) ≤ length nodes
    row_in h = omega (arith, (held a u).holds.in_nodes)

    pub shown_row : k < a.ncount → IsShown ops nums (row_of nodes (a.nfirst + k))
    shown_row h = record { cell = cells_of a (a.nfirst + k); shows = shown_at a u k h }

    pub row_in_second : (n : ℕ) → n ≡ a.ncount → k < n → 7 * (a.nfirst + k + 1) ≤ length nodes
    row_in_second n e h = row_in (omega arith)

    pub shown_row_second : (n : ℕ) → n ≡ a.ncount → k < n → IsShown ops nums (row_of nodes (a.nfirst + k))
    shown_row_second n e h = shown_row (omega arith)

  -- what an answer of `is_compiled` says of a part
  pub part_compiled : (a : Part) (c : Bool) → c ≡ is_some (part_of ops nums nodes a) → c ≡ true → IsCompiled ops nums nodes a
  part_compiled a c p q = go (part_of ops nums nodes a) refl (sym p ∙ q)
    where
      go : (o : Option Mon) → part_of ops nums nodes a ≡ o → is_some o ≡ true → IsCompiled ops nums nodes a
      go none e w = let z : ◌≡◌ {A = ℕ} 0 1 = cc in absurd (omega arith)
      go (some m) e w = record { mon = m; is = e }
