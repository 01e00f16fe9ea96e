-- Two node tables' rows, compared one for one.
--     Shows        the node in a row is that of a cell, and its signals stand in the formula table
--     SameNode     the answer of comparing two nodes
use Rattle.std.specs.Prelude.{Bool, true, false, ◌&&◌, List, [], ◌∷◌, ◌≡◌, ℕ, ◌≤◌}
use Rattle.std.proofs.Math.Option.{some}
use Rattle.formula.specs.Tree.{leaf_of, one_of, two_of, unknown}
use Rattle.monitor.specs.declared.node.MonNode.{MonNode}
use Rattle.monitor.specs.declared.node.MonNode.TheVariants.{And as AndNode, Or as OrNode}
use Rattle.std.specs.Prelude.{None, Option, Some}
use Rattle.monitor.specs.Mon.{Check, range_check, delayed_check, obligation, Mon, node_of}
use Rattle.monitor.specs.Table.{Cell, Join, join_and, join_or}
use Rattle.alike.specs.Alike.{alike_check, part_of}
use Rattle.alike.specs.Signs.{Sound}
use Rattle.monitor.specs.declared.table.Part.{Part}

-- ---- likeness of two cells, and of two lists of them
abbrev pub alike_join : Join → Join → Bool
alike_join join_and join_and = true
alike_join join_and join_or = false
alike_join join_or join_and = false
alike_join join_or join_or = true

abbrev pub alike_cell : Cell → Cell → Bool
alike_cell (leaf_of c) (leaf_of d) = alike_check c d
alike_cell (leaf_of c) (one_of m) = false
alike_cell (leaf_of c) (two_of k) = false
alike_cell (leaf_of c) unknown = false
alike_cell (one_of n) d = false
alike_cell (two_of j) (leaf_of d) = false
alike_cell (two_of j) (one_of m) = false
alike_cell (two_of j) (two_of k) = alike_join j k
alike_cell (two_of j) unknown = false
alike_cell unknown d = false

unfoldable pub alike_cells : List Cell → List Cell → Bool
alike_cells [] [] = true
alike_cells [] (d ∷ ds) = false
alike_cells (c ∷ cs) [] = false
alike_cells (c ∷ cs) (d ∷ ds) = alike_cell c d && alike_cells cs ds

-- ---- a row and the cell that it shows
abbrev pub join_row : Join → MonNode
join_row join_and = AndNode
join_row join_or = OrNode

abbrev pub row_for : Cell → Option MonNode
row_for (leaf_of c) = Some (node_of c)
row_for (one_of n) = None
row_for (two_of j) = Some (join_row j)
row_for unknown = None

abbrev pub SoundCheck : List ℕ → List ℕ → Check → Type 0
SoundCheck ops nums (range_check s r) = Sound ops nums s × Sound ops nums s
SoundCheck ops nums (delayed_check s t r) = Sound ops nums s × Sound ops nums t
SoundCheck ops nums (obligation b s t r) = Sound ops nums s × Sound ops nums t

abbrev pub SoundCell : List ℕ → List ℕ → Cell → Type 0
SoundCell ops nums (leaf_of c) = SoundCheck ops nums c
SoundCell ops nums (one_of n) = 0 ≤ 0
SoundCell ops nums (two_of j) = 0 ≤ 0
SoundCell ops nums unknown = 0 ≤ 0

pub record Shows (ops nums : List ℕ) (r : Option MonNode) (c : Cell) : Type 0 where
  pub is : r ≡ row_for c
  pub known : c ≡ unknown → ⊥
  pub sound : SoundCell ops nums c

pub record IsShown (ops nums : List ℕ) (r : Option MonNode) : Type 0 where
  pub cell : Cell
  pub shows : Shows ops nums r cell

pub record SameRow (ops nums : List ℕ) (x y : Option MonNode) (r : Bool) : Type 0 where
  pub is : (c d : Cell) → Shows ops nums x c → Shows ops nums y d → r ≡ alike_cell c d

-- a part that holds a compiled rule
pub record IsCompiled (ops nums nodes : List ℕ) (a : Part) : Type 0 where
  pub mon : Mon
  pub is : part_of ops nums nodes a ≡ some mon
