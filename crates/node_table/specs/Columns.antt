-- The columns of a formula table: what reading a table of node structs into plain arrays gives.
--     capped     how many of so many nodes may hold a rule: at most 1,024
--     end_of      where the places of a rule that are read end: none are where not all of them are there
--     Unpacked   the columns are as long as `capped` says and hold the nodes of the rule's own places
--     front      a column's first n entries in front of what stood past them
--     Packed     the table with the nodes of the columns in front, and every node past them as before
use Rattle.std.specs.Prelude.{List, ◌++◌, ◌≡◌, ℕ, ◌+◌, ◌≤◌, ◌<◌, leb, ltb, length, get_or, take, drop}
use Rattle.terms.specs.Choice.{pick}
use Rattle.terms.specs.Limits.{book_nodes}
use Rattle.node_table.specs.Node.{ops_of, nums_of}
use Rattle.node_table.specs.declared.columns.Columns.{Columns}
use Rattle.node_table.specs.declared.FormulaNode.{FormulaNode}

abbrev pub capped : ℕ → ℕ
capped n = pick (ltb n book_nodes) n book_nodes

abbrev pub end_of : ℕ → ℕ → ℕ → ℕ
end_of lent first count = pick (leb (first + count) lent) (first + count) first

-- a column's entries at the places [from, upto) are those of another list
abbrev pub HoldsColumn : List ℕ → List ℕ → ℕ → ℕ → Type 0
HoldsColumn xs ys from upto = (i : ℕ) → from ≤ i → i < upto → get_or xs i 0 ≡ get_or ys i 0

pub record Unpacked (table : List FormulaNode) (first count : ℕ) (c : Columns) : Type 0 where
  pub lent : c.count ≡ capped (length table)
  pub ops : HoldsColumn c.ops (ops_of table) first (end_of c.count first count)
  pub nums : HoldsColumn c.nums (nums_of table) first (end_of c.count first count)

abbrev pub front : ℕ → List ℕ → List ℕ → List ℕ
front n xs l = take n xs ++ drop n l

pub record Packed (c : Columns) (table table' : List FormulaNode) : Type 0 where
  pub ops : ops_of table' ≡ front c.count c.ops (ops_of table)
  pub nums : nums_of table' ≡ front c.count c.nums (nums_of table)
