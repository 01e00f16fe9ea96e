-- The tables of a call over a formula table of node structs.
use Rattle.std.specs.Prelude.{List, ℕ}
use Rattle.monitor.specs.declared.table.Part.{Part}
use Rattle.lent.specs.Lent.{LentTables, tables}
use Rattle.node_table.specs.Node.{ops_of, nums_of}
use Rattle.node_table.specs.declared.FormulaNode.{FormulaNode}

abbrev pub tables_over : List FormulaNode → ℕ → ℕ → List ℕ → ℕ → ℕ → LentTables
tables_over table first count nodes nfirst ncount = tables (ops_of table) (nums_of table) first count nodes nfirst ncount

-- the same for the rule's part of the two tables
abbrev pub part_over : List FormulaNode → List ℕ → Part → LentTables
part_over table nodes p = tables_over table p.first p.count nodes p.nfirst p.ncount
