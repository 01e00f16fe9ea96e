-- A compiled rule's part of lent tables, in terms of the lists that they are.
use Rattle.std.specs.Prelude.{Bool, ◌&&◌, ℕ, leb, length}
use Rattle.std.proofs.Math.Option.{Option}
use Rattle.terms.specs.Limits.{node_cells}
use Rattle.formula.specs.Formula.{Formula}
use Rattle.formula.specs.declared.table.Span.{Span}
use Rattle.formula.specs.Table.{IsRule, roomy, rule_of}
use Rattle.monitor.specs.declared.node.Rows.{Rows}
use Rattle.monitor.specs.declared.table.Tables.{Tables}
use Rattle.monitor.specs.declared.table.Part.{Part}
use Rattle.monitor.specs.Mon.{Mon}
use Rattle.monitor.specs.Table.{Cell, cells, compiled_of}

-- room for 1,024 formula nodes and 256 monitor nodes of seven numbers
abbrev pub roomy_in : Tables → Bool
roomy_in t = leb node_cells (length t.nodes.now) && roomy t.formulas.ops.now t.formulas.nums.now

-- where the rule's formula stands
abbrev pub span_of : Part → Span
span_of p = record { first = p.first; count = p.count }

-- the rule's formula, and that there is one
abbrev pub rule_in : Tables → Part → Option Formula
rule_in t p = rule_of t.formulas.ops.now t.formulas.nums.now p.first p.count

abbrev pub RuleIn : Tables → Part → Type 0
RuleIn t p = IsRule t.formulas.ops.now t.formulas.nums.now p.first p.count

-- the rows of the rule's nodes
abbrev pub rows_in : Tables → Part → Rows
rows_in t p = record { nodes = t.nodes; first = p.nfirst; count = p.ncount }

-- the node in a row, over the rule's formula
abbrev pub cells_in : Tables → Part → ℕ → Cell
cells_in t p = cells t.formulas.ops.now t.formulas.nums.now p.first p.count t.nodes.now

-- the compiled rule, if the part holds one
abbrev pub compiled_in : Tables → Part → Option Mon
compiled_in t p =
    compiled_of t.formulas.ops.now t.formulas.nums.now p.first p.count t.nodes.now p.nfirst p.ncount
