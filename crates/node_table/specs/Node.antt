-- A formula table as a list of nodes.
--     struct_at         the node at a place
--     ops_of, nums_of    the operations and the numbers of the nodes: the two lists of which the core's definitions speak
use Rattle.std.specs.Prelude.{List, map, ℕ, get_or}
use Rattle.node_table.specs.declared.FormulaNode.{FormulaNode}

abbrev pub blank : FormulaNode
blank = record { op = 0; num = 0 }

abbrev pub struct_at : List FormulaNode → ℕ → FormulaNode
struct_at table i = get_or table i blank

abbrev pub ops_of : List FormulaNode → List ℕ
ops_of table = map (λ x. x.op) table

abbrev pub nums_of : List FormulaNode → List ℕ
nums_of table = map (λ x. x.num) table
