-- What the contract of `read_table` says of the table itself.
--     short_refused    a table shorter than 1,024 nodes is refused with 1
--     refused_keeps    a refusal leaves every node as it was
use mathlib.Core.List.{List}
use mathlib.Core.Path.{◌≡◌, ap}
use Prim.Native.Nat.{ℕ, ◌<◌}
use native.Mathlib.Omega.{arith}
use lib.ListN.{length, length-map}
use Rattle.reader.specs.Answer.{Reads}
use Rattle.reader.specs.BookTables.{BookTables, SlotTables}
use Rattle.std.specs.Prelude.{Err}
use Rattle.book.specs.declared.check.Refused.{Refused}
use Rattle.reader.proofs.Answers.{short, refused_inv}
use Rattle.node_table.specs.Node.{ops_of, nums_of}
use Rattle.node_table.specs.declared.FormulaNode.{FormulaNode}
use Rattle.node_table.proofs.Filling.{same_table}
use Rattle.table_read.specs.RuleList.{RuleList, with_table}
use Rattle.table_read.proofs.Reading.{short_reads}

pub short_refused : (text : List ℕ) (l : RuleList) (table : List FormulaNode) (u : SlotTables) → length table < 1024 → Reads text (with_table l (ops_of table) (nums_of table)) u (Err short) (with_table l (ops_of table) (nums_of table)) u
short_refused text l table u h = short_reads text (with_table l (ops_of table) (nums_of table)) u (omega (arith, length-map table (λ x. x.op)))

pub refused_keeps : (text : List ℕ) (l l' : RuleList) (table table' : List FormulaNode) (u u' : SlotTables) (e : Refused) → Reads text (with_table l (ops_of table) (nums_of table)) u (Err e) (with_table l' (ops_of table') (nums_of table')) u' → table' ≡ table
refused_keeps text l l' table table' u u' e p = same_table table' table (ap (λ (t : BookTables). t.ops) same) (ap (λ (t : BookTables). t.nums) same)
  where
    same : with_table l' (ops_of table') (nums_of table') ≡ with_table l (ops_of table) (nums_of table)
    same = (refused_inv text (with_table l (ops_of table) (nums_of table)) u (with_table l' (ops_of table') (nums_of table')) u' e p).1
