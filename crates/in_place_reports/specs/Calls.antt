-- The calls on a monitor struct lent by `&mut` as machines (crate meaning, specs/Demand.antt), whose memory is the struct. The contracts of
-- `in_place::step::step` and `step_table` are equality with `step_in`, of which the machines are made.
--     in_place, DemandInPlace      the calls on plain tables: `compile_formula`, and `fresh` and `step` in place
--     on_tables, DemandOnTables    the calls over node structs: `compile_table`, `fresh_table`, `step_table`
use Rattle.std.specs.Prelude.{true, List, [], ◌∷◌, ◌≡◌, ℕ, Ok}
use Rattle.std.proofs.Math.Option.{some}
use Rattle.result.specs.Result.{given}
use Rattle.formula.specs.Formula.{Formula}
use Rattle.formula.specs.Table.{rule_of}
use Rattle.monitor.specs.Mon.{Mon}
use Rattle.monitor.specs.Compile.{rule_node}
use Rattle.compiler.specs.Compiled.{compile_call}
use Rattle.meaning.specs.Calls.{accepted}
use Rattle.meaning.specs.Demand.{Machine, Demand}
use Rattle.meaning.specs.State.{State}
use Rattle.lent.specs.Lent.{LentTables, table_room, rule_mon}
use Rattle.stepping.specs.Walk.{read_mon}
use Rattle.reports.specs.Calls.{calls_by, step_report, compiled_tables}
use Rattle.in_place.specs.declared.ReferenceMonitor.{ReferenceMonitor}
use Rattle.in_place.specs.InPlace.{memory_of, step_in, fresh_in}
use Rattle.node_table.specs.declared.FormulaNode.{FormulaNode}
use Rattle.node_table.specs.Node.{ops_of, nums_of}
use Rattle.table_step.specs.Over.{tables_over}

-- the struct reads as a state of m
abbrev pub ReadsAs : (m : Mon) → ReferenceMonitor → State m → Type 0
ReadsAs m k st = read_mon m (memory_of k) 0 ≡ st

-- ---- over plain tables
-- the tables that a call is lent, its step and its truths
pub record StepCall : Type 0 where
  pub tables : LentTables
  pub at : ℕ
  pub truths : ℕ

abbrev pub in_place : Machine ReferenceMonitor StepCall
in_place = record {
  asks = λ e. accepted e.at e.truths ∷ [];
  Own = λ e m. rule_mon e.tables ≡ some m;
  Roomy = λ e. table_room e.tables.ops e.tables.nums e.tables.nodes ≡ true;
  calls = λ e k. calls_by (step_in e.tables k e.at e.truths).verdict (accepted e.at e.truths ∷ []);
  reports = λ e k. step_report (step_in e.tables k e.at e.truths).verdict e.at;
  run = λ e k. (step_in e.tables k e.at e.truths).monitor;
}

abbrev pub DemandInPlace : Type 0
DemandInPlace =
    (ops nums : List ℕ) (first count : ℕ) (f : Formula) → rule_of ops nums first count ≡ some f →
    (out : List ℕ) (n : ℕ) → (compile_call ops nums first count out).answer ≡ given n →
    (k : ReferenceMonitor) → (fresh_in (compiled_tables ops nums first count out n) k).outcome ≡ Ok n →
    Demand in_place f (rule_node f first) (ReadsAs (rule_node f first)) (fresh_in (compiled_tables ops nums first count out n) k).monitor

-- ---- over node structs
-- the formula table and the rule's part of it, the node table and the compiled rule's part of it, a step and its truths
pub record TableCall : Type 0 where
  pub table : List FormulaNode
  pub first : ℕ
  pub count : ℕ
  pub nodes : List ℕ
  pub nfirst : ℕ
  pub ncount : ℕ
  pub at : ℕ
  pub truths : ℕ

-- the same call over plain tables
abbrev pub plain_call : TableCall → StepCall
plain_call e = record { tables = tables_over e.table e.first e.count e.nodes e.nfirst e.ncount; at = e.at; truths = e.truths }

abbrev pub on_tables : Machine ReferenceMonitor TableCall
on_tables = record {
  asks = λ e. in_place.asks (plain_call e);
  Own = λ e m. in_place.Own (plain_call e) m;
  Roomy = λ e. in_place.Roomy (plain_call e);
  calls = λ e k. in_place.calls (plain_call e) k;
  reports = λ e k. in_place.reports (plain_call e) k;
  run = λ e k. in_place.run (plain_call e) k;
}

abbrev pub DemandOnTables : Type 0
DemandOnTables =
    (table : List FormulaNode) (first count : ℕ) (f : Formula) → rule_of (ops_of table) (nums_of table) first count ≡ some f →
    (out : List ℕ) (n : ℕ) → (compile_call (ops_of table) (nums_of table) first count out).answer ≡ given n →
    (k : ReferenceMonitor) → (fresh_in (tables_over table first count (compile_call (ops_of table) (nums_of table) first count out).out 0 n) k).outcome ≡ Ok n →
    Demand on_tables f (rule_node f first) (ReadsAs (rule_node f first))
    (fresh_in (tables_over table first count (compile_call (ops_of table) (nums_of table) first count out).out 0 n) k).monitor
