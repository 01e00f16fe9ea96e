-- Demand 3, for the calls on a monitor struct in place and over node structs: each is the call on slices (`step_call`) on what the struct holds, so the laws of
-- single calls on slices (`lawful`, crate reports) are its laws.
use mathlib.Core.Bool.{Bool}
use mathlib.Core.List.{List, [], ◌∷◌}
use mathlib.Core.Option.{some}
use mathlib.Core.Path.{◌≡◌, refl, sym, ap, subst, ◌∙◌}
use Prim.Native.Nat.{ℕ, ◌≤◌}
use Rattle.std.specs.Prelude.{Result, Ok}
use Rattle.result.specs.Result.{given}
use Rattle.result.specs.declared.Refusal.{Refusal}
use Rattle.formula.specs.Formula.{Formula}
use Rattle.formula.specs.Table.{rule_of}
use Rattle.formula.proofs.Trees.{some_inj}
use Rattle.monitor.specs.Mon.{Mon}
use Rattle.monitor.specs.Compile.{rule_node}
use Rattle.compiler.specs.Compiled.{compile_call}
use Rattle.compiler_laws.proofs.ReadsBack.{compiled_reads}
use Rattle.meaning.specs.Calls.{Call, accepted, step_all, step_count, Below}
use Rattle.meaning.specs.Calls as calls
use Rattle.meaning.specs.State.{initial_state}
use Rattle.meaning.proofs.Machines.{Lawful, meets}
use Rattle.lent.specs.Lent.{LentTables, LentMonitor, HoldsRule, Ready, rule_mon, monitor_of}
use Rattle.stepping.specs.Walk.{read_mon}
use Rattle.stepping.specs.Call.{step_call}
use Rattle.stepping.specs.Fresh.{fresh_call, fresh_of}
use Rattle.stepping.proofs.Starting.{fresh_state, fresh_ready}
use Rattle.reports.specs.Calls.{step_event, calls_by, step_report, on_slices, compiled_tables, made_monitor}
use Rattle.reports.proofs.Following.{lawful}
use Rattle.reports.proofs.Demand.{made_of}
use Rattle.in_place.specs.declared.ReferenceMonitor.{ReferenceMonitor}
use Rattle.in_place.specs.InPlace.{memory_of, held_by, size_after, step_in, fresh_in}
use Rattle.node_table.specs.Node.{ops_of, nums_of}
use Rattle.table_step.specs.Over.{tables_over}
use Rattle.in_place_reports.specs.Calls.{ReadsAs, StepCall, in_place, DemandInPlace, plain_call, on_tables, DemandOnTables}

-- ---- single calls
module _ (e : StepCall) (k : ReferenceMonitor) where
  -- the answer of the call on slices
  same_answer : (step_in e.tables k e.at e.truths).verdict ≡ (step_call e.tables (held_by k) e.at e.truths).answer
  unfolding step_in
  same_answer = refl

  abbrev own_calls : Result Bool Refusal → List Call
  own_calls r = calls_by r (accepted e.at e.truths ∷ [])

  same_calls : in_place.calls e k ≡ on_slices.calls (step_event e.tables e.at e.truths) (held_by k)
  same_calls = ap own_calls same_answer

pub lawful_in_place : (m : Mon) → Lawful in_place m (ReadsAs m) (λ k. Ready (held_by k) m)
unfolding step_in
lawful_in_place m = record {
  follows = λ e k st r f.
      let (a, b) = (lawful m).follows (step_event e.tables e.at e.truths) (held_by k) st r (λ h. f (subst (λ (cs : List Call). 1 ≤ step_count cs) (sym (same_calls e k)) h)) in
      (a ∙ ap (step_all m st) (sym (same_calls e k)), ap (λ (x : Result Bool Refusal). step_report x e.at) (same_answer e k) ∙ b ∙ ap (calls.report_of m st) (sym (same_calls e k)));
  stays = λ e k d f. (lawful m).stays (step_event e.tables e.at e.truths) (held_by k) d (λ h. f (subst (λ (cs : List Call). 1 ≤ step_count cs) (sym (same_calls e k)) h));
  takes = λ e k d g. same_calls e k ∙ (lawful m).takes (step_event e.tables e.at e.truths) (held_by k) d (record { own = g.own; roomy = g.roomy; below = g.below });
}

pub lawful_on_tables : (m : Mon) → Lawful on_tables m (ReadsAs m) (λ k. Ready (held_by k) m)
lawful_on_tables m = record {
  follows = λ e k st r f. (lawful_in_place m).follows (plain_call e) k st r f;
  stays = λ e k d f. (lawful_in_place m).stays (plain_call e) k d f;
  takes = λ e k d g. (lawful_in_place m).takes (plain_call e) k d (record { own = g.own; roomy = g.roomy; below = g.below });
}

-- ---- a struct whose fresh monitor was made
pub record Started (t : LentTables) (k : ReferenceMonitor) (m : Mon) : Type 0 where
  pub holds : HoldsRule t m
  pub reads : ReadsAs m (fresh_in t k).monitor (initial_state m)
  pub ready : Ready (held_by (fresh_in t k).monitor) m

module _ (t : LentTables) (k : ReferenceMonitor) (n : ℕ) (m : Mon) (own : rule_mon t ≡ some m) (made : (fresh_in t k).outcome ≡ Ok n) where
  given_there : (fresh_call t k.forms k.bounds (memory_of k)).answer ≡ Ok n
  unfolding fresh_in
  given_there = made

  same_monitor : held_by (fresh_in t k).monitor ≡ made_monitor n (fresh_call t k.forms k.bounds (memory_of k))
  unfolding fresh_in
  same_monitor = ap (λ (r : Result ℕ Refusal). made_monitor (size_after r k.size) (fresh_call t k.forms k.bounds (memory_of k))) given_there

  pub started : Started t k m
  started =
      let x = made_of t k.forms k.bounds (memory_of k) n m own given_there in
      let k₀ : LentMonitor = monitor_of 0 k.forms k.bounds (memory_of k) in
      let e : held_by (fresh_in t k).monitor ≡ fresh_of t k₀ = same_monitor ∙ x.is in
      record {
        holds = x.holds;
        reads = ap (λ (y : LentMonitor). read_mon m y.memory 0) e ∙ fresh_state t k₀ m x.holds x.room;
        ready = subst (λ (y : LentMonitor). Ready y m) (sym e) (fresh_ready t k₀ m x.holds x.room);
      }

-- ---- the theorems
pub own_table : (ops nums : List ℕ) (first count : ℕ) (f : Formula) → rule_of ops nums first count ≡ some f →
    (out : List ℕ) (n : ℕ) → (compile_call ops nums first count out).answer ≡ given n →
    rule_mon (compiled_tables ops nums first count out n) ≡ some (rule_node f first)
own_table ops nums first count f is_f out n compiles =
    let c = compiled_reads ops nums first count out n compiles in
    c.reads ∙ ap (λ (g : Formula). some (rule_node g first)) (some_inj (sym c.rule ∙ is_f))

pub demand_in_place : DemandInPlace
unfolding Below
demand_in_place ops nums first count f is_f out n compiles k made =
    let t : LentTables = compiled_tables ops nums first count out n in
    let x = started t k n (rule_node f first) (own_table ops nums first count f is_f out n compiles) made in
    meets in_place f first (ReadsAs (rule_node f first)) (λ y. Ready (held_by y) (rule_node f first)) (lawful_in_place (rule_node f first)) (fresh_in t k).monitor x.reads x.ready
    (λ s w h. (record { tables = t; at = s; truths = w }, record { own = x.holds.rule; roomy = x.holds.room; below = (h, tt) }, refl))

pub demand_on_tables : DemandOnTables
unfolding Below
demand_on_tables table first count f is_f out n compiles k made =
    let nodes : List ℕ = (compile_call (ops_of table) (nums_of table) first count out).out in
    let x = started (tables_over table first count nodes 0 n) k n (rule_node f first) (own_table (ops_of table) (nums_of table) first count f is_f out n compiles) made in
    meets on_tables f first (ReadsAs (rule_node f first)) (λ y. Ready (held_by y) (rule_node f first)) (lawful_on_tables (rule_node f first)) (fresh_in (tables_over table first count nodes 0 n) k).monitor x.reads x.ready
    (λ s w h. (record { table = table; first = first; count = count; nodes = nodes; nfirst = 0; ncount = n; at = s; truths = w }, record { own = x.holds.rule; roomy = x.holds.room; below = (h, tt) }, refl))
