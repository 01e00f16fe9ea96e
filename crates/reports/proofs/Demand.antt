-- Demand 3, for the calls on slices: `DemandThree` (specs/Calls.antt), from the answers of `compile_formula` and `fresh` on.
use mathlib.Core.Bool.{Bool, true, false, ◌&&◌}
use mathlib.Core.List.{List, [], ◌∷◌}
use mathlib.Core.Option.{Option, none, some}
use mathlib.Core.Path.{◌≡◌, refl, sym, ap, ap₂, subst, ◌∙◌}
use Prim.Native.Nat.{ℕ, ◌<◌}
use native.Mathlib.Omega.{arith}
use Rattle.std.specs.Prelude.{Ok, Err}
use Rattle.std.specs.Prelude.{Result as Returned}
use Rattle.result.specs.Result.{Result, given, refused}
use Rattle.result.specs.declared.Refusal.{Refusal}
use Rattle.formula.specs.Formula.{Formula}
use Rattle.formula.specs.Table.{rule_of, roomy}
use Rattle.formula.proofs.Walks.{both_true}
use lib.Dec.{leb}
use lib.ListN.{length}
use lib.Seq.{length-sets}
use Rattle.formula.proofs.Trees.{some_inj}
use Rattle.monitor.specs.Mon.{Mon, rows}
use Rattle.monitor.specs.Compile.{rule_faults, rule_node}
use Rattle.compiler.specs.Compiled.{first_or, compile_formula, compile_call}
use Rattle.compiler.specs.Compiled as compiling
use Rattle.compiler_laws.proofs.ReadsBack.{compiled_reads}
use Rattle.meaning.specs.Calls.{accepted, Below}
use Rattle.meaning.specs.Demand.{Lent}
use Rattle.meaning.proofs.Machines.{meets}
use Rattle.node_step.specs.Memory.{Memory}
use Rattle.lent.specs.Lent.{LentTables, LentMonitor, lent_of, table_room, monitor_room, rule_mon, HoldsRule, Ready, monitor_of}
use Rattle.lent.proofs.Standings.{lent_parts}
use Rattle.stepping.specs.Walk.{read_mon}
use Rattle.stepping.specs.Fresh.{Making, fresh_of, or_short, make_mon, fresh_call}
use Rattle.stepping.proofs.Starting.{fresh_state, fresh_ready}
use Rattle.reports.specs.Calls.{Event, step_event, on_slices, ReadsAs, compiled_tables, made_monitor, DemandThree}
use Rattle.reports.proofs.Following.{lawful}

-- ---- what `fresh` made
pub record MadeOf (t : LentTables) (forms bounds : List ℕ) (mem : Memory) (n : ℕ) (m : Mon) : Type 0 where
  pub counted : n ≡ t.ncount
  pub holds : HoldsRule t m
  pub room : monitor_room forms bounds mem ≡ true
  pub is : made_monitor n (fresh_call t forms bounds mem) ≡ fresh_of t (monitor_of 0 forms bounds mem)

ok_inj : {a b : ℕ} → ◌≡◌ {A = Returned ℕ Refusal} (Ok a) (Ok b) → a ≡ b
ok_inj e = cc

not_ok : {B : Type 0} {n : ℕ} {r : Refusal} → ◌≡◌ {A = Returned ℕ Refusal} (Err r) (Ok n) → B
not_ok e = let z : ◌≡◌ {A = ℕ} 0 1 = cc in absurd (omega arith)

not_given : {B : Type 0} {n k : ℕ} → ◌≡◌ {A = Result ℕ} (refused k) (given n) → B
not_given e = let z : ◌≡◌ {A = ℕ} 0 1 = cc in absurd (omega arith)

module _ (t : LentTables) (forms bounds : List ℕ) (mem : Memory) (n : ℕ) (m : Mon) (own : rule_mon t ≡ some m) where
  made_by : (b : Bool) → lent_of t.ops t.nums t.nodes forms bounds mem ≡ b → (c : Making) → c ≡ or_short b forms bounds mem (make_mon (some m) t forms bounds mem) → c.answer ≡ Ok n → (n ≡ t.ncount) × HoldsRule t m × (monitor_room forms bounds mem ≡ true) × (made_monitor n c ≡ fresh_of t (monitor_of 0 forms bounds mem))
  made_by false l c e q = not_ok (sym (ap (λ (x : Making). x.answer) e) ∙ q)
  made_by true l c e q =
      let z : n ≡ t.ncount = ok_inj (sym q ∙ ap (λ (x : Making). x.answer) e) in
      let (x, y) = lent_parts t (monitor_of 0 forms bounds mem) l in
      (z, record { rule = own; room = x }, y, ap₂ made_monitor z e)

  pub made_of : (fresh_call t forms bounds mem).answer ≡ Ok n → MadeOf t forms bounds mem n m
  unfolding fresh_call
  made_of q =
      let (a, b, c, d) = made_by (lent_of t.ops t.nums t.nodes forms bounds mem) refl (fresh_call t forms bounds mem) (ap (λ (o : Option Mon). or_short (lent_of t.ops t.nums t.nodes forms bounds mem) forms bounds mem (make_mon o t forms bounds mem)) own) q in
      record { counted = a; holds = b; room = c; is = d }

-- ---- the tables that compiling left have room
same_length : (o : Option Formula) (first : ℕ) (out : List ℕ) → length (compile_formula o first out).out ≡ length out
same_length none first out = refl
same_length (some f) first out = go (rule_faults f)
  where
    go : (fs : List Refusal) → length (first_or fs (rule_node f first) out).out ≡ length out
    go [] = length-sets out 0 (rows (rule_node f first))
    go (n ∷ ns) = refl

pub compiled_room : (ops nums : List ℕ) (first count : ℕ) (out : List ℕ) (n : ℕ) → (compile_call ops nums first count out).answer ≡ given n →
    table_room ops nums (compile_call ops nums first count out).out ≡ true
unfolding compile_call
compiled_room ops nums first count out n compiles = go (roomy ops nums && leb 1792 (length out)) refl compiles
  where
    go : (b : Bool) → (roomy ops nums && leb 1792 (length out)) ≡ b → (compiling.or_short b out (compile_formula (rule_of ops nums first count) first out)).answer ≡ given n → table_room ops nums (compiling.or_short b out (compile_formula (rule_of ops nums first count) first out)).out ≡ true
    go true w q =
        let (x, y) = both_true (roomy ops nums) (leb 1792 (length out)) w in
        ap₂ ◌&&◌ (ap (leb 1792) (same_length (rule_of ops nums first count) first out) ∙ y) x
    go false w q = not_given q

-- ---- the calls of the rule's own tables
own_call : (t : LentTables) (m : Mon) → HoldsRule t m → (s w : ℕ) → s < 9223372036854775808 → (e : Event) × Lent on_slices m e × (on_slices.asks e ≡ accepted s w ∷ [])
unfolding Below
own_call t m a s w h = (step_event t s w, record { own = a.rule; roomy = a.room; below = (h, tt) }, refl)

pub demand_three : DemandThree
demand_three ops nums first count f is_f out n compiles forms bounds mem made =
    let t : LentTables = compiled_tables ops nums first count out n in
    let c = compiled_reads ops nums first count out n compiles in
    let same : c.formula ≡ f = some_inj (sym c.rule ∙ is_f) in
    let own : rule_mon t ≡ some (rule_node f first) = c.reads ∙ ap (λ (g : Formula). some (rule_node g first)) same in
    let x = made_of t forms bounds mem n (rule_node f first) own made in
    let k₀ : LentMonitor = monitor_of 0 forms bounds mem in
    meets on_slices f first (ReadsAs (rule_node f first)) (λ k. Ready k (rule_node f first)) (lawful (rule_node f first)) (made_monitor n (fresh_call t forms bounds mem))
    (ap (λ (k : LentMonitor). read_mon (rule_node f first) k.memory 0) x.is ∙ fresh_state t k₀ (rule_node f first) x.holds x.room)
    (subst (λ (k : LentMonitor). Ready k (rule_node f first)) (sym x.is) (fresh_ready t k₀ (rule_node f first) x.holds x.room))
    (own_call t (rule_node f first) x.holds)
