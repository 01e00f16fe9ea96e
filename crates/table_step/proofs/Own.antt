-- What a call over the columns of a rule's own places gives is what it gives over the whole table.
use mathlib.Core.List.{List}
use mathlib.Core.Option.{Option, none, some}
use mathlib.Core.Path.{◌≡◌, refl, sym, ap}
use Prim.Native.Nat.{ℕ}
use lib.ListN.{take}
use Rattle.formula.specs.Formula.{Formula}
use Rattle.monitor.specs.Mon.{Mon}
use Rattle.monitor.specs.Table.{compiled_of, mon_by}
use Rattle.lent.specs.Lent.{LentTables, tables, rule_mon}
use Rattle.stepping.specs.Call.{step_call}
use Rattle.stepping.specs.Fresh.{fresh_call}
use Rattle.in_place.specs.InPlace.{step_in, fresh_in}
use Rattle.in_place.specs.declared.ReferenceMonitor.{ReferenceMonitor}
use Rattle.node_table.specs.Columns.{Unpacked}
use Rattle.node_table.specs.declared.columns.Columns.{Columns}
use Rattle.node_table.specs.declared.FormulaNode.{FormulaNode}
use Rattle.node_table.proofs.Own.{own_room, own_rule}
use Rattle.table_step.specs.Over.{tables_over}

module _ (table : List FormulaNode) (first count : ℕ) (nodes : List ℕ) (nfirst ncount : ℕ) (c : Columns) (u : Unpacked table first count c) where
  -- the tables of the call over the columns
  abbrev pub columned : LentTables
  columned = tables (take c.count c.ops) (take c.count c.nums) first count nodes nfirst ncount

  mon_own : rule_mon columned ≡ rule_mon (tables_over table first count nodes nfirst ncount)
  unfolding compiled_of
  mon_own = ap (λ (f : Option Formula). mon_by f first nodes nfirst ncount) (own_rule table first count c u)

  pub step_own : (m : ReferenceMonitor) (s w : ℕ) → step_in columned m s w ≡ step_in (tables_over table first count nodes nfirst ncount) m s w
  unfolding step_in step_call
  step_own m s w = go (rule_mon columned) refl (sym mon_own)
    where
      go : (x : Option Mon) → rule_mon columned ≡ x → rule_mon (tables_over table first count nodes nfirst ncount) ≡ x → step_in columned m s w ≡ step_in (tables_over table first count nodes nfirst ncount) m s w
      go none e e' = rw (own_room table first count c u, e, e') refl
      go (some x) e e' = rw (own_room table first count c u, e, e') refl

  pub fresh_own : (m : ReferenceMonitor) → fresh_in columned m ≡ fresh_in (tables_over table first count nodes nfirst ncount) m
  unfolding fresh_in fresh_call
  fresh_own m = go (rule_mon columned) refl (sym mon_own)
    where
      go : (x : Option Mon) → rule_mon columned ≡ x → rule_mon (tables_over table first count nodes nfirst ncount) ≡ x → fresh_in columned m ≡ fresh_in (tables_over table first count nodes nfirst ncount) m
      go none e e' = rw (own_room table first count c u, e, e') refl
      go (some x) e e' = rw (own_room table first count c u, e, e') refl
