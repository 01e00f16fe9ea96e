-- What is answered for the columns of a rule's own places is the answer for the whole table.
use mathlib.Core.Bool.{Bool}
use mathlib.Core.List.{List}
use mathlib.Core.Path.{◌≡◌, refl, subst, ◌∙◌}
use Prim.Native.Nat.{ℕ}
use lib.ListN.{take}
use Rattle.std.specs.Prelude.{Result as Returned}
use Rattle.result.specs.declared.Refusal.{Refusal}
use Rattle.compiler.specs.Compiled.{Call, Answers, compile_call}
use Rattle.node_table.specs.Columns.{Unpacked}
use Rattle.node_table.specs.Node.{ops_of, nums_of}
use Rattle.node_table.specs.declared.columns.Columns.{Columns}
use Rattle.node_table.specs.declared.FormulaNode.{FormulaNode}
use Rattle.node_table.proofs.Own.{own_room, own_rule}
use Rattle.split.specs.Held.{Outcome, splitting}

module _ (table : List FormulaNode) (first count : ℕ) (c : Columns) (u : Unpacked table first count c) (ops nums : List ℕ) (p : ops ≡ take c.count c.ops) (q : nums ≡ take c.count c.nums) where
  same_compiled : (out : List ℕ) → compile_call ops nums first count out ≡ compile_call (ops_of table) (nums_of table) first count out
  unfolding compile_call
  same_compiled out = rw (p, q, own_room table first count c u, own_rule table first count c u) refl

  pub compile_own : (out out' : List ℕ) (r : Returned ℕ Refusal)
      → Answers (compile_call ops nums first count out) r out' → Answers (compile_call (ops_of table) (nums_of table) first count out) r out'
  compile_own out out' r w = subst (λ (x : Call). Answers x r out') (same_compiled out) w

  same_split : (assumed : Bool) (s o : List ℕ) → splitting ops nums first count assumed s o ≡ splitting (ops_of table) (nums_of table) first count assumed s o
  unfolding splitting
  same_split assumed s o = rw (p, q, own_room table first count c u, own_rule table first count c u) refl

  pub split_own : (assumed : Bool) (s o : List ℕ) (x : Outcome)
      → x ≡ splitting ops nums first count assumed s o → x ≡ splitting (ops_of table) (nums_of table) first count assumed s o
  split_own assumed s o x w = w ∙ same_split assumed s o
