-- The test of a monitor's entries, one by one.
use mathlib.Core.Path.{◌≡◌, sym, ap, ap₂, ◌∙◌}
use mathlib.Core.Bool.{Bool, true, false, ◌&&◌}
use mathlib.Core.List.{List}
use Prim.Native.Nat.{ℕ, suc, ◌+◌, ◌-◌, ◌≤◌, ◌<◌}
use native.Mathlib.Omega.{arith}
use lib.ListN.{get_or}
use Rattle.std.specs.Prelude.{Option}
use Rattle.monitor.specs.declared.node.MonNode.{MonNode}
use Rattle.monitor.specs.Table.{row_of}
use Rattle.node_step.specs.declared.state.MonState.{MonState}
use Rattle.node_step.specs.Memory.{Memory, get}
use Rattle.lent.specs.Shape.{row_fits, shaped_from}

-- ---- the entries one by one
-- the first k fit, so what is left decides
pub record Shaping (nodes : List ℕ) (nfirst : ℕ) (forms bounds : List ℕ) (mem : Memory) (n k : ℕ) : Type 0 where
  pub same : shaped_from nodes nfirst forms bounds mem 0 n ≡ shaped_from nodes nfirst forms bounds mem k (n - k)

module _ (nodes : List ℕ) (nfirst : ℕ) (forms bounds : List ℕ) (mem : Memory) (n k : ℕ) (d : Shaping nodes nfirst forms bounds mem n k) where
  pub shaping_end : n ≤ k → true ≡ shaped_from nodes nfirst forms bounds mem 0 n
  unfolding shaped_from
  shaping_end h = sym (d.same ∙ ap (shaped_from nodes nfirst forms bounds mem k) none_left)
    where
      none_left : n - k ≡ 0
      none_left = omega arith

  module _ (h : k < n) where
    one_more : shaped_from nodes nfirst forms bounds mem k (n - k) ≡ (row_fits (row_of nodes (nfirst + k)) (get_or forms k 0) (get_or bounds k 0) (get mem k) && shaped_from nodes nfirst forms bounds mem (k + 1) (n - (k + 1)))
    unfolding shaped_from
    one_more = ap (shaped_from nodes nfirst forms bounds mem k) less
      where
        less : n - k ≡ suc (n - (k + 1))
        less = omega arith

    module _ (st : MonState) (r : Option MonNode) (b : Bool) (e : st ≡ get mem k) (p : r ≡ row_of nodes (nfirst + k)) (q : b ≡ row_fits r (get_or forms k 0) (get_or bounds k 0) st) where
      here : row_fits (row_of nodes (nfirst + k)) (get_or forms k 0) (get_or bounds k 0) (get mem k) ≡ b
      here = sym (q ∙ ap₂ (λ (x : Option MonNode) (y : MonState). row_fits x (get_or forms k 0) (get_or bounds k 0) y) p e)

      pub shaping_next : b ≡ true → Shaping nodes nfirst forms bounds mem n (k + 1)
      shaping_next t = record { same = d.same ∙ one_more ∙ ap (λ (x : Bool). x && shaped_from nodes nfirst forms bounds mem (k + 1) (n - (k + 1))) (here ∙ t) }

      pub shaping_no : b ≡ false → false ≡ shaped_from nodes nfirst forms bounds mem 0 n
      shaping_no t = sym (d.same ∙ one_more ∙ ap (λ (x : Bool). x && shaped_from nodes nfirst forms bounds mem (k + 1) (n - (k + 1))) (here ∙ t))
