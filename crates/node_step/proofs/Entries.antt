-- Entries of a monitor's memory.
use mathlib.Core.Path.{◌≡◌, sym, subst}
use mathlib.Core.Bool.{false}
use Prim.Native.Nat.{ℕ, ◌+◌, ◌≤◌}
use native.Mathlib.Omega.{arith}
use lib.IntN.{pos}
use lib.ListN.{length-set}
use lib.Seq.{get_or-set_same, get_or-set_other, set-get_or}
use Rattle.node_step.specs.declared.state.MonState.{MonState}
use Rattle.node_step.specs.Memory.{Memory, get, put, Inside}

module _ (mem : Memory) (i : ℕ) (x : MonState) where
  pub get_put_same : Inside mem (i + 1) → get (put mem i x) i ≡ x
  get_put_same d = λ j. record {
    held = get_or-set_same mem.held i x.held false (omega (arith, d.held)) j;
    remaining = get_or-set_same mem.remaining i x.remaining 0 (omega (arith, d.remaining)) j;
    failed = get_or-set_same mem.failed i x.failed false (omega (arith, d.failed)) j;
    culprit = get_or-set_same mem.culprits i x.culprit (pos 0) (omega (arith, d.culprits)) j;
  }

  pub get_put_other : (k : ℕ) → (k ≡ i → ⊥) → get (put mem i x) k ≡ get mem k
  get_put_other k n = λ j. record {
    held = get_or-set_other mem.held i k x.held false n j;
    remaining = get_or-set_other mem.remaining i k x.remaining 0 n j;
    failed = get_or-set_other mem.failed i k x.failed false n j;
    culprit = get_or-set_other mem.culprits i k x.culprit (pos 0) n j;
  }

  pub inside_put : (n : ℕ) → Inside mem n → Inside (put mem i x) n
  inside_put n d = record {
    held = subst (λ (k : ℕ). n ≤ k) (sym (length-set mem.held i x.held)) d.held;
    remaining = subst (λ (k : ℕ). n ≤ k) (sym (length-set mem.remaining i x.remaining)) d.remaining;
    failed = subst (λ (k : ℕ). n ≤ k) (sym (length-set mem.failed i x.failed)) d.failed;
    culprits = subst (λ (k : ℕ). n ≤ k) (sym (length-set mem.culprits i x.culprit)) d.culprits;
  }

pub culprit_put : (mem : Memory) (i : ℕ) (x : MonState) → Inside mem (i + 1) → (get (put mem i x) i).culprit ≡ x.culprit
culprit_put mem i x d = get_or-set_same mem.culprits i x.culprit (pos 0) (omega (arith, d.culprits))

pub put_get : (mem : Memory) (i : ℕ) → put mem i (get mem i) ≡ mem
put_get mem i = λ j. record {
  held = set-get_or mem.held i false j;
  remaining = set-get_or mem.remaining i 0 j;
  failed = set-get_or mem.failed i false j;
  culprits = set-get_or mem.culprits i (pos 0) j;
}

pub inside_less : (mem : Memory) (m n : ℕ) → m ≤ n → Inside mem n → Inside mem m
inside_less mem m n h d = record { held = omega (arith, d.held); remaining = omega (arith, d.remaining); failed = omega (arith, d.failed); culprits = omega (arith, d.culprits) }
