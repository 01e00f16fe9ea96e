-- What each case of the code does, by the tests that led there.
use mathlib.Core.Path.{◌≡◌, refl, sym, ap, ◌∙◌}
use mathlib.Core.Bool.{Bool, true, false, cond}
use mathlib.Core.List.{List, [], ◌∷◌}
use Prim.Native.Nat.{ℕ, zero, suc, ◌+◌, ◌^◌, ◌≤◌, ◌<◌}
use native.Mathlib.Omega.{arith}
use lib.ListN.{length}
use mir.Syntax.{w64}
use mir.Val.{Fits}
use Rattle.plan.specs.Width.{width}
use Rattle.plan.proofs.Widths.{width_most}
use Rattle.bits.specs.Bits.{digits, ink_bit, ink_bits, Room}
use Rattle.bits.proofs.Loops.{ink_length}
use Rattle.kept.specs.declared.Keep.{Keep}
use Rattle.kept.specs.declared.Keep.TheVariants.{Nothing, Antecedent, Window}
use Rattle.kept.specs.Kept.{window_bits, window_written, keep_written, PutKept, Space}

-- ---- a window of bound b
-- its bits where the bound is not 0
bits_of : (b : ℕ) → (b ≡ 0 → ⊥) → window_bits b ≡ 1 + width b
bits_of zero h = absurd (h refl)
bits_of (suc b) h = refl

module _ (b w : ℕ) (small : b < 2 ^ 64) (some : b ≡ 0 → ⊥) (e : w ≡ width b) where
  pub window_fits : Fits w64 (1 + w)
  window_fits = record { fits = omega (arith, width_most b small) }

  pub window_wide : (1 + w ≡ window_bits b) × (1 + w ≤ 65)
  window_wide = (ap (1 +◌) e ∙ sym (bits_of b some), omega (arith, width_most b small))

  pub window_few : w ≤ 64
  window_few = omega (arith, width_most b small)

module _ (bytes : List ℕ) (at b : ℕ) (some : b ≡ 0 → ⊥) (r : Space bytes at (window_bits b)) where
  module _ (w : ℕ) (e : w ≡ width b) where
    pub window_rest : Room bytes (at + 1) w
    window_rest = record { inside = omega (arith, r.inside, bits_of b some); low = omega (arith, r.low) }

    pub window_inked : (held : Bool) (bytes' : List ℕ) → bytes' ≡ ink_bit bytes at held → Room bytes' (at + 1) w
    window_inked held bytes' q =
        record { inside = omega (arith, window_rest.inside, ap length q, ink_length bytes at held); low = window_rest.low }

-- ---- writing
module _ (bytes : List ℕ) (at : ℕ) (held : Bool) (remaining : ℕ) where
  put_by : (x : Keep) (bs : List Bool) (bytes' : List ℕ) → bytes' ≡ ink_bits bytes at bs → bs ≡ keep_written x held remaining → PutKept bytes at x held remaining bytes'
  put_by x bs bytes' e q = record { is = e ∙ ap (ink_bits bytes at) q }

  written_of : (b : ℕ) → (b ≡ 0 → ⊥) → window_written b held remaining ≡ held ∷ digits (width b) (cond held remaining 0)
  written_of zero h = absurd (h refl)
  written_of (suc b) h = refl

  module _ (b : ℕ) where
    pub put_none : b ≡ 0 → PutKept bytes at (Window b) held remaining bytes
    unfolding ink_bits
    put_none z = put_by (Window b) [] bytes refl (sym (ap (λ (x : ℕ). window_written x held remaining) z))

    module _ (some : b ≡ 0 → ⊥) (bytes₁ : List ℕ) (e : bytes₁ ≡ ink_bit bytes at held) (w : ℕ) (q : w ≡ width b) where
      put_both : (n : ℕ) (bytes₂ : List ℕ) → bytes₂ ≡ ink_bits bytes₁ (at + 1) (digits w n) → n ≡ cond held remaining 0 → PutKept bytes at (Window b) held remaining bytes₂
      unfolding ink_bits
      put_both n bytes₂ f p = put_by (Window b) (held ∷ digits w n) bytes₂
          (f ∙ ap (λ (x : List ℕ). ink_bits x (at + 1) (digits w n)) e)
          ((λ i. held ∷ digits (q i) (p i)) ∙ sym (written_of b some))

      module _ (bytes₂ : List ℕ) where
        pub put_pending : held ≡ true → bytes₂ ≡ ink_bits bytes₁ (at + 1) (digits w remaining) → PutKept bytes at (Window b) held remaining bytes₂
        put_pending h f = put_both remaining bytes₂ f (sym (ap (λ (x : Bool). cond x remaining 0) h))

        pub put_closed : held ≡ false → bytes₂ ≡ ink_bits bytes₁ (at + 1) (digits w 0) → PutKept bytes at (Window b) held remaining bytes₂
        put_closed h f = put_both 0 bytes₂ f (sym (ap (λ (x : Bool). cond x remaining 0) h))

  module _ (x : Keep) where
    pub put_nothing : x ≡ Nothing → PutKept bytes at x held remaining bytes
    unfolding ink_bits
    put_nothing e = put_by x [] bytes refl (sym (ap (λ (y : Keep). keep_written y held remaining) e))

    pub put_antecedent : x ≡ Antecedent → (bytes' : List ℕ) → bytes' ≡ ink_bit bytes at held → PutKept bytes at x held remaining bytes'
    unfolding ink_bits
    put_antecedent e bytes' q = put_by x (held ∷ []) bytes' q (sym (ap (λ (y : Keep). keep_written y held remaining) e))
