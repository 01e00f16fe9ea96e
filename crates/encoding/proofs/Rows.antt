-- Numbers of document 02, order 1: the state's bits for some counts, and a configuration of five states, two slots and one rule of three bits.
use mathlib.Core.Path.{◌≡◌, refl}
use mathlib.Core.Bool.{true}
use mathlib.Core.List.{[], ◌∷◌}
use Prim.Native.Nat.{ℕ}
use native.Mathlib.Omega.{arith}
use Rattle.plan.specs.Width.{first_power, ceil_log2}
use Rattle.plan.specs.Book.{bits_below}
use Rattle.plan.proofs.Widths.{ceil_log2_is}
use Rattle.encoding.specs.Encoding.{state_bits_of, slot_bits, encoding_of}

pub no_states : state_bits_of 0 ≡ 0
unfolding ceil_log2 first_power
no_states = refl

pub one_state : state_bits_of 1 ≡ 0
unfolding ceil_log2 first_power
one_state = refl

pub two_states : state_bits_of 2 ≡ 1
unfolding ceil_log2 first_power
two_states = refl

pub three_states : state_bits_of 3 ≡ 2
unfolding ceil_log2 first_power
three_states = refl

pub most_states : state_bits_of 65535 ≡ 16
most_states = ceil_log2_is 65535 15 (omega arith) (omega arith)

-- `plan 3 8 3 14 2`
pub whole_plan :
    encoding_of 5 (3 ∷ 5 ∷ []) 1 (λ (r : ℕ). true) (λ (r : ℕ). 3)
    ≡ record { state_bits = 3; vars_bits = 8; monitors_bits = 3; total_bits = 14; total_bytes = 2 }
unfolding encoding_of ceil_log2 first_power slot_bits bits_below
whole_plan = refl
