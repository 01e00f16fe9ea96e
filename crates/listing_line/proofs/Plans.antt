-- The `plan` line, from what the code writes one behind the other, and one such line.
use mathlib.Core.Path.{◌≡◌, refl}
use mathlib.Core.List.{[], ◌∷◌}
use Rattle.number.specs.Digits.{digits, decimal}
use Rattle.text.specs.Tape.{Tape, Wrote}
use Rattle.encoding.specs.declared.ConfigEncoding.{ConfigEncoding}
use Rattle.listing_line.specs.Line.{line, tabbed, marked}
use Rattle.listing_line.specs.Plan.{plan_word, plan_line}
use Rattle.listing_line.proofs.Fields.{more, done, group}

pub plan_wrote :
    (a b c d e : Tape) (x : ConfigEncoding) → Wrote a (tabbed (plan_word ∷ decimal x.state_bits ∷ decimal x.vars_bits ∷ [])) b
    → Wrote b (marked (decimal x.monitors_bits) 9) c → Wrote c (marked (decimal x.total_bits) 9) d
    → Wrote d (marked (decimal x.total_bytes) 10) e → Wrote a (plan_line x) e
unfolding plan_line
plan_wrote a b c d e x p q r s =
    group (plan_word ∷ decimal x.state_bits ∷ decimal x.vars_bits ∷ []) (decimal x.monitors_bits)
    (decimal x.total_bits ∷ decimal x.total_bytes ∷ []) p
    (more (decimal x.monitors_bits) (decimal x.total_bits) (decimal x.total_bytes ∷ []) q
    (more (decimal x.total_bits) (decimal x.total_bytes) [] r (done (decimal x.total_bytes) s)))

-- `plan 3 8 5 16 2`
pub plan_row :
    plan_line (record { state_bits = 3; vars_bits = 8; monitors_bits = 5; total_bits = 16; total_bytes = 2 })
    ≡ 112 ∷ 108 ∷ 97 ∷ 110 ∷ 9 ∷ 51 ∷ 9 ∷ 56 ∷ 9 ∷ 53 ∷ 9 ∷ 49 ∷ 54 ∷ 9 ∷ 50 ∷ 10 ∷ []
unfolding plan_line line digits
plan_row = refl
