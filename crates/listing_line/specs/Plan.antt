-- Document 02, order 1: the `plan` line: state, slot, monitor and total bits, and bytes. For example
--     plan 3 8 5 16 2
use Rattle.std.specs.Prelude.{List, [], ◌∷◌, ℕ}
use Rattle.number.specs.Digits.{decimal}
use Rattle.encoding.specs.declared.ConfigEncoding.{ConfigEncoding}
use Rattle.listing_line.specs.Line.{line}

-- `plan`
abbrev pub plan_word : List ℕ
plan_word = 112 ∷ 108 ∷ 97 ∷ 110 ∷ []

unfoldable pub plan_line : ConfigEncoding → List ℕ
plan_line e =
    line
    (plan_word
    ∷ decimal e.state_bits
    ∷ decimal e.vars_bits
    ∷ decimal e.monitors_bits
    ∷ decimal e.total_bits
    ∷ decimal e.total_bytes
    ∷ [])
