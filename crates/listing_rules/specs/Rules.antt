-- The rules of a book, numbered from 0 in book order, and what document 01 says of each: its compiled node or its refusal, its first bit and its
-- bits, the first earlier rule that is alike. The monitors begin at bit `base` (document 02, order 1).
use Rattle.std.specs.Prelude.{Bool, true, false, ◌&&◌, List, [], ◌∷◌, ℕ, zero, suc, eqb, None, Option, Some, Result, Err}
use Rattle.terms.specs.Choice.{pick}
use Rattle.result.specs.Refusal.{number_of}
use Rattle.result.specs.declared.Refusal.{Refusal}
use Rattle.formula.specs.Formula.{Formula}
use Rattle.monitor.specs.Mon.{Mon}
use Rattle.monitor.specs.Compile.{rule_faults, rule_node}
use Rattle.plan.specs.Layout.{bits}
use Rattle.plan.specs.Book.{first_bit}
use Rattle.encoding.specs.declared.ConfigEncoding.{ConfigEncoding}
use Rattle.encoding.specs.Encoding.{encoding_of}
use Rattle.alike.specs.Alike.{alike_mon}
use Rattle.listing_line.specs.declared.rule.Compiled.{Compiled}
use Rattle.listing_line.specs.Rule.{compiled_as}

-- a rule: its label, its kind (0 property, else assumption), its formula, and the place in the formula table where that begins
pub record Rule : Type 0 where
  pub label : List ℕ
  pub kind : ℕ
  pub first : ℕ
  pub formula : Formula

abbrev pub property : Rule → Bool
property q = eqb q.kind 0

-- ---- compiling
abbrev pub is_none : List Refusal → Bool
is_none [] = true
is_none (n ∷ ns) = false

abbrev pub first_of : List Refusal → ℕ
first_of [] = 0
first_of (n ∷ ns) = number_of n

-- no refusal applies
unfoldable pub compiles : Rule → Bool
compiles q = is_none (rule_faults q.formula)

-- 0, or the compile refusal
unfoldable pub refusal : Rule → ℕ
refusal q = first_of (rule_faults q.formula)

-- the compiled rule, where no refusal applies
unfoldable pub mon : Rule → Mon
mon q = rule_node q.formula q.first

-- ---- layout, among the first n rules
abbrev pub bits_of : Rule → ℕ
bits_of q = bits (mon q)

unfoldable pub first_bit_of : ℕ → (ℕ → Rule) → ℕ → ℕ → ℕ
first_bit_of base R n r = first_bit base n (λ (q : ℕ). property (R q)) (λ (q : ℕ). compiles (R q)) (λ (q : ℕ). bits_of (R q)) r

-- the numbers of a configuration with a count of states, slots of widths ws, and the first n rules
unfoldable pub encoding_for : ℕ → List ℕ → (ℕ → Rule) → ℕ → ConfigEncoding
encoding_for count ws R n = encoding_of count ws n (λ (q : ℕ). compiles (R q)) (λ (q : ℕ). bits_of (R q))

-- ---- likeness
-- rule q compiles and is like rule r
unfoldable pub like_of : (ℕ → Rule) → ℕ → ℕ → Bool
like_of R r q = compiles (R q) && alike_mon (mon (R q)) (mon (R r))

abbrev pub or_at : Option ℕ → Bool → ℕ → Option ℕ
or_at (Some q) b r = Some q
or_at None true r = Some r
or_at None false r = None

-- the least number below r of which `like` holds
unfoldable pub first_below : (ℕ → Bool) → ℕ → Option ℕ
first_below like zero = None
first_below like (suc r) = or_at (first_below like r) (like r) r

-- ---- the four last fields of a rule's line
unfoldable pub compiling_of : ℕ → (ℕ → Rule) → ℕ → ℕ → Result Compiled ℕ
compiling_of base R n r =
    pick (compiles (R r))
    (compiled_as (first_bit_of base R n r) (bits_of (R r)) (first_below (like_of R r) r))
    (Err (refusal (R r)))
