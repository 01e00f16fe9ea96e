-- How long the texts of a listing's fields and lines can be.
use mathlib.Core.Path.{◌≡◌, ap, ◌∙◌}
use mathlib.Core.Bool.{Bool, true, false}
use mathlib.Core.List.{List, [], ◌∷◌, ◌++◌}
use Prim.Native.Nat.{ℕ, zero, suc, ◌+◌, ◌*◌, ◌/◌, ◌%◌, ◌≤◌}
use native.Mathlib.Omega.{arith}
use lib.Dec.{ltb}
use lib.IntN.{ℤ, pos, negsuc}
use lib.ListN.{length, length-append}
use Rattle.terms.specs.Choice.{pick}
use Rattle.formula.specs.Tree.{leaf, one, two, size}
use Rattle.formula.specs.Formula.{Formula, var, input, output, not, next, always, eventually, always_for, within, and, or, implies, until}
use Rattle.formula.specs.Text.{Sign, atom, sign, signs_by, signs}
use Rattle.number.specs.Digits.{digits, decimal}
use Rattle.text.specs.Tape.{joined, signed}
use Rattle.text.proofs.Tapes.{joined_append}
use Rattle.spelling.specs.Spelling.{spell, spelled, operand_text}
use Rattle.spelling.proofs.Scans.{spelled_append}
use Rattle.listing_line.specs.Line.{line}

-- ---- numbers
digits_short : (k n : ℕ) → length (digits k n) ≤ k
unfolding digits
digits_short zero n = omega arith
digits_short (suc k) n = go (ltb n 10) (digits_short k (n / 10))
  where
    go : (t : Bool) → length (digits k (n / 10)) ≤ k → length (pick t ((48 + n) ∷ []) (digits k (n / 10) ++ (48 + n % 10) ∷ [])) ≤ suc k
    go true h = omega arith
    go false h = omega (arith, length-append (digits k (n / 10)) ((48 + n % 10) ∷ []))

pub decimal_short : (n : ℕ) → length (decimal n) ≤ 20
decimal_short n = digits_short 20 n

pub signed_short : (z : ℤ) → length (signed z) ≤ 21
unfolding signed
signed_short (pos n) = omega (arith, decimal_short n)
signed_short (negsuc n) = omega (arith, decimal_short (suc n))

-- ---- lines: each field and the mark behind it
abbrev pub fields_long : List (List ℕ) → ℕ
fields_long [] = 0
fields_long (t ∷ ts) = length t + 1 + fields_long ts

pub line_long : (t : List ℕ) (ts : List (List ℕ)) → length (line (t ∷ ts)) ≡ fields_long (t ∷ ts)
unfolding line
line_long t [] = length-append t (10 ∷ []) ∙ omega arith
line_long t (u ∷ ts) = length-append t (9 ∷ line (u ∷ ts)) ∙ omega (arith, line_long u ts)

-- texts one behind the other
pub joined_one : (t : List ℕ) → length (joined (t ∷ [])) ≡ length t
unfolding joined
joined_one t = length-append t [] ∙ omega arith

pub joined_more : (t : List ℕ) (ts : List (List ℕ)) → length (joined (t ∷ ts)) ≡ length t + length (joined ts)
unfolding joined
joined_more t ts = length-append t (joined ts)

pub joined_both : (s t : List (List ℕ)) → length (joined (s ++ t)) ≡ length (joined s) + length (joined t)
joined_both s t = ap length (joined_append s t) ∙ length-append (joined s) (joined t)

-- ---- a formula's text: at most 21 bytes for each of its nodes
pub spell_short : (s : Sign) → length (spell s) ≤ 21
spell_short (atom (var n)) = omega (arith, decimal_short n)
spell_short (atom (input n)) = omega (arith, decimal_short n)
spell_short (atom (output n)) = omega (arith, decimal_short n)
spell_short (sign b) = omega arith

spelled_more : (s : Sign) (ss : List Sign) → length (spelled (s ∷ ss)) ≡ length (spell s) + length (spelled ss)
unfolding spelled
spelled_more s ss = length-append (spell s) (spelled ss)

spelled_both : (s t : List Sign) → length (spelled (s ++ t)) ≡ length (spelled s) + length (spelled t)
spelled_both s t = ap length (spelled_append s t) ∙ length-append (spelled s) (spelled t)

module _ (imp : List Sign) (small : length (spelled imp) ≤ 2) where
  joined_short :
      (s a b : List Sign) (m n : ℕ) → length (spelled s) ≤ 2 → length (spelled a) ≤ 21 * m → length (spelled b) ≤ 21 * n
      → length (spelled (s ++ a ++ b)) ≤ 21 * (1 + m + n)
  joined_short s a b m n h p q = omega (arith, spelled_both (s ++ a) b, spelled_both s a)

  text_short : (f : Formula) → length (spelled (signs_by imp f)) ≤ 21 * size f
  unfolding signs_by spelled size
  text_short (leaf a) = omega (arith, spelled_more (atom a) [], spell_short (atom a))
  text_short (one not f) = omega (arith, spelled_more (sign 33) (signs_by imp f), text_short f)
  text_short (one next f) = omega arith
  text_short (one always f) = omega arith
  text_short (one eventually f) = omega arith
  text_short (one (always_for b) f) = omega arith
  text_short (one (within b) f) = omega arith
  text_short (two and l r) = joined_short (sign 38 ∷ []) (signs_by imp l) (signs_by imp r) (size l) (size r) (omega arith) (text_short l) (text_short r)
  text_short (two or l r) = joined_short (sign 124 ∷ []) (signs_by imp l) (signs_by imp r) (size l) (size r) (omega arith) (text_short l) (text_short r)
  text_short (two implies l r) = joined_short imp (signs_by imp l) (signs_by imp r) (size l) (size r) small (text_short l) (text_short r)
  text_short (two until l r) = omega arith

pub signs_short : (f : Formula) → length (spelled (signs f)) ≤ 21 * size f
unfolding spelled
signs_short f = text_short (sign 124 ∷ sign 33 ∷ []) (omega arith) f

pub operand_short : (f : Formula) → length (operand_text f) ≤ 21 * size f
unfolding spelled
operand_short f = text_short (sign 62 ∷ []) (omega arith) f
