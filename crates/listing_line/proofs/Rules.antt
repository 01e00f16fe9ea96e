-- The `rule` line, from what the code writes one behind the other.
use mathlib.Core.Path.{◌≡◌, refl, ap}
use mathlib.Core.List.{List, [], ◌∷◌}
use Prim.Native.Nat.{ℕ, zero, suc}
use Rattle.number.specs.Digits.{digits, decimal}
use Rattle.line.specs.Line.{kind_byte}
use Rattle.text.specs.Tape.{Tape, Wrote}
use Rattle.text.proofs.Tapes.{as_text}
use Rattle.listing_line.specs.Line.{line, tabbed, marked, absent}
use Rattle.listing_line.specs.Rule.{rule_word, alike_text, compiled_as, compiling_fields, rule_line}
use Rattle.std.specs.Prelude.{Option, Some, None, Result, Ok, Err}
use Rattle.listing_line.specs.declared.rule.Compiled.{Compiled}
use Rattle.listing_line.proofs.Fields.{more, done, group}

pub alike_to : (a b : Tape) (x : Option ℕ) (n : ℕ) → x ≡ Some n → Wrote a (marked (decimal n) 10) b → Wrote a (marked (alike_text x) 10) b
alike_to a b x n e w = as_text a b (ap (λ (y : Option ℕ). marked (alike_text y) 10) e) w

pub alike_none : (a b : Tape) (x : Option ℕ) → x ≡ None → Wrote a (marked absent 10) b → Wrote a (marked (alike_text x) 10) b
alike_none a b x e w = as_text a b (ap (λ (y : Option ℕ). marked (alike_text y) 10) e) w

zero_text : decimal 0 ≡ 48 ∷ []
unfolding digits
zero_text = refl

pub compiled_line :
    (a b c d e : Tape) (x : Result Compiled ℕ) (first bits : ℕ) (k : Option ℕ) → x ≡ compiled_as first bits k → Wrote a (48 ∷ 9 ∷ []) b
    → Wrote b (marked (decimal first) 9) c → Wrote c (marked (decimal bits) 9) d → Wrote d (marked (alike_text k) 10) e
    → Wrote a (line (compiling_fields x)) e
compiled_line a b c d e x first bits k h p q r s =
    as_text a e (ap (λ (y : Result Compiled ℕ). line (compiling_fields y)) h)
    (more (decimal 0) (decimal first) (decimal bits ∷ alike_text k ∷ []) (as_text a b (ap (λ (t : List ℕ). marked t 9) zero_text) p)
    (more (decimal first) (decimal bits) (alike_text k ∷ []) q (more (decimal bits) (alike_text k) [] r (done (alike_text k) s))))

three_is : line (absent ∷ absent ∷ absent ∷ []) ≡ 45 ∷ 9 ∷ 45 ∷ 9 ∷ 45 ∷ 10 ∷ []
unfolding line
three_is = refl

pub refused_line :
    (a b c : Tape) (x : Result Compiled ℕ) (n : ℕ) → x ≡ Err n → Wrote a (marked (decimal n) 9) b → Wrote b (45 ∷ 9 ∷ 45 ∷ 9 ∷ 45 ∷ 10 ∷ []) c
    → Wrote a (line (compiling_fields x)) c
refused_line a b c x n h p q =
    as_text a c (ap (λ (y : Result Compiled ℕ). line (compiling_fields y)) h)
    (more (decimal n) absent (absent ∷ absent ∷ []) p (as_text b c three_is q))

pub kind_property : (a b : Tape) (k : ℕ) → k ≡ 0 → Wrote a (80 ∷ 9 ∷ []) b → Wrote a (marked (kind_byte k ∷ []) 9) b
kind_property a b k e w = as_text a b (ap (λ (x : ℕ). marked (kind_byte x ∷ []) 9) e) w

pub kind_assumption : (a b : Tape) (k : ℕ) → (k ≡ 0 → ⊥) → Wrote a (65 ∷ 9 ∷ []) b → Wrote a (marked (kind_byte k ∷ []) 9) b
kind_assumption a b zero e w = absurd (e refl)
kind_assumption a b (suc k) e w = w

-- a kept line starts with its fields, whatever the four last are
last_four : (x : Result Compiled ℕ) (P : List (List ℕ) → Type 0) → ((t : List ℕ) (ts : List (List ℕ)) → P (t ∷ ts)) → P (compiling_fields x)
last_four (Ok c) P f = f (decimal 0) (decimal c.first ∷ decimal c.bits ∷ alike_text c.alike ∷ [])
last_four (Err n) P f = f (decimal n) (absent ∷ absent ∷ absent ∷ [])

pub rule_line_lem :
    (a b c d : Tape) (number kind : ℕ) (label : List ℕ) (x : Result Compiled ℕ) → Wrote a (tabbed (rule_word ∷ decimal number ∷ label ∷ [])) b
    → Wrote b (marked (kind_byte kind ∷ []) 9) c → Wrote c (line (compiling_fields x)) d → Wrote a (rule_line number label kind x) d
unfolding rule_line
rule_line_lem a b c d number kind label x p q w =
    group (rule_word ∷ decimal number ∷ label ∷ []) (kind_byte kind ∷ []) (compiling_fields x) p
    (last_four x (λ ts. Wrote c (line ts) d → Wrote b (line ((kind_byte kind ∷ []) ∷ ts)) d) (λ t ts v. more (kind_byte kind ∷ []) t ts q v) w)
