-- Lines field by field.
use mathlib.Core.Path.{◌≡◌, refl, sym, ap, ◌∙◌}
use mathlib.Core.List.{List, [], ◌∷◌, ◌++◌, append_assoc}
use Prim.Native.Nat.{ℕ}
use Rattle.text.specs.Tape.{Tape, Wrote}
use Rattle.text.proofs.Tapes.{as_text, then, nothing}
use Rattle.listing_line.specs.Line.{line, tabbed, marked}

-- a text, and the mark behind it
pub mark_then : (a b c : Tape) (s : List ℕ) (mark : ℕ) → Wrote a s b → Wrote b (mark ∷ []) c → Wrote a (marked s mark) c
mark_then a b c s mark w v = then w v

-- ---- a line: a field with its tab, then the others; the last with its LF
pub more : {a b c : Tape} (t u : List ℕ) (ts : List (List ℕ)) → Wrote a (marked t 9) b → Wrote b (line (u ∷ ts)) c → Wrote a (line (t ∷ u ∷ ts)) c
unfolding line
more {a} {b} {c} t u ts w v = as_text a c (sym (append_assoc t (9 ∷ []) (line (u ∷ ts)))) (then w v)

pub done : {a b : Tape} (t : List ℕ) → Wrote a (marked t 10) b → Wrote a (line (t ∷ [])) b
unfolding line
done t w = w

-- ---- some fields, each with its tab
pub tab_more : {a b c : Tape} (t : List ℕ) (ts : List (List ℕ)) → Wrote a (marked t 9) b → Wrote b (tabbed ts) c → Wrote a (tabbed (t ∷ ts)) c
unfolding tabbed
tab_more {a} {b} {c} t ts w v = as_text a c (sym (append_assoc t (9 ∷ []) (tabbed ts))) (then w v)

pub tab_done : {a : Tape} → Wrote a (tabbed []) a
unfolding tabbed
tab_done {a} = nothing a

-- three of them; and three of which the last is a letter
pub tab_three :
    (a b c d : Tape) (s t u : List ℕ)
    → Wrote a (marked s 9) b → Wrote b (marked t 9) c → Wrote c (marked u 9) d → Wrote a (tabbed (s ∷ t ∷ u ∷ [])) d
tab_three a b c d s t u p q r = tab_more s (t ∷ u ∷ []) p (tab_more t (u ∷ []) q (tab_more u [] r tab_done))

pub tab_letter :
    (a b c d e : Tape) (s t : List ℕ) (letter : ℕ)
    → Wrote a (marked s 9) b → Wrote b (marked t 9) c → Wrote c (letter ∷ []) d → Wrote d (9 ∷ []) e
    → Wrote a (tabbed (s ∷ t ∷ (letter ∷ []) ∷ [])) e
tab_letter a b c d e s t letter p q r v = tab_three a b c e s t (letter ∷ []) p q (then r v)

tabbed_line : (ts : List (List ℕ)) (u : List ℕ) (us : List (List ℕ)) → line (ts ++ u ∷ us) ≡ tabbed ts ++ line (u ∷ us)
unfolding tabbed line
tabbed_line [] u us = refl
tabbed_line (t ∷ []) u us = sym (append_assoc t (9 ∷ []) (line (u ∷ us)))
tabbed_line (t ∷ s ∷ ts) u us =
    ap (λ (x : List ℕ). t ++ 9 ∷ x) (tabbed_line (s ∷ ts) u us) ∙ sym (append_assoc t (9 ∷ tabbed (s ∷ ts)) (line (u ∷ us)))

pub group : {a b c : Tape} (ts : List (List ℕ)) (u : List ℕ) (us : List (List ℕ)) → Wrote a (tabbed ts) b → Wrote b (line (u ∷ us)) c → Wrote a (line (ts ++ u ∷ us)) c
group {a} {b} {c} ts u us w v = as_text a c (tabbed_line ts u us) (then w v)
