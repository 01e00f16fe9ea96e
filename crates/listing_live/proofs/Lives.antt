-- The `live` line, from what the code writes one behind the other.
use mathlib.Core.Path.{◌≡◌, refl, sym, ap, subst, ◌∙◌}
use mathlib.Core.List.{List, [], ◌∷◌}
use Prim.Native.Nat.{ℕ}
use Rattle.std.specs.Prelude.{Option, Some, None, Result, Ok, Err}
use Rattle.result.specs.Refusal.{number_of}
use Rattle.result.specs.declared.Refusal.{Refusal}
use Rattle.split.specs.declared.parts.Parts.{Parts}
use Rattle.number.specs.Digits.{digits, decimal}
use Rattle.text.specs.Tape.{Tape, Wrote}
use Rattle.text.proofs.Tapes.{as_text, then}
use Rattle.listing_line.specs.Line.{line, tabbed, marked, absent}
use Rattle.listing_line.proofs.Fields.{more, done, group}
use Rattle.listing_live.specs.Live.{live_word, none_word}
use Rattle.listing_live.specs.Entry.{entries_text, EntriesIn, live_text, LiveReady}

none_is : line (live_word ∷ none_word ∷ absent ∷ []) ≡ 108 ∷ 105 ∷ 118 ∷ 101 ∷ 9 ∷ 110 ∷ 111 ∷ 110 ∷ 101 ∷ 9 ∷ 45 ∷ 10 ∷ []
unfolding line
none_is = refl

head_is : tabbed (live_word ∷ decimal 0 ∷ []) ≡ 108 ∷ 105 ∷ 118 ∷ 101 ∷ 9 ∷ 48 ∷ 9 ∷ []
unfolding tabbed digits
head_is = refl

module _ (ops nums : List ℕ) (x : Result (Option Parts) Refusal) (l : List ℕ) where
  pub live_none : (y : Option Parts) (a b : Tape) → x ≡ Ok y → y ≡ None → Wrote a (108 ∷ 105 ∷ 118 ∷ 101 ∷ 9 ∷ 110 ∷ 111 ∷ 110 ∷ 101 ∷ 9 ∷ 45 ∷ 10 ∷ []) b → Wrote a (live_text ops nums x l) b
  unfolding live_text
  live_none y a b e f w = as_text a b (ap (λ (z : Result (Option Parts) Refusal). live_text ops nums z l) (e ∙ ap Ok f) ∙ none_is) w

  pub live_refused :
      (a b c d : Tape) (q : Refusal) (n : ℕ) → x ≡ Err q → n ≡ number_of q → Wrote a (marked live_word 9) b → Wrote b (marked (decimal n) 9) c → Wrote c (45 ∷ 10 ∷ []) d
      → Wrote a (live_text ops nums x l) d
  unfolding live_text
  live_refused a b c d x n e i p q r =
      as_text a d (ap (λ (y : Result (Option Parts) Refusal). live_text ops nums y l) e ∙ ap (λ (k : ℕ). line (live_word ∷ decimal k ∷ absent ∷ [])) (sym i))
      (more live_word (decimal n) (absent ∷ []) p (more (decimal n) absent [] q (done absent r)))

  pub live_ready : (y : Option Parts) (p : Parts) → LiveReady ops nums x l → x ≡ Ok y → y ≡ Some p → EntriesIn ops nums l p.skeleton
  live_ready y p g e f = subst (λ (z : Result (Option Parts) Refusal). LiveReady ops nums z l) (e ∙ ap Ok f) g

  pub live_parts :
      (y : Option Parts) (k : Parts) (a b c d : Tape) → x ≡ Ok y → y ≡ Some k → Wrote a (108 ∷ 105 ∷ 118 ∷ 101 ∷ 9 ∷ 48 ∷ 9 ∷ []) b → Wrote b (entries_text ops nums k.skeleton l) c
      → Wrote c (10 ∷ []) d → Wrote a (live_text ops nums x l) d
  unfolding live_text
  live_parts y k a b c d e f p q r =
      as_text a d (ap (λ (z : Result (Option Parts) Refusal). live_text ops nums z l) (e ∙ ap Ok f))
      (group (live_word ∷ decimal 0 ∷ []) (entries_text ops nums k.skeleton l) [] (as_text a b head_is p) (done (entries_text ops nums k.skeleton l) (then q r)))
