-- A word's length and letters by its number.
use mathlib.Core.Path.{◌≡◌, sym, ap}
use mathlib.Core.List.{List, [], ◌∷◌}
use Prim.Native.Nat.{ℕ, zero, suc, ◌+◌, ◌≤◌}
use native.Mathlib.Omega.{arith}
use lib.ListN.{length, get_or}
use Rattle.terms.specs.Words.{line_words}
use Rattle.letters.specs.Letters.{Letters}
use Rattle.words.specs.Word.{vocabulary, spelling_in, spelling_of, length_of, letter_of}
use Rattle.words.proofs.Spelled.{entry_past}

-- ---- letter by letter
letters_at : (l : List ℕ) (o i j r : ℕ) → j ≡ o + i → Letters l o j r → r ≡ get_or l i 0
letters_at [] o i j r e h = h (omega arith)
letters_at (b ∷ l) o zero j r e h = h.0 (omega arith)
letters_at (b ∷ l) o (suc i) j r e h = letters_at l (suc o) i j r (omega arith) h.1

pub letters_are : (j k i r : ℕ) → k ≡ j → Letters (spelling_of j) 0 i r → r ≡ letter_of k i
unfolding letter_of
letters_are j k i r e h = rw e (letters_at (spelling_of j) 0 i i r (omega arith) h)

-- ---- past the last word
-- what the last arm of a `match` on the numbers below n knows
abbrev pub NoneBelow : ℕ → ℕ → Type 0
NoneBelow zero k = Unit
NoneBelow (suc n) k = NoneBelow n k × (k ≡ n → ⊥)

none_below : (n k : ℕ) → NoneBelow n k → n ≤ k
none_below zero k h = omega arith
none_below (suc n) k h = let p : n ≤ k = none_below n k h.0 in omega (arith, h.1)

none_spelled : (k : ℕ) → NoneBelow line_words k → spelling_of k ≡ []
none_spelled k h = ap spelling_in (entry_past vocabulary k (none_below line_words k h))

pub no_letter : (k i : ℕ) → NoneBelow line_words k → 0 ≡ letter_of k i
unfolding letter_of
no_letter k i h = ap (λ (l : List ℕ). get_or l i 0) (sym (none_spelled k h))

pub no_length : (k : ℕ) → NoneBelow line_words k → 0 ≡ length_of k
unfolding length_of
no_length k h = ap length (sym (none_spelled k h))
