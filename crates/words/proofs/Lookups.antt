-- Looking a word up: the code's tests against the vocabulary.
use mathlib.Core.Path.{◌≡◌, refl, sym, ap, ◌∙◌}
use mathlib.Core.Bool.{Bool, true, false}
use mathlib.Core.List.{List, [], ◌∷◌, ◌++◌}
use Prim.Native.Nat.{ℕ}
use borrow.Author.Tests.{eqb-false, eq-eqb, ne_eqb}
use lib.Dec.{eqb}
use lib.ListN.{length}
use Rattle.terms.specs.Choice.{pick}
use Rattle.words.specs.Coded.{Coded, sized}
use Rattle.words.specs.Same.{eqbs}
use Rattle.words.specs.Word.{Entry, vocabulary, lookup, word_of}
use Rattle.words.specs.declared.word.Word.{Word}
use Rattle.std.specs.Prelude.{Option, Some, None}
use Rattle.words.proofs.Codes.{other_length, cells, zeros, by_number}

-- ---- the first entry of a list is the word, or is passed over; past the last there is none
hit : (s : List ℕ) (w : Word) (es : List Entry) (f : List ℕ) → eqbs f s ≡ true → Some w ≡ lookup (record { spelling = s; word = w } ∷ es) f
unfolding lookup
hit s w es f e = rw e refl

miss : (s : List ℕ) (w : Word) (es : List Entry) (f : List ℕ) (r : Option Word) → eqbs f s ≡ false → r ≡ lookup es f
    → r ≡ lookup (record { spelling = s; word = w } ∷ es) f
unfolding lookup
miss s w es f r e h = rw e h

-- n letters as one number, with m zeros
module _ (n m : ℕ) (s : List ℕ) (w : Word) (es : List Entry) (f : List ℕ) (p q : ℕ) (h : length f ≡ n) (k : length s ≡ n)
    (c : Coded (cells f 0 n ++ zeros m) p) (d : Coded (s ++ zeros m) q) where
  pub found : p ≡ q → Some w ≡ lookup (record { spelling = s; word = w } ∷ es) f
  found e = hit s w es f (sym (by_number n m f s p q h k c d) ∙ eq-eqb p q e)

  pub passed : (r : Option Word) → (p ≡ q → ⊥) → r ≡ lookup es f → r ≡ lookup (record { spelling = s; word = w } ∷ es) f
  passed r e = miss s w es f r (sym (by_number n m f s p q h k c d) ∙ ne_eqb p q e)

-- a test that says whether they are the same
module _ (s : List ℕ) (w : Word) (es : List Entry) (f : List ℕ) (t : Bool) (p : t ≡ eqbs f s) where
  pub found_so : t ≡ true → Some w ≡ lookup (record { spelling = s; word = w } ∷ es) f
  found_so e = hit s w es f (sym p ∙ e)

  pub passed_so : (r : Option Word) → t ≡ false → r ≡ lookup es f → r ≡ lookup (record { spelling = s; word = w } ∷ es) f
  passed_so r e = miss s w es f r (sym p ∙ e)

pub none_left : (f : List ℕ) → None ≡ lookup [] f
unfolding lookup
none_left f = refl

-- ---- only the words of the bytes' own length can be meant
one_sized : (e : Entry) (es : List Entry) (f : List ℕ) → lookup es f ≡ lookup (sized (length f) es) f → (t : Bool) → eqb (length e.spelling) (length f) ≡ t
    → lookup (e ∷ es) f ≡ lookup (pick t (e ∷ sized (length f) es) (sized (length f) es)) f
unfolding lookup
one_sized e es f h true p = ap (pick (eqbs f e.spelling) (Some e.word)) h
one_sized e es f h false p = rw (← other_length f e.spelling (λ (z : length f ≡ length e.spelling). eqb-false _ _ p (sym z))) h

sized_same : (es : List Entry) (f : List ℕ) → lookup es f ≡ lookup (sized (length f) es) f
sized_same [] f = refl
sized_same (e ∷ es) f = one_sized e es f (sized_same es f) (eqb (length e.spelling) (length f)) refl

pub by_size : (n : ℕ) (f : List ℕ) (r : Option Word) → length f ≡ n → r ≡ lookup (sized n vocabulary) f → r ≡ word_of f
unfolding word_of
by_size n f r e h = h ∙ ap (λ (k : ℕ). lookup (sized k vocabulary) f) (sym e) ∙ sym (sized_same vocabulary f)

-- no word has another length
abbrev AllOther : List Entry → ℕ → Type 0
AllOther [] n = Unit
AllOther (e ∷ es) n = (eqb (length e.spelling) n ≡ false) × AllOther es n

none_sized : (es : List Entry) (n : ℕ) → AllOther es n → sized n es ≡ []
none_sized [] n h = refl
none_sized (e ∷ es) n h = rw h.0 (none_sized es n h.1)

pub no_size : (f : List ℕ) → (length f ≡ 2 → ⊥) → (length f ≡ 3 → ⊥) → (length f ≡ 4 → ⊥) → (length f ≡ 5 → ⊥) → (length f ≡ 6 → ⊥) → (length f ≡ 7 → ⊥) → (length f ≡ 10 → ⊥)
    → None ≡ word_of f
no_size f h2 h3 h4 h5 h6 h7 h10 =
    by_size (length f) f None refl (none_left f ∙ ap (λ (es : List Entry). lookup es f) (sym (none_sized vocabulary (length f) all)))
  where
    o : (n : ℕ) → (length f ≡ n → ⊥) → eqb n (length f) ≡ false
    o n k = ne_eqb n (length f) (λ (z : n ≡ length f). k (sym z))

    all : AllOther vocabulary (length f)
    all = (
      o 3 h3,
      (
        o 2 h2,
        (
          o 3 h3,
          (
            o 3 h3,
            (
              o 4 h4,
              (
                o 6 h6,
                (
                  o 10 h10,
                  (
                    o 10 h10,
                    (
                      o 6 h6,
                      (o 3 h3, (o 2 h2, (o 7 h7, (o 5 h5, (o 4 h4, (o 4 h4, (o 6 h6, (o 4 h4, tt)))))))),
                    ),
                  ),
                ),
              ),
            ),
          ),
        ),
      ),
    )
