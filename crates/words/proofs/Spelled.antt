-- EVERY RUN OF BYTES GIVES THE WORD THAT IT SPELLS, OR NONE WHERE IT SPELLS NONE. One test over the vocabulary is computed; the rest follows.
use mathlib.Core.Path.{◌≡◌, refl, sym, ap, subst, ◌∙◌}
use mathlib.Core.Bool.{Bool, true, false, ◌&&◌}
use mathlib.Core.List.{List, [], ◌∷◌}
use Prim.Native.Nat.{ℕ, zero, suc, ◌≤◌, ◌<◌}
use native.Mathlib.Omega.{arith}
use borrow.Author.Tests.{eqb-true, ltb-true, ltb-false}
use lib.Dec.{eqb, ltb}
use lib.ListN.{length}
use Rattle.terms.specs.Choice.{pick}
use Rattle.terms.specs.Words.{word_rule, word_step, word_states, word_slot, line_words}
use Rattle.words.specs.Same.{eqbs}
use Rattle.words.specs.Word.{Entry, vocabulary, lookup, word_of, entry_at, word_in, spelling_in, word_at, spelling_of}
use Rattle.words.specs.Spelled.{Says, spelled, none, Spellings}
use Rattle.std.specs.Prelude.{Option, Some, None}
use Rattle.words.specs.declared.word.Word.{Word}
use Rattle.words.specs.declared.word.Word.TheVariants.{Atom, Plain, Bounded, Rule, Step, States, Slot}
use Rattle.words.proofs.Codes.{both_true, same_bytes}

-- ---- the first place of a spelling, the length of the list where it does not stand
unfoldable place : List Entry → List ℕ → ℕ
place [] f = 0
place (e ∷ es) f = pick (eqbs f e.spelling) 0 (suc (place es f))

lookup_place : (es : List Entry) (f : List ℕ) → lookup es f ≡ word_in (entry_at es (place es f))
unfolding lookup place
lookup_place [] f = refl
lookup_place (e ∷ es) f = go (eqbs f e.spelling) (lookup_place es f)
  where
    go : (t : Bool) → lookup es f ≡ word_in (entry_at es (place es f)) → pick t (Some e.word) (lookup es f) ≡ word_in (entry_at (e ∷ es) (pick t 0 (suc (place es f))))
    go true h = refl
    go false h = h

place_spelled : (es : List Entry) (f : List ℕ) → place es f < length es → f ≡ spelling_in (entry_at es (place es f))
unfolding place
place_spelled [] f h = absurd (omega arith)
place_spelled (e ∷ es) f h = go (eqbs f e.spelling) refl h (place_spelled es f)
  where
    go : (t : Bool) → eqbs f e.spelling ≡ t → pick t 0 (suc (place es f)) < suc (length es)
        → (place es f < length es → f ≡ spelling_in (entry_at es (place es f))) → f ≡ spelling_in (entry_at (e ∷ es) (pick t 0 (suc (place es f))))
    go true p h k = same_bytes f e.spelling p
    go false p h k = k (omega arith)

-- past the last there is no word, and nothing is spelled
pub entry_past : (es : List Entry) (k : ℕ) → length es ≤ k → entry_at es k ≡ None
entry_past [] k h = refl
entry_past (e ∷ es) zero h = absurd (omega arith)
entry_past (e ∷ es) (suc k) h = entry_past es k (omega arith)

-- ---- a test of each number below n
unfoldable all : (ℕ → Bool) → ℕ → Bool
all p zero = true
all p (suc n) = p zero && all (λ (k : ℕ). p (suc k)) n

all_at : (p : ℕ → Bool) (n k : ℕ) → all p n ≡ true → k < n → p k ≡ true
unfolding all
all_at p zero k e h = absurd (omega arith)
all_at p (suc n) zero e h = (both_true (p zero) (all (λ (k : ℕ). p (suc k)) n) e).0
all_at p (suc n) (suc k) e h = all_at (λ (k : ℕ). p (suc k)) n k (both_true (p zero) (all (λ (k : ℕ). p (suc k)) n) e).1 (omega arith)

-- each word's spelling stands first at its own place, and each word has its own number
abbrev number_of : Option Word → ℕ
number_of (Some (Atom op)) = op
number_of (Some (Plain op)) = op
number_of (Some (Bounded op)) = op
number_of (Some Rule) = word_rule
number_of (Some Step) = word_step
number_of (Some States) = word_states
number_of (Some Slot) = word_slot
number_of None = line_words

placed : (k : ℕ) → k < line_words → place vocabulary (spelling_of k) ≡ k
unfolding all place eqbs
placed k h = eqb-true _ _ (all_at (λ (k : ℕ). eqb (place vocabulary (spelling_of k)) k) line_words k refl h)

numbered : (k : ℕ) → k < line_words → number_of (word_at k) ≡ k
unfolding all
numbered k h = eqb-true _ _ (all_at (λ (k : ℕ). eqb (number_of (word_at k)) k) line_words k refl h)

-- ---- bytes and words
word_at_lem : (f : List ℕ) → word_of f ≡ word_at (place vocabulary f)
unfolding word_of
word_at_lem f = lookup_place vocabulary f

none_spelled : (f : List ℕ) → line_words ≤ place vocabulary f → (k : ℕ) → k < line_words → f ≡ spelling_of k → ⊥
none_spelled f h k l e = let p : place vocabulary f ≡ k = ap (place vocabulary) e ∙ placed k l in omega arith

pub spellings : Spellings
spellings = record {
  says = λ f. said f (ltb (place vocabulary f) line_words) refl;
  known = λ k h. word_at_lem (spelling_of k) ∙ ap word_at (placed k h);
  one_word = λ j k h l e. sym (placed j h) ∙ ap (place vocabulary) e ∙ placed k l;
  one_spelling = λ j k h l e. sym (numbered j h) ∙ ap number_of e ∙ numbered k l;
  not_unknown = λ k h e. let p : line_words ≡ k = sym (ap number_of e) ∙ numbered k h in omega arith;
}
  where
    said : (f : List ℕ) (t : Bool) → ltb (place vocabulary f) line_words ≡ t → Says f (word_of f)
    said f true p =
        subst (Says f) (sym (word_at_lem f)) (spelled (place vocabulary f) (ltb-true _ _ p) (place_spelled vocabulary f (ltb-true _ _ p)))
    said f false p =
        subst (Says f) (sym (word_at_lem f ∙ ap word_in (entry_past vocabulary (place vocabulary f) (ltb-false _ _ p)))) (none (none_spelled f (ltb-false _ _ p)))
