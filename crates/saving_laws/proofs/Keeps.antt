-- What a rule keeps, over its tree: as many as it has nodes; the parts of a joined node one behind the other.
use mathlib.Core.Path.{◌≡◌, refl, sym, ap, ap₂, ◌∙◌}
use mathlib.Core.Bool.{Bool, true, false, ◌||◌}
use mathlib.Core.List.{List, [], ◌∷◌, ◌++◌, append_assoc}
use Prim.Native.Nat.{ℕ, suc, ◌+◌}
use native.Mathlib.Omega.{arith}
use native.Mathlib.Nat.{add-zero}
use lib.ListN.{length, get_or, length-append}
use Rattle.monitor.specs.Mon.{Mon, check, And, Or, count}
use Rattle.kept.specs.declared.Keep.{Keep}
use Rattle.kept.specs.declared.Keep.TheVariants.{Nothing}
use Rattle.kept.specs.Kept.{keep_written, keep_spent, keeps, state_bits_of, spent_from}

pub keeps_length : (m : Mon) → length (keeps m) ≡ count m
unfolding keeps count
keeps_length (check c) = refl
keeps_length (And m n) = ap suc (length-append (keeps m) (keeps n) ∙ ap₂ ◌+◌ (keeps_length m) (keeps_length n)) ∙ omega arith
keeps_length (Or m n) = ap suc (length-append (keeps m) (keeps n) ∙ ap₂ ◌+◌ (keeps_length m) (keeps_length n)) ∙ omega arith

module _ (held : List Bool) (remaining : List ℕ) where
  state_append : (xs ys : List Keep) (k : ℕ) → state_bits_of (xs ++ ys) held remaining k ≡ state_bits_of xs held remaining k ++ state_bits_of ys held remaining (k + length xs)
  unfolding state_bits_of
  state_append [] ys k = ap (state_bits_of ys held remaining) (sym (add-zero k))
  state_append (x ∷ xs) ys k =
      let o : k + 1 + length xs ≡ k + suc (length xs) = omega arith in
      let w = keep_written x (get_or held k false) (get_or remaining k 0) in
      ap (w ++◌) (state_append xs ys (k + 1) ∙ ap (λ (j : ℕ). state_bits_of xs held remaining (k + 1) ++ state_bits_of ys held remaining j) o)
      ∙ sym (append_assoc w (state_bits_of xs held remaining (k + 1)) (state_bits_of ys held remaining (k + suc (length xs))))

  -- a joined node has no bits of its own
  pub state_parts : (m n : Mon) (i : ℕ) → state_bits_of (Nothing ∷ keeps m ++ keeps n) held remaining i ≡ state_bits_of (keeps m) held remaining (i + 1) ++ state_bits_of (keeps n) held remaining (i + 1 + count m)
  unfolding state_bits_of
  state_parts m n i = state_append (keeps m) (keeps n) (i + 1) ∙ ap (λ (j : ℕ). state_bits_of (keeps m) held remaining (i + 1) ++ state_bits_of (keeps n) held remaining (i + 1 + j)) (keeps_length m)

or_assoc : (a b c : Bool) → (a || (b || c)) ≡ ((a || b) || c)
or_assoc true b c = refl
or_assoc false b c = refl

module _ (failed : List Bool) where
  spent_append : (xs ys : List Keep) (k : ℕ) → spent_from (xs ++ ys) failed k ≡ (spent_from xs failed k || spent_from ys failed (k + length xs))
  unfolding spent_from
  spent_append [] ys k = ap (spent_from ys failed) (sym (add-zero k))
  spent_append (x ∷ xs) ys k =
      let o : k + 1 + length xs ≡ k + suc (length xs) = omega arith in
      let w = keep_spent x (get_or failed k false) in
      ap (w ||◌) (spent_append xs ys (k + 1) ∙ ap (λ (j : ℕ). spent_from xs failed (k + 1) || spent_from ys failed j) o)
      ∙ or_assoc w (spent_from xs failed (k + 1)) (spent_from ys failed (k + suc (length xs)))

  -- nor a mark that counts
  pub spent_parts : (m n : Mon) (i : ℕ) → spent_from (Nothing ∷ keeps m ++ keeps n) failed i ≡ (spent_from (keeps m) failed (i + 1) || spent_from (keeps n) failed (i + 1 + count m))
  unfolding spent_from
  spent_parts m n i = spent_append (keeps m) (keeps n) (i + 1) ∙ ap (λ (j : ℕ). spent_from (keeps m) failed (i + 1) || spent_from (keeps n) failed (i + 1 + j)) (keeps_length m)
