-- Runs of bytes: the first place of a byte, parts, labels.
use mathlib.Core.Path.{◌≡◌, refl, sym, ap, subst, ◌∙◌}
use mathlib.Core.Bool.{Bool, true, false, not, ◌&&◌}
use mathlib.Core.List.{List, [], ◌∷◌}
use Prim.Native.Nat.{ℕ, suc, ◌+◌, ◌≤◌, ◌<◌}
use native.Mathlib.Omega.{arith}
use borrow.Author.Tests.{le-leb, lt-leb, ltb-true, ltb-false}
use lib.Dec.{eqb, leb, ltb}
use lib.ListN.{length}
use Rattle.std.specs.Prelude.{cond}
use Rattle.std.specs.Prelude.{Option, unwrap_or}
use Rattle.std.specs.List.{list_all, position, position_or_len}
use Rattle.std.proofs.lemmas.List.Sums.{prefix_len-le-length}
use Rattle.std.proofs.lemmas.List.Recursion.{is_position_or_len}
use Rattle.terms.specs.Choice.{pick}
use Rattle.line.specs.Text.{first_at, Found}
use Rattle.line.specs.Line.{printable, is_label}

-- ---- the first place of a byte
first_place : (c : ℕ) (s : List ℕ) → first_at c s ≡ position_or_len (λ b. eqb b c) s
unfolding first_at
first_place c s = is_position_or_len (first_at c) (λ b. eqb b c) refl (λ b l. step b l (eqb b c)) s
  where
    step : (b : ℕ) (l : List ℕ) (t : Bool) → pick t 0 (suc (first_at c l)) ≡ cond t 0 (1 + first_at c l)
    step b l true = refl
    step b l false = omega arith

pub found_first : (c : ℕ) (s : List ℕ) (o : Option ℕ) (r : ℕ) → o ≡ position (λ b. eqb b c) s → r ≡ unwrap_or o (length s) → Found c s r
found_first c s o r p e = go (position_or_len (λ b. eqb b c) s) refl (ltb (position_or_len (λ b. eqb b c) s) (length s)) refl
  where
    first : (n : ℕ) → position_or_len (λ b. eqb b c) s ≡ n → n ≤ length s → r ≡ n → Found c s r
    first n h k e = record { is = e ∙ sym h ∙ sym (first_place c s); inside = subst (λ (i : ℕ). i ≤ length s) (sym e) k }

    go : (n : ℕ) → position_or_len (λ b. eqb b c) s ≡ n → (t : Bool) → ltb (position_or_len (λ b. eqb b c) s) (length s) ≡ t → Found c s r
    go n h true q = first n h (omega (arith, ltb-true _ _ q)) (e ∙ ap (λ (x : Option ℕ). unwrap_or x (length s)) p ∙ rw q h)
    go n h false q = first n h (omega (arith, prefix_len-le-length (λ (b : ℕ). not (eqb b c)) s)) (e ∙ ap (λ (x : Option ℕ). unwrap_or x (length s)) p ∙ rw q (omega (arith, ltb-false _ _ q, prefix_len-le-length (λ (b : ℕ). not (eqb b c)) s)))

-- ---- labels
printable_all : (s : List ℕ) → printable s ≡ list_all (λ b. leb 33 b && leb b 126) s
unfolding printable
printable_all [] = refl
printable_all (b ∷ s) = ap ((leb 33 b && leb b 126) &&◌) (printable_all s)

module _ (s : List ℕ) where
  pub label_empty : length s < 1 → false ≡ is_label s
  unfolding is_label
  label_empty h = rw (lt-leb 1 (length s) h) refl

  pub label_long : 32 < length s → false ≡ is_label s
  unfolding is_label
  label_long h = rw (le-leb 1 (length s) (omega arith), lt-leb (length s) 32 h) refl

  pub label_printable : (r : Bool) → 1 ≤ length s → length s ≤ 32 → r ≡ list_all (λ b. leb 33 b && leb b 126) s → r ≡ is_label s
  unfolding is_label
  label_printable r h k e = rw (le-leb 1 (length s) h, le-leb (length s) 32 k) (e ∙ sym (printable_all s))
