-- The signs read off the table are the signal's text, and the comparison of two signals.
use mathlib.Core.Path.{◌≡◌, refl, sym, ap, ap₂, subst, ◌∙◌}
use mathlib.Core.Bool.{Bool, true, false}
use mathlib.Core.List.{List, ◌∷◌, ◌++◌, append_assoc}
use Prim.Native.Nat.{ℕ, zero, suc, ◌+◌, ◌-◌, ◌<◌}
use native.Mathlib.Omega.{arith}
use native.Mathlib.Numerals.{one-add}
use native.Mathlib.Nat.{suc-add, zero-add, add_assoc, add-zero}
use lib.ListN.{get_or}
use borrow.Author.Tests.{lt-ltb}
use Rattle.formula.specs.Tree.{leaf, one, two, leaf_of, size}
use Rattle.formula.specs.Spells.{Spells}
use Rattle.formula.specs.Formula.{Atom, Formula, node, var, input, output, not, next, always, eventually, always_for, within, and, or, implies, until}
use Rattle.formula.specs.Table.{node_at}
use Rattle.formula.specs.Pure.{pure}
use Rattle.formula.specs.Signal.{Purely}
use Rattle.formula.specs.Text.{Sign, sign, signs_by, signs}
use Rattle.std.specs.Prelude.{Option, Some}
use Rattle.formula.proofs.Cases.{true_false}
use Rattle.formula.proofs.Nodes.{number_of, atom_number, unary_number, binary_number}
use Rattle.formula.proofs.Walks.{both_true}
use Rattle.formula.proofs.Signals.{purely_yes}
use Rattle.alike.specs.Text.{agree}
use Rattle.alike.specs.Signs.{atom_of, signs_at, signs_from, rest, Spelt, LikenedAt}

-- ---- the signs of a formula's places
atom_low : (a : Atom) → number_of (leaf_of a) < 3
atom_low (var n) = omega arith
atom_low (input n) = omega arith
atom_low (output n) = omega arith

-- the operation and the number at an atom's place give the atom
atom_read : (op n : ℕ) (a : Atom) → op < 3 → node op n ≡ leaf_of a → atom_of op n ≡ a
unfolding node
atom_read zero n a h e = cc
atom_read (suc zero) n a h e = cc
atom_read (suc (suc zero)) n a h e = cc
atom_read (suc (suc (suc k))) n a h e = absurd (omega arith)

module _ (ops nums : List ℕ) where
  from_add : (i m n : ℕ) → signs_from ops nums i (m + n) ≡ signs_from ops nums i m ++ signs_from ops nums (i + m) n
  unfolding signs_from
  from_add i zero n = rw (add-zero, zero-add) refl
  from_add i (suc m) n =
      rw suc-add
      (ap (signs_at (get_or ops i 0) (get_or nums i 0) ++◌)
      (from_add (i + 1) m n ∙ ap (λ (k : ℕ). signs_from ops nums (i + 1) m ++ signs_from ops nums k n) (omega arith))
      ∙ sym (append_assoc (signs_at (get_or ops i 0) (get_or nums i 0)) _ _))

  -- a word's sign or signs, and then those of the n places behind it
  word : (op i n : ℕ) → get_or ops i 0 ≡ op → signs_from ops nums i (1 + n) ≡ signs_at op (get_or nums i 0) ++ signs_from ops nums (i + 1) n
  unfolding signs_from
  word op i n h = rw one-add (ap (λ (k : ℕ). signs_at k (get_or nums i 0) ++ signs_from ops nums (i + 1) n) h)

  both_signs : (l r : Formula) (i : ℕ) → signs_from ops nums i (size l) ≡ signs l → signs_from ops nums (i + size l) (size r) ≡ signs r → signs_from ops nums i (size l + size r) ≡ signs l ++ signs r
  both_signs l r i p q =
      from_add i (size l) (size r) ∙ ap₂ ◌++◌ p q

  spelt_signs : (f : Formula) (i : ℕ) → Spells (node_at ops nums) i f → pure f ≡ true → signs_from ops nums i (size f) ≡ signs f
  unfolding Spells size pure signs_by node_at signs_from
  spelt_signs (leaf a) i s h =
      let low : get_or ops i 0 < 3 = subst (λ (n : ℕ). n < 3) (sym (atom_number _ _ a s)) (atom_low a) in
      simp (lt-ltb _ 3 low, atom_read _ _ a low s)
  spelt_signs (one not f) i s h =
      word 3 i (size f) (unary_number _ _ not s.0) ∙ ap (sign 33 ∷◌) (spelt_signs f (i + 1) s.1 h)
  spelt_signs (one next f) i s h = true_false h refl
  spelt_signs (one always f) i s h = true_false h refl
  spelt_signs (one eventually f) i s h = true_false h refl
  spelt_signs (one (always_for b) f) i s h = true_false h refl
  spelt_signs (one (within b) f) i s h = true_false h refl
  spelt_signs (two and l r) i s h =
      let (p, q) = both_true (pure l) (pure r) h in
      rw add_assoc
      (word 9 i (size l + size r) (binary_number _ _ and s.0)
      ∙ ap (sign 38 ∷◌) (both_signs l r (i + 1) (spelt_signs l (i + 1) s.1 p) (spelt_signs r (i + 1 + size l) s.2 q)))
  spelt_signs (two or l r) i s h =
      let (p, q) = both_true (pure l) (pure r) h in
      rw add_assoc
      (word 10 i (size l + size r) (binary_number _ _ or s.0)
      ∙ ap (sign 124 ∷◌) (both_signs l r (i + 1) (spelt_signs l (i + 1) s.1 p) (spelt_signs r (i + 1 + size l) s.2 q)))
  spelt_signs (two implies l r) i s h =
      let (p, q) = both_true (pure l) (pure r) h in
      rw add_assoc
      (word 11 i (size l + size r) (binary_number _ _ implies s.0)
      ∙ ap (λ (xs : List Sign). sign 124 ∷ sign 33 ∷ xs) (both_signs l r (i + 1) (spelt_signs l (i + 1) s.1 p) (spelt_signs r (i + 1 + size l) s.2 q)))
  spelt_signs (two until l r) i s h = true_false h refl

  -- all of the text is left at its start
  whole_text : (p e : ℕ) (v : Option ℕ) (f : Formula) → Purely ops nums p v → v ≡ Some e → Spelt ops nums p f → rest ops nums (record { at = p; owes = false }) e ≡ signs f
  unfolding rest
  whole_text p e v f a z x =
      let n : e ≡ p + size f = (purely_yes ops nums p v a f x.spells e z).1 in
      let k : e - p ≡ size f = omega arith in
      ap (signs_from ops nums p) k ∙ spelt_signs f p x.spells x.is_pure

  pub both_texts : (p q e e' : ℕ) (v w : Option ℕ) → Purely ops nums p v → Purely ops nums q w → v ≡ Some e → w ≡ Some e' → (r : Bool)
      → r ≡ agree (rest ops nums (record { at = p; owes = false }) e) (rest ops nums (record { at = q; owes = false }) e') → LikenedAt ops nums p q r
  both_texts p q e e' v w a b y z r h = record {
    is = λ f g s t. h ∙ ap₂ agree (whole_text p e v f a y s) (whole_text q e' w g b z t);
  }
