-- Where a run of bytes is cut: the first part is what stands before the first place of the byte, and the rest what stands past it.
use mathlib.Core.Path.{◌≡◌, refl, subst}
use mathlib.Core.Bool.{Bool, true, false}
use mathlib.Core.List.{List, [], ◌∷◌}
use Prim.Native.Nat.{ℕ, zero, suc, ◌+◌, ◌≤◌, ◌<◌}
use native.Mathlib.Omega.{arith}
use native.Mathlib.Numerals.{add-one}
use lib.Dec.{eqb}
use lib.ListN.{length, take, drop}
use Rattle.terms.specs.Choice.{pick}
use Rattle.line.specs.Text.{onto, parts, fields, lines, first_at, Found}

-- the byte stands there: the parts are what stands before it and the parts of what stands past it
pub parts_cut : (c : ℕ) (e : List (List ℕ)) (l : List ℕ) → first_at c l < length l → parts c e l ≡ take (first_at c l) l ∷ parts c e (drop (suc (first_at c l)) l)
unfolding parts first_at onto
parts_cut c e [] h = absurd (omega arith)
parts_cut c e (b ∷ r) h = go (eqb b c) refl (parts_cut c e r) h
  where
    go : (t : Bool)
        → eqb b c ≡ t
        → (first_at c r < length r → parts c e r ≡ take (first_at c r) r ∷ parts c e (drop (suc (first_at c r)) r))
        → pick t zero (suc (first_at c r)) < suc (length r)
        → pick t ([] ∷ parts c e r) (onto b (parts c e r)) ≡ take (pick t zero (suc (first_at c r))) (b ∷ r) ∷ parts c e (drop (suc (pick t zero (suc (first_at c r)))) (b ∷ r))
    go true q ih h = refl
    go false q ih h = rw (ih (omega arith)) refl

-- it does not: there is one field
pub fields_whole : (l : List ℕ) → first_at 9 l ≡ length l → fields l ≡ l ∷ []
unfolding parts first_at onto
fields_whole [] h = refl
fields_whole (b ∷ r) h = go (eqb b 9) refl (fields_whole r) h
  where
    go : (t : Bool) → eqb b 9 ≡ t → (first_at 9 r ≡ length r → fields r ≡ r ∷ []) → pick t zero (suc (first_at 9 r)) ≡ suc (length r) → pick t ([] ∷ fields r) (onto b (fields r)) ≡ (b ∷ r) ∷ []
    go true q ih h = absurd (omega arith)
    go false q ih h = rw (ih (omega arith)) refl

-- it does not: there is no line
pub lines_none : (l : List ℕ) → first_at 10 l ≡ length l → lines l ≡ []
unfolding parts first_at onto
lines_none [] h = refl
lines_none (b ∷ r) h = go (eqb b 10) (lines_none r) h
  where
    go : (t : Bool) → (first_at 10 r ≡ length r → lines r ≡ []) → pick t zero (suc (first_at 10 r)) ≡ suc (length r) → pick t ([] ∷ lines r) (onto b (lines r)) ≡ []
    go true ih h = absurd (omega arith)
    go false ih h = rw (ih (omega arith)) refl

pub first_inside : (c : ℕ) (l : List ℕ) → first_at c l ≤ length l
unfolding first_at
first_inside c [] = omega arith
first_inside c (b ∷ r) = go (eqb b c) (first_inside c r)
  where
    go : (t : Bool) → first_at c r ≤ length r → pick t zero (suc (first_at c r)) ≤ suc (length r)
    go true h = omega arith
    go false h = omega arith

-- the first line, and the lines past it
pub lines_next : (l : List ℕ) (n : ℕ) → Found 10 l n → n < length l → lines l ≡ take n l ∷ lines (drop (n + 1) l)
lines_next l n f h = rw (add-one, f.is) (parts_cut 10 [] l (subst (λ (m : ℕ). m < length l) f.is h))

-- no more lines than bytes
onto_few : (b : ℕ) (ps : List (List ℕ)) → length (onto b ps) ≤ suc (length ps)
unfolding onto
onto_few b [] = omega arith
onto_few b (p ∷ ps) = omega arith

part_few : (b : ℕ) (ps : List (List ℕ)) (n : ℕ) (t : Bool) → length ps ≤ n → length (pick t ([] ∷ ps) (onto b ps)) ≤ suc n
part_few b ps n true h = omega arith
part_few b ps n false h = omega (arith, onto_few b ps)

pub lines_few : (l : List ℕ) → length (lines l) ≤ length l
unfolding parts
lines_few [] = omega arith
lines_few (b ∷ l) = part_few b (parts 10 [] l) (length l) (eqb b 10) (lines_few l)
