-- Runs of stores: two runs, one behind the other, are one; what the code's stores leave.
use mathlib.Core.Path.{◌≡◌, refl, sym, ap, ◌∙◌}
use mathlib.Core.List.{List, [], ◌∷◌, ◌++◌}
use Prim.Native.Nat.{ℕ, suc, ◌+◌, ◌≤◌}
use native.Mathlib.Nat.{add-zero, add-suc, suc-add}
use lib.ListN.{length, set, take, drop}
use lib.Seq.{sets, sets-eq, length-sets, take-length}
use borrow.Rule.Slice.PartMut.{put_mid}
use Rattle.std.proofs.lemmas.Slice.{put_mid-paste}

pub sets_append : (xs ys l : List ℕ) (i : ℕ) → sets (sets l i xs) (i + length xs) ys ≡ sets l i (xs ++ ys)
sets_append [] ys l i = ap (λ (n : ℕ). sets l n ys) (add-zero i)
sets_append (x ∷ xs) ys l i =
    ap (λ (n : ℕ). sets (sets (set l i x) (suc i) xs) n ys) (add-suc i (length xs) ∙ sym (suc-add i (length xs)))
    ∙ sets_append xs ys (set l i x) (suc i)

-- the second run begins at j, where the first ends
pub sets_then : (l l₁ l₂ xs ys : List ℕ) (i j : ℕ) → l₁ ≡ sets l i xs → l₂ ≡ sets l₁ j ys → j ≡ i + length xs → l₂ ≡ sets l i (xs ++ ys)
sets_then l l₁ l₂ xs ys i j p q e =
    q ∙ ap (λ (m : List ℕ). sets m j ys) p ∙ ap (λ (n : ℕ). sets (sets l i xs) n ys) e ∙ sets_append xs ys l i

pub same_length : (l l₁ xs : List ℕ) (i : ℕ) → l₁ ≡ sets l i xs → length l₁ ≡ length l
same_length l l₁ xs i p = ap length p ∙ length-sets l i xs

-- a part of a list in which a run was put is the list with the run stored there
pub put_sets : (l ws vs : List ℕ) (a k : ℕ) → ws ≡ vs → k ≡ length vs → a + length vs ≤ length l → put_mid a k l ws ≡ sets l a vs
put_sets l ws vs a k e h b =
    put_mid-paste a k l ws vs (length vs) e (sym h) refl
    ∙ ap (λ (x : List ℕ). take a l ++ x ++ drop (a + length vs) l) (take-length vs)
    ∙ sym (sets-eq vs l a b)
