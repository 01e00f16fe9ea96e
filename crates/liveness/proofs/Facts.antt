-- What the split of a rule says, apart from any table.
--     none-exactly     `none` is the answer exactly for an assumption or a property without liveness
--     within_is_calm   `within` is no liveness of its own
--     numbered         the obligations of a skeleton are 0, 1, 2 and on, left to right
use mathlib.Core.Path.{◌≡◌, refl, sym, ap, ap₂, ◌∙◌}
use mathlib.Core.Bool.{Bool, true, false}
use mathlib.Core.List.{List, [], ◌∷◌, ◌++◌}
use mathlib.Core.Logic.{◌⊎◌, inl, inr}
use Prim.Native.Nat.{ℕ, zero, suc, ◌+◌}
use native.Mathlib.Omega.{arith}
use native.Mathlib.Nat.{add-zero, zero-add, suc-add}
use lib.ListN.{length, length-append}
use Rattle.result.specs.declared.Refusal.{Refusal}
use Rattle.formula.specs.Tree.{leaf, one, two, size}
use Rattle.formula.specs.Formula.{Formula, not, next, always, eventually, always_for, within, and, or, implies, until}
use Rattle.liveness.specs.Split.{live, faults, Obligation, Skeleton, safety, owed, Not, And, Or, Implies, skeleton_of, obligations_of, owes, none, parts, first_or, property, split_of}
use Rattle.formula.proofs.Faults.{append_nil_inv}
use Rattle.liveness.proofs.Words.{temporal_some}

-- ---- when there is no split to ask for
some_answer : (xs : List Refusal) (s : Skeleton) (os : List Obligation) {B : Type 0} → first_or xs (parts s os) ≡ none → B
some_answer [] s os e = let z : ◌≡◌ {A = ℕ} 0 1 = cc in absurd (omega arith)
some_answer (x ∷ xs) s os e = let z : ◌≡◌ {A = ℕ} 0 1 = cc in absurd (omega arith)

by_life : (b : Bool) (f : Formula) (i : ℕ) → property b f i ≡ none → b ≡ false
by_life true f i e = some_answer (faults f) _ _ e
by_life false f i e = refl

pub none_only : (a : Bool) (f : Formula) (i : ℕ) → split_of a f i ≡ none → (a ≡ true) ⊎ (live f ≡ false)
none_only true f i e = inl refl
none_only false f i e = inr (by_life (live f) f i e)

pub none_assumption : (f : Formula) (i : ℕ) → split_of true f i ≡ none
none_assumption f i = refl

pub none_calm : (f : Formula) (i : ℕ) → live f ≡ false → split_of false f i ≡ none
none_calm f i e = ap (λ (b : Bool). property b f i) e

pub within_is_calm : (b : ℕ) (f : Formula) → live (one (within b) f) ≡ live f
unfolding live
within_is_calm b f = refl

-- ---- the numbers of the obligations, left to right
unfoldable pub numbers : Skeleton → List ℕ
numbers (safety i a) = []
numbers (owed k) = k ∷ []
numbers (Not s) = numbers s
numbers (And s t) = numbers s ++ numbers t
numbers (Or s t) = numbers s ++ numbers t
numbers (Implies s t) = numbers s ++ numbers t

-- n numbers from k on
unfoldable pub counting : ℕ → ℕ → List ℕ
counting k zero = []
counting k (suc n) = k ∷ counting (k + 1) n

counting_add : (k m n : ℕ) → counting k (m + n) ≡ counting k m ++ counting (k + m) n
unfolding counting
counting_add k zero n = rw (zero-add, add-zero) refl
counting_add k (suc m) n = rw suc-add (ap (k ∷◌) (counting_add (k + 1) m n ∙ ap (λ (j : ℕ). counting (k + 1) m ++ counting j n) (omega arith)))

both : (l r : Formula) (i k : ℕ) → numbers (skeleton_of l (i + 1) k) ≡ counting k (owes l (i + 1))
    → numbers (skeleton_of r (i + 1 + size l) (k + owes l (i + 1))) ≡ counting (k + owes l (i + 1)) (owes r (i + 1 + size l))
    → numbers (skeleton_of l (i + 1) k) ++ numbers (skeleton_of r (i + 1 + size l) (k + owes l (i + 1))) ≡ counting k (length (obligations_of l (i + 1) ++ obligations_of r (i + 1 + size l)))
both l r i k e f = ap₂ ◌++◌ e f ∙ sym (ap (counting k) (length-append (obligations_of l (i + 1)) (obligations_of r (i + 1 + size l))) ∙ counting_add k (owes l (i + 1)) (owes r (i + 1 + size l)))

pub numbered : (f : Formula) (i k : ℕ) → faults f ≡ [] → numbers (skeleton_of f i k) ≡ counting k (owes f i)
unfolding numbers counting skeleton_of obligations_of faults
numbered (leaf a) i k e = refl
numbered (one not f) i k e = numbered f (i + 1) k e
numbered (one next f) i k e = temporal_some (live f) e
numbered (one always f) i k e = temporal_some (live f) e
numbered (one eventually f) i k e = refl
numbered (one (always_for b) f) i k e = temporal_some (live f) e
numbered (one (within b) f) i k e = temporal_some (live f) e
numbered (two and l r) i k e = both l r i k (numbered l (i + 1) k (append_nil_inv (faults l) (faults r) e).0) (numbered r (i + 1 + size l) (k + owes l (i + 1)) (append_nil_inv (faults l) (faults r) e).1)
numbered (two or l r) i k e = both l r i k (numbered l (i + 1) k (append_nil_inv (faults l) (faults r) e).0) (numbered r (i + 1 + size l) (k + owes l (i + 1)) (append_nil_inv (faults l) (faults r) e).1)
numbered (two implies l r) i k e = both l r i k (numbered l (i + 1) k (append_nil_inv (faults l) (faults r) e).0) (numbered r (i + 1 + size l) (k + owes l (i + 1)) (append_nil_inv (faults l) (faults r) e).1)
numbered (two until l r) i k e = refl
