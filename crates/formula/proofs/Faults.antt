-- Lists of refusals in which none applies.
use mathlib.Core.Path.{◌≡◌, refl}
use mathlib.Core.Bool.{Bool, true, false}
use mathlib.Core.List.{List, [], ◌∷◌, ◌++◌}
use Prim.Native.Nat.{ℕ}
use native.Mathlib.Omega.{arith}
use Rattle.formula.specs.Pure.{unless}

pub cons_nil : {A : Type 0} {a : A} {xs : List A} {B : Type 0} → a ∷ xs ≡ [] → B
cons_nil e = let z : ◌≡◌ {A = ℕ} 0 1 = cc in absurd (omega arith)

pub append_nil_inv : {A : Type 0} (a b : List A) → a ++ b ≡ [] → (a ≡ []) × (b ≡ [])
append_nil_inv [] b e = (refl, e)
append_nil_inv (x ∷ a) b e = cons_nil e

pub unless_nil : {A : Type 0} (t : Bool) (n : A) → unless t n ≡ [] → t ≡ true
unless_nil true n h = refl
unless_nil false n h = cons_nil h
