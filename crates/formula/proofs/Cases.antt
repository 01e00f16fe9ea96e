-- Cases on a number or a truth value.
use mathlib.Core.Path.{◌≡◌, refl}
use mathlib.Core.Bool.{Bool, true, false}
use mathlib.Core.Logic.{◌⊎◌, inl, inr}
use Prim.Native.Nat.{ℕ, ◌≤◌, ◌<◌}
use native.Mathlib.Omega.{arith}
use lib.Dec.{ltb}
use borrow.Author.Tests.{ltb-true, ltb-false}

pub below_or : (a b : ℕ) → (a < b) ⊎ (b ≤ a)
below_or a b = go (ltb a b) refl
  where
    go : (t : Bool) → ltb a b ≡ t → (a < b) ⊎ (b ≤ a)
    go true e = inl (ltb-true a b e)
    go false e = inr (ltb-false a b e)

pub true_or : (t : Bool) → (t ≡ true) ⊎ (t ≡ false)
true_or true = inl refl
true_or false = inr refl

pub true_false : {t : Bool} {B : Type 0} → t ≡ true → t ≡ false → B
true_false p q = let z : ◌≡◌ {A = ℕ} 0 1 = cc in absurd (omega arith)
