-- Truth values.
use mathlib.Core.Path.{◌≡◌, refl}
use mathlib.Core.Bool.{Bool, true, false, ◌&&◌, ◌||◌}
use mathlib.Core.Bool as bool
use mathlib.Core.Logic.{◌⊎◌, inl, inr}
use Rattle.formula.proofs.Cases.{true_false}

pub and_true : (a b : Bool) → (a && b) ≡ true → (a ≡ true) × (b ≡ true)
and_true true b e = (refl, e)
and_true false b e = true_false e refl

pub true_and : {a b : Bool} → a ≡ true → b ≡ true → (a && b) ≡ true
true_and p q = rw (p, q) refl

pub or_true : (a b : Bool) → (a || b) ≡ true → (a ≡ true) ⊎ (b ≡ true)
or_true true b e = inl refl
or_true false b e = inr e

pub true_or_left : (a b : Bool) → a ≡ true → (a || b) ≡ true
true_or_left a b p = rw p refl

pub true_or_right : (a b : Bool) → b ≡ true → (a || b) ≡ true
true_or_right true b p = refl
true_or_right false b p = p

pub or_same : (a b : Bool) → (a || b) ≡ (a || (a || b))
or_same true b = refl
or_same false b = refl

pub false_not : {a : Bool} → a ≡ false → bool.not a ≡ true
false_not p = rw p refl

pub untrue : (a : Bool) → (a ≡ true → ⊥) → a ≡ false
untrue true h = absurd (h refl)
untrue false h = refl

pub and_false : (a b : Bool) → (a && b) ≡ false → (a ≡ false) ⊎ (b ≡ false)
and_false true b e = inr e
and_false false b e = inl refl

pub false_and : (a b : Bool) → (a ≡ false) ⊎ (b ≡ false) → (a && b) ≡ false
false_and a b (inl e) = rw e refl
false_and true b (inr e) = e
false_and false b (inr e) = refl

pub or_false : (a b : Bool) → (a || b) ≡ false → (a ≡ false) × (b ≡ false)
or_false true b e = true_false refl e
or_false false b e = (refl, e)

pub false_or : {a b : Bool} → a ≡ false → b ≡ false → (a || b) ≡ false
false_or p q = rw (p, q) refl

pub not_is_false : {a : Bool} → a ≡ true → bool.not a ≡ false
not_is_false p = rw p refl
