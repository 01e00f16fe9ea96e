-- A test of every number below n: what it says of each, and that one failure is enough.
use mathlib.Core.Path.{◌≡◌, refl, sym, ap, ◌∙◌}
use mathlib.Core.Bool.{Bool, true, false, ◌&&◌}
use mathlib.Core.Logic.{⊎_elim}
use Prim.Native.Nat.{ℕ, zero, suc, ◌+◌, ◌<◌}
use native.Mathlib.Omega.{arith}
use native.Mathlib.Numerals.{add-one}
use Rattle.formula.proofs.Cases.{below_or}
use Rattle.formula.proofs.Walks.{both_true}
use Rattle.encoding.specs.Below.{all_below}

pub all_none : (ok : ℕ → Bool) → all_below ok 0 ≡ true
unfolding all_below
all_none ok = refl

pub all_more : (ok : ℕ → Bool) (r : ℕ) → all_below ok r ≡ true → ok r ≡ true → all_below ok (r + 1) ≡ true
unfolding all_below
all_more ok r a e = ap (all_below ok) (add-one r) ∙ ap (λ (b : Bool). b && ok r) a ∙ e

pub all_false : (ok : ℕ → Bool) (r n : ℕ) → r < n → ok r ≡ false → false ≡ all_below ok n
unfolding all_below
all_false ok r zero h e = absurd (omega arith)
all_false ok r (suc n) h e = ⊎_elim
    (λ l. ap (λ (b : Bool). b && ok n) (all_false ok r n l e))
    (λ l. let z : r ≡ n = omega arith in last (all_below ok n) (ok n) (sym (ap ok z) ∙ e))
    (below_or r n)
  where
    last : (a b : Bool) → b ≡ false → false ≡ (a && b)
    last true b p = sym p
    last false b p = refl

pub all_inv : (ok : ℕ → Bool) (n r : ℕ) → all_below ok n ≡ true → r < n → ok r ≡ true
unfolding all_below
all_inv ok zero r e h = absurd (omega arith)
all_inv ok (suc n) r e h = ⊎_elim
    (λ l. all_inv ok n r (both_true (all_below ok n) (ok n) e).0 l)
    (λ l. let z : r ≡ n = omega arith in ap ok z ∙ (both_true (all_below ok n) (ok n) e).1)
    (below_or r n)

pub all_from : (ok : ℕ → Bool) (n : ℕ) → ((r : ℕ) → r < n → ok r ≡ true) → all_below ok n ≡ true
unfolding all_below
all_from ok zero h = refl
all_from ok (suc n) h = ap (λ (b : Bool). b && ok n) (all_from ok n (λ r l. h r (omega arith))) ∙ h n (omega arith)
