-- Document 01, "Nodes and alarms": plain rules, those whose alarms are exactly what temporal logic says.
use Rattle.std.specs.Prelude.{Bool, true, false, ◌≡◌, ℕ, ◌≤◌}
use Rattle.formula.specs.Tree.{one, two}
use Rattle.formula.specs.Formula.{Formula, next, always, always_for, within, and, implies}
use Rattle.formula.specs.Pure.{pure}

-- S: a pure formula
abbrev pub Pure : Formula → Type 0
Pure f = pure f ≡ true

-- B: what may stand below `always` and `always-for`; `unbounded`: no `always-for` is above
pub data Body (unbounded : Bool) : Formula → Type 0 where
  signal : {f : Formula} → Pure f → Body unbounded f
  next_signal : {f : Formula} → Pure f → Body unbounded (one next f)
  delayed : {l f : Formula} → Pure l → Pure f → Body unbounded (two implies l (one next f))
  soon : {b : ℕ} {f : Formula} → Pure f → Body unbounded (one (within b) f)
  answered : {b : ℕ} {l f : Formula} → Pure l → Pure f → Body unbounded (two implies l (one (within b) f))
  both : {l r : Formula} → Body unbounded l → Body unbounded r → Body unbounded (two and l r)
  again : {f : Formula} → unbounded ≡ true → Body unbounded f → Body unbounded (one always f)

pub data Plain : Formula → Type 0 where
  plain_always : {f : Formula} → Body true f → Plain (one always f)
  plain_always_for : {b : ℕ} {f : Formula} → 1 ≤ b → Body false f → Plain (one (always_for b) f)
  plain_within : {b : ℕ} {f : Formula} → Pure f → Plain (one (within b) f)
  plain_answered : {b : ℕ} {l f : Formula} → Pure l → Pure f → Plain (two implies l (one (within b) f))
  plain_and : {l r : Formula} → Plain l → Plain r → Plain (two and l r)
