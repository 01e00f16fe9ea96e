-- Document 01, "Nodes and alarms", last part: temporal logic over an endless record.
--     Holds f rec t   the formula is true at step t
--     Fails f rec t   it is false there, by its clause turned round
-- `eventually` and `until`, which document 01 leaves out, have their usual clauses.
use Rattle.std.specs.Prelude.{true, false, ◌⊎◌, ◌≡◌, ℕ, ◌+◌, ◌≤◌, ◌<◌}
use Rattle.formula.specs.Tree.{leaf, one, two}
use Rattle.formula.specs.Formula.{Formula, signal, not, next, always, eventually, always_for, within, and, or, implies, until}
use Rattle.formula.specs.Pure.{bit}
use Rattle.meaning.specs.Alarm.{Record, window_end}

unfoldable mutual
  pub Holds : Formula → Record → ℕ → Type 0
  Holds (leaf a) rec t = bit (signal a) (rec t) ≡ true
  Holds (one not f) rec t = Fails f rec t
  Holds (one next f) rec t = Holds f rec (t + 1)
  Holds (one always f) rec t = (u : ℕ) → t ≤ u → Holds f rec u
  Holds (one eventually f) rec t = (u : ℕ) × (t ≤ u) × Holds f rec u
  Holds (one (always_for b) f) rec t = (u : ℕ) → t ≤ u → u < t + b → Holds f rec u
  Holds (one (within b) f) rec t = (u : ℕ) × (t ≤ u) × (u ≤ window_end b t) × Holds f rec u
  Holds (two and l r) rec t = Holds l rec t × Holds r rec t
  Holds (two or l r) rec t = Holds l rec t ⊎ Holds r rec t
  Holds (two implies l r) rec t = Fails l rec t ⊎ Holds r rec t
  Holds (two until l r) rec t = (u : ℕ) × (t ≤ u) × Holds r rec u × ((v : ℕ) → t ≤ v → v < u → Holds l rec v)

  pub Fails : Formula → Record → ℕ → Type 0
  Fails (leaf a) rec t = bit (signal a) (rec t) ≡ false
  Fails (one not f) rec t = Holds f rec t
  Fails (one next f) rec t = Fails f rec (t + 1)
  Fails (one always f) rec t = (u : ℕ) × (t ≤ u) × Fails f rec u
  Fails (one eventually f) rec t = (u : ℕ) → t ≤ u → Fails f rec u
  Fails (one (always_for b) f) rec t = (u : ℕ) × (t ≤ u) × (u < t + b) × Fails f rec u
  Fails (one (within b) f) rec t = (u : ℕ) → t ≤ u → u ≤ window_end b t → Fails f rec u
  Fails (two and l r) rec t = Fails l rec t ⊎ Fails r rec t
  Fails (two or l r) rec t = Fails l rec t × Fails r rec t
  Fails (two implies l r) rec t = Holds l rec t × Fails r rec t
  Fails (two until l r) rec t = (u : ℕ) → t ≤ u → Fails r rec u ⊎ ((v : ℕ) × (t ≤ v) × (v < u) × Fails l rec v)
