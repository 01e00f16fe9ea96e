-- Ranges.
use mathlib.Core.Path.{◌≡◌, sym, ap, ap₂, subst}
use mathlib.Core.Bool.{Bool, true, false, ◌&&◌}
use Prim.Native.Nat.{ℕ, ◌+◌, ◌≤◌, ◌<◌}
use lib.Dec.{leb}
use borrow.Author.Tests.{le-leb, lt-leb}
use mir.Syntax.{w64}
use mir.Val.{Fits}
use Rattle.monitor.specs.declared.range.End.{End}
use Rattle.monitor.specs.declared.range.End.TheVariants.{Step, Open}
use Rattle.monitor.specs.declared.range.AnchorRange.{AnchorRange}
use Rattle.monitor.specs.Range.{contains_of, not_past, shifted_of, later, EndShiftable, Shiftable}

module _ (r : AnchorRange) (s : ℕ) where
  pub contains_before : s < r.from → false ≡ contains_of r s
  contains_before h = sym (ap (λ (b : Bool). b && not_past r.to s) (lt-leb _ _ h))

  pub contains_step : (t : ℕ) → r.from ≤ s → r.to ≡ Step t → leb s t ≡ contains_of r s
  contains_step t h e = sym (ap₂ ◌&&◌ (le-leb _ _ h) (ap (λ (x : End). not_past x s) e))

  pub contains_open : r.from ≤ s → r.to ≡ Open → true ≡ contains_of r s
  contains_open h e = sym (ap₂ ◌&&◌ (le-leb _ _ h) (ap (λ (x : End). not_past x s) e))

module _ (r : AnchorRange) where
  pub shift_fits : (t : ℕ) → Shiftable r → r.to ≡ Step t → Fits w64 (t + 1)
  shift_fits t h e = record { fits = subst EndShiftable e h.finish }

  pub shift_step : (t : ℕ) → r.to ≡ Step t → ◌≡◌ {A = AnchorRange} (record { from = r.from + 1; to = Step (t + 1) }) (shifted_of r)
  shift_step t e = λ i. record { from = r.from + 1; to = sym (ap later e) i }

  pub shift_open : r.to ≡ Open → ◌≡◌ {A = AnchorRange} (record { from = r.from + 1; to = Open }) (shifted_of r)
  shift_open e = λ i. record { from = r.from + 1; to = sym (ap later e) i }
