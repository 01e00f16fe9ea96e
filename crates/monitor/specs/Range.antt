-- Document 01: a range starts as 0 to open; its end is either a step or open; `next` adds one to both ends.
use Rattle.std.specs.Prelude.{Bool, true, ◌&&◌, ℕ, ◌+◌, ◌<◌, ◌^◌, leb}
use Rattle.monitor.specs.declared.range.End.{End}
use Rattle.monitor.specs.declared.range.End.TheVariants.{Step, Open}
use Rattle.monitor.specs.declared.range.AnchorRange.{AnchorRange}

abbrev pub all_of : AnchorRange
all_of = record { from = 0; to = Open }

abbrev pub upto_of : ℕ → AnchorRange
upto_of last = record { from = 0; to = Step last }

abbrev pub not_past : End → ℕ → Bool
not_past (Step t) s = leb s t
not_past Open s = true

-- step s lies in the range
abbrev pub contains_of : AnchorRange → ℕ → Bool
contains_of r s = leb r.from s && not_past r.to s

abbrev pub later : End → End
later (Step t) = Step (t + 1)
later Open = Open

abbrev pub shifted_of : AnchorRange → AnchorRange
shifted_of r = record { from = r.from + 1; to = later r.to }

-- one can be added to both ends within 64 bits
abbrev pub EndShiftable : End → Type 0
EndShiftable (Step t) = t + 1 < 2 ^ 64
EndShiftable Open = 0 < 1

pub record Shiftable (r : AnchorRange) : Type 0 where
  pub start : r.from + 1 < 2 ^ 64
  pub finish : EndShiftable r.to
