-- Worked saves: a rule, the words of steps 0, 1 and on, the bytes that its monitor is then saved as, the words that follow once it was restored, and
-- the first report among those, with its culprit.
--     off_after    the bytes after some steps from fresh
--     on_again     the first report of the monitor that the bytes give, stepped on
-- No row stands here yet.
use Rattle.std.specs.Prelude.{true, false, List, [], ◌∷◌, ◌≡◌, ℕ, suc, ℤ, pos, length, replicate}
use Rattle.std.proofs.Math.Option.{Option}
use Rattle.monitor.specs.Mon.{Mon, count}
use Rattle.meaning.specs.Calls.{first_report}
use Rattle.meaning.specs.Culprit.{minus_one}
use Rattle.meaning.specs.State.{step}
use Rattle.node_step.specs.Memory.{Memory}
use Rattle.stepping.specs.Walk.{read_mon, write_mon}
use Rattle.bits.specs.Bits.{bit_in, packed}
use Rattle.kept.specs.Kept.{keeps, state_bits_of, spent, stored, entries_in, entered}

-- a fresh monitor's memory
abbrev pub fresh_memory : ℕ → Memory
fresh_memory n = record { held = replicate n false; remaining = replicate n 0; failed = replicate n false; culprits = replicate n minus_one }

-- the memory after a word for each of the steps s, s + 1 and on
unfoldable pub stepped_over : Mon → ℕ → List ℕ → Memory → Memory
stepped_over m s [] mem = mem
stepped_over m s (w ∷ ws) mem = stepped_over m (suc s) ws (write_mon m (step m (read_mon m mem 0) s w).state mem 0)

abbrev pub saved_bytes : Mon → Memory → List ℕ
saved_bytes m mem = packed (state_bits_of (keeps m) mem.held mem.remaining 0)

abbrev pub off_after : Mon → List ℕ → List ℕ
off_after m ws = saved_bytes m (stepped_over m 0 ws (fresh_memory (count m)))

-- into a memory that held something else
abbrev pub strange_memory : ℕ → Memory
strange_memory n = record { held = replicate n true; remaining = replicate n 7; failed = replicate n true; culprits = replicate n (pos 5) }

abbrev pub on_again : Mon → List ℕ → ℕ → List ℕ → Option (ℕ × ℤ)
on_again m bytes s ws = first_report m (read_mon m (entered (strange_memory (count m)) 0 (entries_in (keeps m) (bit_in bytes) 0)) 0) s ws

pub record Save : Type 0 where
  pub rule : Mon
  pub before : List ℕ
  pub bytes : List ℕ
  pub after : List ℕ
  pub report : Option (ℕ × ℤ)

pub record Right (r : Save) : Type 0 where
  pub unspent : spent (keeps r.rule) (stepped_over r.rule 0 r.before (fresh_memory (count r.rule))).failed ≡ false
  pub saves : off_after r.rule r.before ≡ r.bytes
  pub sound : stored (keeps r.rule) (bit_in r.bytes) ≡ true
  pub goes_on : on_again r.rule r.bytes (length r.before) r.after ≡ r.report

unfoldable pub AllRight : List Save → Type 0
AllRight [] = Unit {0}
AllRight (r ∷ rs) = Right r × AllRight rs
