-- Saving as one total function from what is lent to the answer and the bytes afterwards.
--     save_call       1, then 2, of tables and monitor; 1 of the bytes; 26; else the state in bits
--     SaveAnswers    what the call answers and leaves is what such a function says
use Rattle.std.specs.Prelude.{Bool, true, false, List, ◌≡◌, ℕ, ◌≤◌, leb, length, Result, Ok, Err}
use Rattle.std.proofs.Math.Bool as bool
use Rattle.std.proofs.Math.Option.{Option, none, some}
use Rattle.std.proofs.lemmas.List.Edits.{sets}
use Rattle.result.specs.declared.Refusal.{Refusal}
use Rattle.result.specs.declared.Refusal.TheVariants.{Short, Unfit, Failed}
use Rattle.monitor.specs.Mon.{Mon}
use Rattle.lent.specs.Lent.{LentTables, LentMonitor, is_lent, rule_mon, fits}
use Rattle.bits.specs.Bits.{packed}
use Rattle.kept.specs.declared.Keep.{Keep}
use Rattle.kept.specs.Kept.{keeps, kept_bytes, state_bits_of, spent, BitsPart}

-- the answer, the count of the bytes that hold the state or the refusal, and the bytes afterwards
pub record Saving : Type 0 where
  pub answer : Result ℕ Refusal
  pub bytes : List ℕ

abbrev pub refuse : Refusal → List ℕ → Saving
refuse r bytes = record { answer = Err r; bytes = bytes }

abbrev pub or_refuse : Bool → Refusal → List ℕ → Saving → Saving
or_refuse true r bytes c = c
or_refuse false r bytes c = refuse r bytes

-- the bytes that are needed hold the bits, the others stay
abbrev pub written : List Keep → List Bool → List ℕ → List ℕ → Saving
written xs held remaining bytes = record { answer = Ok (kept_bytes xs); bytes = sets bytes 0 (packed (state_bits_of xs held remaining 0)) }

abbrev pub save_kept : List Keep → List Bool → List ℕ → List Bool → List ℕ → Saving
save_kept xs held remaining failed bytes =
    or_refuse (leb (kept_bytes xs) (length bytes)) Short bytes (or_refuse (bool.not (spent xs failed)) Failed bytes (written xs held remaining bytes))

abbrev pub save_mon : Option Mon → LentMonitor → List ℕ → Saving
save_mon none k bytes = refuse Unfit bytes
save_mon (some m) k bytes =
    or_refuse (fits m k) Unfit bytes (save_kept (keeps m) k.memory.held k.memory.remaining k.memory.failed bytes)

unfoldable pub save_call : LentTables → LentMonitor → List ℕ → Saving
save_call t k bytes = or_refuse (is_lent t k) Short bytes (save_mon (rule_mon t) k bytes)

pub record SaveAnswers (c : Saving) (r : Result ℕ Refusal) (bytes' : List ℕ) : Type 0 where
  pub answers : r ≡ c.answer
  pub leaves : bytes' ≡ c.bytes

-- ---- parts: n rows of a node table, with an entry for each
pub record Savable (nodes : List ℕ) (nfirst n : ℕ) (held : List Bool) (remaining : List ℕ) (failed : List Bool) : Type 0 where
  pub part : BitsPart nodes nfirst n
  pub some : 1 ≤ n
  pub in_held : n ≤ length held
  pub in_remaining : n ≤ length remaining
  pub in_failed : n ≤ length failed
