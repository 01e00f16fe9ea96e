-- Restoring as one total function from what is lent to the answer and the monitor afterwards.
--     restore_call       1, then 2, of tables; 1 of the bytes; 27; else a monitor with the state that the bits say. What the monitor held is not tested
--     RestoreAnswers    what the call answers and leaves is what such a function says
use Rattle.std.specs.Prelude.{Bool, true, false, List, ◌≡◌, ℕ, leb, length, Result, Ok}
use Rattle.std.proofs.Math.Option.{Option, none, some}
use Rattle.std.proofs.lemmas.List.Edits.{sets}
use Rattle.result.specs.declared.Refusal.{Refusal}
use Rattle.result.specs.declared.Refusal.TheVariants.{Short, Unfit, Unsaved}
use Rattle.monitor.specs.Mon.{Mon}
use Rattle.node_step.specs.Memory.{Memory}
use Rattle.lent.specs.Lent.{LentTables, lent_of, rule_mon, Spanned}
use Rattle.stepping.specs.Fresh.{Making, column, refuse}
use Rattle.bits.specs.Bits.{bit_in}
use Rattle.kept.specs.declared.Keep.{Keep}
use Rattle.kept.specs.Kept.{keeps, kept_bytes, entries_in, stored, entered, BitsPart}

abbrev pub or_refuse : Bool → Refusal → List ℕ → List ℕ → Memory → Making → Making
or_refuse true r forms bounds mem c = c
or_refuse false r forms bounds mem c = refuse r forms bounds mem

-- forms and bounds as a fresh monitor has them, and the entries that the bits say; entries past the rule's stay
abbrev pub restored : List Keep → List ℕ → ℕ → ℕ → List ℕ → List ℕ → Memory → List ℕ → Making
restored xs nodes nfirst n forms bounds mem bytes = record {
  answer = Ok n;
  forms = sets forms 0 (column nodes 0 nfirst n);
  bounds = sets bounds 0 (column nodes 1 nfirst n);
  memory = entered mem 0 (entries_in xs (bit_in bytes) 0);
}

abbrev pub restore_kept : List Keep → List ℕ → ℕ → ℕ → List ℕ → List ℕ → Memory → List ℕ → Making
restore_kept xs nodes nfirst n forms bounds mem bytes =
    or_refuse (leb (kept_bytes xs) (length bytes)) Short forms bounds mem
    (or_refuse (stored xs (bit_in bytes)) Unsaved forms bounds mem (restored xs nodes nfirst n forms bounds mem bytes))

abbrev pub restore_mon : Option Mon → LentTables → List ℕ → List ℕ → Memory → List ℕ → Making
restore_mon none t forms bounds mem bytes = refuse Unfit forms bounds mem
restore_mon (some m) t forms bounds mem bytes = restore_kept (keeps m) t.nodes t.nfirst t.ncount forms bounds mem bytes

unfoldable pub restore_call : LentTables → List ℕ → List ℕ → Memory → List ℕ → Making
restore_call t forms bounds mem bytes =
    or_refuse (lent_of t.ops t.nums t.nodes forms bounds mem) Short forms bounds mem (restore_mon (rule_mon t) t forms bounds mem bytes)

pub record RestoreAnswers (c : Making) (r : Result ℕ Refusal) (forms' bounds' : List ℕ) (mem' : Memory) : Type 0 where
  pub answers : r ≡ c.answer
  pub forms_are : forms' ≡ c.forms
  pub bounds_are : bounds' ≡ c.bounds
  pub memory_is : mem' ≡ c.memory

-- ---- parts: n rows of a node table, with room for an entry for each
pub record Restorable (nodes : List ℕ) (nfirst n : ℕ) (forms bounds : List ℕ) (mem : Memory) : Type 0 where
  pub part : BitsPart nodes nfirst n
  pub spans : Spanned nodes nfirst forms bounds mem n
