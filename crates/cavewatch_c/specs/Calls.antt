-- What each exported call answers and leaves in what it was lent: the entry point's result, told as a number (`Numbers`), and the same memory.
use Rattle.std.specs.Prelude.{◌≡◌, List, ℕ}
use Rattle.result.specs.Result.{given}
use Rattle.result.specs.Refusal.{told as result_of}
use Rattle.book.specs.Book.{book_result}
use Rattle.reader.specs.BookTables.{BookTables, SlotTables, read_into, after, slots_after}
use Rattle.reader.specs.Steps.{next_step}
use Rattle.compiler.specs.Compiled.{compile_call}
use Rattle.node_step.specs.Memory.{Memory}
use Rattle.lent.specs.Lent as Lent
use Rattle.lent.specs.Lent.{LentMonitor}
use Rattle.stepping.specs.Call.{step_call}
use Rattle.stepping.specs.Fresh.{fresh_call}
use Rattle.runs.specs.Run.{run_call}
use Rattle.saving.specs.Save.{save_call}
use Rattle.saving.specs.Restore.{restore_call}
use Rattle.listing.specs.Lists.{list_call}
use Rattle.cavewatch_c.specs.Numbers.{told, book_told, line_told, count_told, made_told, step_told, run_told}
use Rattle.cavewatch_c.specs.Said.{SaysTold}

pub record ReadBook (text : List ℕ) (t : BookTables) (u : SlotTables) (found : List ℕ) (r : ℕ) (t' : BookTables) (u' : SlotTables) (found' : List ℕ) : Type 0 where
  pub says : SaysTold (book_told (book_result (read_into text t u))) found r found'
  pub tables : t' ≡ after (read_into text t u) t
  pub slots : u' ≡ slots_after (read_into text t u) u

abbrev pub NextStep : List ℕ → ℕ → List ℕ → ℕ → List ℕ → Type 0
NextStep text at found r found' = SaysTold (told line_told (given (next_step text at))) found r found'

pub record CompileRule (ops nums : List ℕ) (first count : ℕ) (out found : List ℕ) (r : ℕ) (out' found' : List ℕ) : Type 0 where
  pub says : SaysTold (told count_told (compile_call ops nums first count out).answer) found r found'
  pub nodes : out' ≡ (compile_call ops nums first count out).out

pub record Fresh (t : Lent.LentTables) (forms bounds : List ℕ) (mem : Memory) (r : ℕ) (forms' bounds' : List ℕ) (mem' : Memory) : Type 0 where
  pub number : r ≡ (told made_told (result_of (fresh_call t forms bounds mem).answer)).number
  pub forms_are : forms' ≡ (fresh_call t forms bounds mem).forms
  pub bounds_are : bounds' ≡ (fresh_call t forms bounds mem).bounds
  pub memory_is : mem' ≡ (fresh_call t forms bounds mem).memory

pub record Step (t : Lent.LentTables) (k : LentMonitor) (s w : ℕ) (r : ℕ) (mem' : Memory) : Type 0 where
  pub number : r ≡ (told step_told (result_of (step_call t k s w).answer)).number
  pub memory : mem' ≡ (step_call t k s w).memory

pub record Run (t : Lent.LentTables) (k : LentMonitor) (s : ℕ) (words found : List ℕ) (r : ℕ) (mem' : Memory) (found' : List ℕ) : Type 0 where
  pub says : SaysTold (told run_told (result_of (run_call t k s words).answer)) found r found'
  pub memory : mem' ≡ (run_call t k s words).memory

pub record Save (t : Lent.LentTables) (k : LentMonitor) (bytes found : List ℕ) (r : ℕ) (bytes' found' : List ℕ) : Type 0 where
  pub says : SaysTold (told count_told (result_of (save_call t k bytes).answer)) found r found'
  pub bytes_are : bytes' ≡ (save_call t k bytes).bytes

pub record Restore (t : Lent.LentTables) (forms bounds : List ℕ) (mem : Memory) (bytes : List ℕ) (r : ℕ) (forms' bounds' : List ℕ) (mem' : Memory) : Type 0 where
  pub number : r ≡ (told made_told (result_of (restore_call t forms bounds mem bytes).answer)).number
  pub forms_are : forms' ≡ (restore_call t forms bounds mem bytes).forms
  pub bounds_are : bounds' ≡ (restore_call t forms bounds mem bytes).bounds
  pub memory_is : mem' ≡ (restore_call t forms bounds mem bytes).memory

pub record ListBook (text out found : List ℕ) (r : ℕ) (out' found' : List ℕ) : Type 0 where
  pub says : SaysTold (told count_told (list_call text out).answer) found r found'
  pub text_is : out' ≡ (list_call text out).out
