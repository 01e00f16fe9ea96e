-- What an exported call answers, from the entry point's result.
use mathlib.Core.Bool.{Bool}
use mathlib.Core.List.{List}
use mathlib.Core.Path.{◌≡◌, ap, ◌∙◌}
use Prim.Native.Nat.{ℕ, ◌+◌, ◌*◌, ◌/◌, ◌%◌, ◌≤◌, ◌<◌}
use native.Mathlib.Omega.{arith}
use native.Mathlib.Nat.{add-mul-mod_self_left, mod-eq_of_lt, add-mul-div_left, div-eq_of_lt}
use lib.Seq.{sets}
use Rattle.std.specs.Prelude.{Result, Ok, Err}
use Rattle.std.specs.Prelude.{Option as Opt}
use Rattle.result.specs.Result.{given}
use Rattle.result.specs.Refusal.{number_of, told as result_of}
use Rattle.result.specs.declared.Refusal.{Refusal}
use Rattle.book.specs.Book.{book_result}
use Rattle.reader.specs.BookTables.{BookTables, SlotTables, read_into}
use Rattle.book.specs.Answer as Reading
use Rattle.reader.specs.Answer.{Reads}
use Rattle.reader.specs.Steps as Steps
use Rattle.reader.specs.Steps.{next_step}
use Rattle.book.specs.declared.check.Read.{Read}
use Rattle.reader.specs.declared.steps.StepLine.{StepLine}
use Rattle.book.specs.declared.check.Refused.{Refused}
use Rattle.reader.proofs.Answers.{refused_inv, refused_small}
use Rattle.compiler.specs.Compiled as Compiling
use Rattle.compiler.specs.Compiled.{compile_call}
use Rattle.node_step.specs.Memory.{Memory}
use Rattle.lent.specs.Lent as Lent
use Rattle.lent.specs.Lent.{LentMonitor}
use Rattle.stepping.specs.Call as Stepping
use Rattle.stepping.specs.Call.{step_call}
use Rattle.stepping.specs.Fresh.{FreshAnswers}
use Rattle.runs.specs.Run.{run_call}
use Rattle.saving.specs.Save.{SaveAnswers, save_call}
use Rattle.saving.specs.Restore.{RestoreAnswers, restore_call}
use Rattle.listing.specs.Lists as Lists
use Rattle.listing.specs.Lists.{list_call}
use Rattle.cavewatch_c.specs.Numbers.{Told, told, book_told, line_told, count_told, made_told, step_told, run_told}
use Rattle.cavewatch_c.specs.Said.{SaysTold, told_by, SmallLine}
use Rattle.cavewatch_c.specs.declared.tell.Said.{Said}
use Rattle.cavewatch_c.specs.Calls.{ReadBook, NextStep, CompileRule, Fresh, Step, Run, Save, Restore, ListBook}

-- ---- what is said of an answer is said of the result that it is
module _ (x : Said) (found : List ℕ) (r : ℕ) (found' : List ℕ) (s : SaysTold (told_by x) found r found') where
  says : {A : Type 0} (f : A → Told) (a b : A) → a ≡ b → told_by x ≡ f a → SaysTold (f b) found r found'
  says f a b e o = record {
    number_is = s.number_is ∙ ap (λ (y : Told). y.number) (o ∙ ap f e);
    found_is = s.found_is ∙ ap (λ (y : Told). sets found 0 y.numbers) (o ∙ ap f e);
  }

  pub read_told : (text : List ℕ) (t : BookTables) (u : SlotTables) (a : Result Read Refused) (t' : BookTables) (u' : SlotTables)
      → Reads text t u a t' u'
      → told_by x ≡ book_told (Reading.result_of a)
      → ReadBook text t u found r t' u' found'
  read_told text t u a t' u' d o = record {
    says = says book_told (Reading.result_of a) (book_result (read_into text t u)) d.answer o;
    tables = d.tables;
    slots = d.slots;
  }

  pub line_told_lem : (text : List ℕ) (at : ℕ) (l : Opt StepLine)
      → Steps.result_of l ≡ given (next_step text at)
      → told_by x ≡ told line_told (Steps.result_of l)
      → NextStep text at found r found'
  line_told_lem text at l d o = says (told line_told) (Steps.result_of l) (given (next_step text at)) d o

  pub compile_told : (ops nums : List ℕ) (first count : ℕ) (out : List ℕ) (a : Result ℕ Refusal) (out' : List ℕ)
      → Compiling.Answers (compile_call ops nums first count out) a out'
      → told_by x ≡ told count_told (result_of a)
      → CompileRule ops nums first count out found r out' found'
  compile_told ops nums first count out a out' d o = record {
    says = says (told count_told) (result_of a) (compile_call ops nums first count out).answer d.answers o;
    nodes = d.leaves;
  }

  pub run_told_lem : (t : Lent.LentTables) (k : LentMonitor) (s : ℕ) (words : List ℕ) (v : Result (Opt ℕ) Refusal) (mem' : Memory)
      → Stepping.Answers (run_call t k s words) v mem'
      → told_by x ≡ told run_told (result_of v)
      → Run t k s words found r mem' found'
  run_told_lem t k s words v mem' d o = record {
    says = says (told run_told) (result_of v) (result_of (run_call t k s words).answer) (ap result_of d.answers) o;
    memory = d.leaves;
  }

  pub save_told : (t : Lent.LentTables) (k : LentMonitor) (bytes : List ℕ) (a : Result ℕ Refusal) (bytes' : List ℕ)
      → SaveAnswers (save_call t k bytes) a bytes'
      → told_by x ≡ told count_told (result_of a)
      → Save t k bytes found r bytes' found'
  save_told t k bytes a bytes' d o = record {
    says = says (told count_told) (result_of a) (result_of (save_call t k bytes).answer) (ap result_of d.answers) o;
    bytes_are = d.leaves;
  }

  pub list_told : (text out : List ℕ) (a : Result ℕ Refusal) (out' : List ℕ)
      → Lists.Answers (list_call text out) a out'
      → told_by x ≡ told count_told (result_of a)
      → ListBook text out found r out' found'
  list_told text out a out' d o = record {
    says = says (told count_told) (result_of a) (list_call text out).answer d.answers o;
    text_is = d.leaves;
  }

-- ---- the calls that answer a number alone
module _ (t : Lent.LentTables) (r : ℕ) where
  pub fresh_told : (forms bounds : List ℕ) (mem : Memory) (o : Result ℕ Refusal) (forms' bounds' : List ℕ) (mem' : Memory)
      → FreshAnswers t forms bounds mem o forms' bounds' mem'
      → r ≡ (told made_told (result_of o)).number
      → Fresh t forms bounds mem r forms' bounds' mem'
  fresh_told forms bounds mem o forms' bounds' mem' d e = record {
    number = e ∙ ap (λ (x : Result ℕ Refusal). (told made_told (result_of x)).number) d.answers;
    forms_are = d.forms_are;
    bounds_are = d.bounds_are;
    memory_is = d.memory_is;
  }

  pub restore_told : (forms bounds : List ℕ) (mem : Memory) (bytes : List ℕ) (o : Result ℕ Refusal) (forms' bounds' : List ℕ) (mem' : Memory)
      → RestoreAnswers (restore_call t forms bounds mem bytes) o forms' bounds' mem'
      → r ≡ (told made_told (result_of o)).number
      → Restore t forms bounds mem bytes r forms' bounds' mem'
  restore_told forms bounds mem bytes o forms' bounds' mem' d e = record {
    number = e ∙ ap (λ (x : Result ℕ Refusal). (told made_told (result_of x)).number) d.answers;
    forms_are = d.forms_are;
    bounds_are = d.bounds_are;
    memory_is = d.memory_is;
  }

  pub step_told_lem : (k : LentMonitor) (s w : ℕ) (v : Result Bool Refusal) (mem' : Memory)
      → Stepping.Answers (step_call t k s w) v mem'
      → r ≡ (told step_told (result_of v)).number
      → Step t k s w r mem'
  step_told_lem k s w v mem' d e = record {
    number = e ∙ ap (λ (x : Result Bool Refusal). (told step_told (result_of x)).number) d.answers;
    memory = d.leaves;
  }

-- ---- a refused book's number
pub read_small : (text : List ℕ) (t : BookTables) (u : SlotTables) (a : Result Read Refused) (t' : BookTables) (u' : SlotTables) → Reads text t u a t' u' → SmallLine a
read_small text t u (Ok a) t' u' d = tt
read_small text t u (Err e) t' u' d =
    let s = refused_small text t u (number_of e.refusal) e.line (refused_inv text t u t' u' e d).0 in
    (s.number, s.line)

-- from the number of a refused book C has document 01's number and the line again
pub unpacked : (n k : ℕ) → n ≤ 25 → ((n + 256 * k) % 256 ≡ n) × ((n + 256 * k) / 256 ≡ k)
unpacked n k h =
    let low : n < 256 = omega arith in
    let none : n / 256 ≡ 0 = div-eq_of_lt low in
    (add-mul-mod_self_left n 256 k ∙ mod-eq_of_lt low, add-mul-div_left n k (omega arith) ∙ omega arith)
