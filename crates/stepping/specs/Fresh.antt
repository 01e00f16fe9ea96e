-- A fresh monitor as one total function from what is lent to its answer and the monitor afterwards.
use Rattle.std.specs.Prelude.{Bool, true, false, List, [], ◌∷◌, ◌≡◌, ℕ, zero, suc, ◌+◌, ◌*◌, get_or, replicate, Result, Ok, Err}
use Rattle.std.proofs.Math.Option.{Option, none, some}
use Rattle.std.proofs.lemmas.List.Edits.{sets}
use Rattle.terms.specs.Limits.{row_cells}
use Rattle.result.specs.declared.Refusal.{Refusal}
use Rattle.result.specs.declared.Refusal.TheVariants.{Short, Unfit}
use Rattle.monitor.specs.Mon.{Mon}
use Rattle.meaning.specs.Culprit.{minus_one}
use Rattle.node_step.specs.Memory.{Memory}
use Rattle.lent.specs.Lent.{LentTables, LentMonitor, monitor_of, lent_of, rule_mon}

-- the numbers in one column of n rows
unfoldable pub column : List ℕ → ℕ → ℕ → ℕ → List ℕ
column nodes col i zero = []
column nodes col i (suc n) = get_or nodes (row_cells * i + col) 0 ∷ column nodes col (i + 1) n

-- the first n entries hold nothing pending, failed or remembered, and culprits of minus 1
abbrev pub cleared : Memory → ℕ → Memory
cleared mem n = record {
  held = sets mem.held 0 (replicate n false);
  remaining = sets mem.remaining 0 (replicate n 0);
  failed = sets mem.failed 0 (replicate n false);
  culprits = sets mem.culprits 0 (replicate n minus_one);
}

-- the monitor that is made: its nodes' forms and bounds, and cleared entries; entries past its own keep what they held
abbrev pub fresh_of : LentTables → LentMonitor → LentMonitor
fresh_of t k = record {
  size = t.ncount;
  forms = sets k.forms 0 (column t.nodes 0 t.nfirst t.ncount);
  bounds = sets k.bounds 0 (column t.nodes 1 t.nfirst t.ncount);
  memory = cleared k.memory t.ncount;
}

-- the answer, the count of the nodes that a monitor was made for or the refusal, and the monitor afterwards
pub record Making : Type 0 where
  pub answer : Result ℕ Refusal
  pub forms : List ℕ
  pub bounds : List ℕ
  pub memory : Memory

abbrev pub refuse : Refusal → List ℕ → List ℕ → Memory → Making
refuse r forms bounds mem = record { answer = Err r; forms = forms; bounds = bounds; memory = mem }

abbrev pub make_mon : Option Mon → LentTables → List ℕ → List ℕ → Memory → Making
make_mon none t forms bounds mem = refuse Unfit forms bounds mem
make_mon (some m) t forms bounds mem =
    let k = fresh_of t (monitor_of 0 forms bounds mem) in
    record { answer = Ok t.ncount; forms = k.forms; bounds = k.bounds; memory = k.memory }

abbrev pub or_short : Bool → List ℕ → List ℕ → Memory → Making → Making
or_short true forms bounds mem c = c
or_short false forms bounds mem c = refuse Short forms bounds mem

-- document 01's answer to making a monitor, for whatever is lent: 1, then 2, else the fresh monitor
unfoldable pub fresh_call : LentTables → List ℕ → List ℕ → Memory → Making
fresh_call t forms bounds mem =
    or_short (lent_of t.ops t.nums t.nodes forms bounds mem) forms bounds mem (make_mon (rule_mon t) t forms bounds mem)

-- what it answers and leaves
pub record FreshAnswers (t : LentTables) (forms bounds : List ℕ) (mem : Memory) (r : Result ℕ Refusal) (forms' bounds' : List ℕ) (mem' : Memory) : Type 0 where
  pub answers : r ≡ (fresh_call t forms bounds mem).answer
  pub forms_are : forms' ≡ (fresh_call t forms bounds mem).forms
  pub bounds_are : bounds' ≡ (fresh_call t forms bounds mem).bounds
  pub memory_is : mem' ≡ (fresh_call t forms bounds mem).memory

-- ---- parts
pub record Makes (nodes : List ℕ) (nfirst ncount : ℕ) (forms bounds : List ℕ) (mem : Memory) (forms' bounds' : List ℕ) (mem' : Memory) : Type 0 where
  pub forms_are : forms' ≡ sets forms 0 (column nodes 0 nfirst ncount)
  pub bounds_are : bounds' ≡ sets bounds 0 (column nodes 1 nfirst ncount)
  pub memory_is : mem' ≡ cleared mem ncount
