-- What a call on a monitor is lent: its room (document 01, refusal 1), the rule that the tables hold, and a monitor that fits a rule
-- (refusal 2). Whether a monitor fits depends on the compiled rule, and not on the table that holds it.
--     HoldsRule    tables that a call on a monitor of rule m may be lent
--     Ready        a monitor that a call over such tables takes, below 2^63
--     refusal_of    1, then 2, of what a call on a monitor is lent; refusal_to_make of what a call is lent that makes one
use Rattle.std.specs.Prelude.{Bool, true, ◌&&◌, List, ◌≡◌, ℕ, ◌+◌, ◌*◌, ◌≤◌, eqb, leb, length}
use Rattle.std.specs.Prelude.{None, Option as Opt, Some}
use Rattle.std.proofs.Math.Option.{Option, none, some}
use Rattle.terms.specs.Choice.{pick}
use Rattle.terms.specs.Limits.{node_cells, row_cells, rule_nodes}
use Rattle.result.specs.declared.Refusal.{Refusal}
use Rattle.result.specs.declared.Refusal.TheVariants.{Short, Unfit}
use Rattle.formula.specs.Table.{roomy}
use Rattle.monitor.specs.Mon.{Mon, count}
use Rattle.monitor.specs.Table.{compiled_of}
use Rattle.node_step.specs.Memory.{Memory, Inside}
use Rattle.lent.specs.Shape.{fits_mon, shaped_from}

-- the tables of a call: the formula table and the rule's part of it, the node table and the compiled rule's part of it
pub record LentTables : Type 0 where
  pub ops : List ℕ
  pub nums : List ℕ
  pub first : ℕ
  pub count : ℕ
  pub nodes : List ℕ
  pub nfirst : ℕ
  pub ncount : ℕ

abbrev pub tables : List ℕ → List ℕ → ℕ → ℕ → List ℕ → ℕ → ℕ → LentTables
tables ops nums first count nodes nfirst ncount = record {
  ops = ops;
  nums = nums;
  first = first;
  count = count;
  nodes = nodes;
  nfirst = nfirst;
  ncount = ncount;
}

-- a lent monitor: the count of its nodes, their forms and bounds, and their entries
pub record LentMonitor : Type 0 where
  pub size : ℕ
  pub forms : List ℕ
  pub bounds : List ℕ
  pub memory : Memory

abbrev pub monitor_of : ℕ → List ℕ → List ℕ → Memory → LentMonitor
monitor_of size forms bounds mem = record { size = size; forms = forms; bounds = bounds; memory = mem }

-- refusal 1: room for 1,024 formula nodes and for 256 monitor nodes
abbrev pub has_room : Memory → Bool
has_room mem =
    leb rule_nodes (length mem.held)
    && (leb rule_nodes (length mem.remaining) && (leb rule_nodes (length mem.failed) && leb rule_nodes (length mem.culprits)))

abbrev pub table_room : List ℕ → List ℕ → List ℕ → Bool
table_room ops nums nodes = leb node_cells (length nodes) && roomy ops nums

abbrev pub monitor_room : List ℕ → List ℕ → Memory → Bool
monitor_room forms bounds mem = leb rule_nodes (length forms) && (leb rule_nodes (length bounds) && has_room mem)

abbrev pub lent_of : List ℕ → List ℕ → List ℕ → List ℕ → List ℕ → Memory → Bool
lent_of ops nums nodes forms bounds mem = table_room ops nums nodes && monitor_room forms bounds mem

abbrev pub is_lent : LentTables → LentMonitor → Bool
is_lent t m = lent_of t.ops t.nums t.nodes m.forms m.bounds m.memory

-- the compiled rule that the tables hold
abbrev pub rule_mon : LentTables → Option Mon
rule_mon t = compiled_of t.ops t.nums t.first t.count t.nodes t.nfirst t.ncount

-- the monitor has the rule's count of nodes, and an entry that fits each
abbrev pub fits : Mon → LentMonitor → Bool
fits m k = eqb k.size (count m) && fits_mon m k.forms k.bounds k.memory 0

-- tables that hold rule m, and have room
pub record HoldsRule (t : LentTables) (m : Mon) : Type 0 where
  pub rule : rule_mon t ≡ some m
  pub room : table_room t.ops t.nums t.nodes ≡ true

-- a monitor that fits rule m, and has room
pub record Ready (k : LentMonitor) (m : Mon) : Type 0 where
  pub fit : fits m k ≡ true
  pub room : monitor_room k.forms k.bounds k.memory ≡ true

-- the refusal of what a call on a monitor is lent, if there is one: 1, then 2
abbrev pub unfit : Option Mon → LentMonitor → Opt Refusal
unfit none k = Some Unfit
unfit (some m) k = pick (fits m k) None (Some Unfit)

unfoldable pub refusal_of : LentTables → LentMonitor → Opt Refusal
refusal_of t k = pick (is_lent t k) (unfit (rule_mon t) k) (Some Short)

-- the same of what a call is lent that makes a monitor: 1, then 2 where the tables hold no rule
abbrev pub ruleless : Option Mon → Opt Refusal
ruleless none = Some Unfit
ruleless (some m) = None

unfoldable pub refusal_to_make : LentTables → List ℕ → List ℕ → Memory → Opt Refusal
refusal_to_make t forms bounds mem = pick (lent_of t.ops t.nums t.nodes forms bounds mem) (ruleless (rule_mon t)) (Some Short)

-- the same by n rows of a node table from row `nfirst` on: how the test goes
abbrev pub rows_fit : List ℕ → ℕ → ℕ → LentMonitor → Bool
rows_fit nodes nfirst n k = eqb k.size n && shaped_from nodes nfirst k.forms k.bounds k.memory 0 n

-- ---- what tests and parts of a call ask
-- n rows from row `nfirst` on, and n entries
pub record Spanned (nodes : List ℕ) (nfirst : ℕ) (forms bounds : List ℕ) (mem : Memory) (n : ℕ) : Type 0 where
  pub rows : row_cells * (nfirst + n) ≤ length nodes
  pub forms_in : n ≤ length forms
  pub bounds_in : n ≤ length bounds
  pub inside : Inside mem n
