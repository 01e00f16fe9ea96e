-- The rules of a book in lent tables and one memory: row k of the node table and entry k of the memory belong together.
--     Rows       the tables hold the compiled rules, as stepping asks for them (`tabled_rows`, proofs/Start.antt, from `Tabled`)
--     Holding    the memory holds a state of each rule (`fresh_held`, proofs/Start.antt: a cleared memory holds the fresh states)
use Rattle.std.specs.Prelude.{true, List, ◌≡◌, ℕ, ◌+◌, ◌*◌, ◌≤◌, ◌<◌, length, get_or}
use Rattle.terms.specs.Limits.{book_nodes, book_rules}
use Rattle.monitor.specs.Mon.{Mon, count}
use Rattle.meaning.specs.State.{State, WellShaped}
use Rattle.node_step.specs.Memory.{Memory, Inside}
use Rattle.lent.specs.Nodes.{NodesAt}
use Rattle.stepping.specs.Walk.{ShapedAt, read_mon}
use Rattle.listing_rules.specs.Rules.{Rule, compiles, refusal, mon}
use Rattle.listing_reports.specs.Reports.{States}

-- the first n rules of R: refusal 0 where a rule compiles, and then its rows, no two rules sharing one
pub record Rows (ops nums nodes nfirsts refusals : List ℕ) (R : ℕ → Rule) (n : ℕ) : Type 0 where
  pub few : n ≤ book_rules
  pub in_nfirsts : n ≤ length nfirsts
  pub in_refusals : n ≤ length refusals
  pub refused : (r : ℕ) → r < n → get_or refusals r 0 ≡ refusal (R r)
  pub stands : (r : ℕ) → r < n → compiles (R r) ≡ true → NodesAt ops nums nodes (get_or nfirsts r 0) (mon (R r))
  pub in_nodes : (r : ℕ) → r < n → compiles (R r) ≡ true → 7 * (get_or nfirsts r 0 + count (mon (R r))) ≤ length nodes
  pub room : (r : ℕ) → r < n → compiles (R r) ≡ true → get_or nfirsts r 0 + count (mon (R r)) ≤ book_nodes
  pub apart : (q r : ℕ) → q < r → r < n → compiles (R q) ≡ true → compiles (R r) ≡ true → get_or nfirsts q 0 + count (mon (R q)) ≤ get_or nfirsts r 0

-- the entries from k on hold a state of m that may be handed in
pub record HoldsState (m : Mon) (k : ℕ) (st : State m) (mem : Memory) : Type 0 where
  pub reads : read_mon m mem k ≡ st
  pub shaped : ShapedAt m mem k
  pub kept : WellShaped m st

pub record Holding (nfirsts : List ℕ) (R : ℕ → Rule) (n : ℕ) (st : States R) (mem : Memory) : Type 0 where
  pub inside : Inside mem book_nodes
  pub rule : (r : ℕ) → r < n → compiles (R r) ≡ true → HoldsState (mon (R r)) (get_or nfirsts r 0) (st r) mem
