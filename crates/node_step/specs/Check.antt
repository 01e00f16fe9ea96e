-- A check's step on a node's entry: the entry read as the check's state, the step of the theory, and the entry that holds it afterwards.
use Rattle.std.specs.Prelude.{Bool, true, false, ◌&&◌, ◌||◌, List, ◌≡◌, ℕ, ◌+◌, ◌≤◌, ◌<◌, length}
use Rattle.std.proofs.Math.Bool as bool
use Rattle.terms.specs.Limits as limits
use Rattle.formula.specs.Tree.{size, all}
use Rattle.formula.specs.Spells.{Spells}
use Rattle.formula.specs.Formula.{Formula}
use Rattle.formula.specs.Table.{node_at, in_word}
use Rattle.formula.specs.Pure.{pure}
use Rattle.monitor.specs.declared.range.AnchorRange.{AnchorRange}
use Rattle.monitor.specs.declared.node.SignalExpr.{SignalExpr}
use Rattle.monitor.specs.declared.node.MonNode.{MonNode}
use Rattle.monitor.specs.Mon.{Signal, always_true, at, Check, range_check, delayed_check, obligation, expr_of, node_of}
use Rattle.monitor.specs.Range.{contains_of}
use Rattle.meaning.specs.Alarm.{truth}
use Rattle.meaning.specs.State.{CheckState, ObligationState, CheckShaped, check_step, opened, ticked, at_once}
use Rattle.node_step.specs.declared.state.MonState.{MonState}
use Rattle.node_step.specs.Memory.{Memory, get, put, Inside}

-- ---- entries and states
abbrev pub obligation_of : MonState → ObligationState
obligation_of st = record { pending = st.held; remaining = st.remaining; failed = st.failed; culprit = st.culprit }

abbrev pub entry_of : ObligationState → MonState
entry_of o = record { held = o.pending; remaining = o.remaining; failed = o.failed; culprit = o.culprit }

abbrev pub read_check : (c : Check) → MonState → CheckState c
read_check (range_check p r) st = record { failed = st.failed }
read_check (delayed_check p q r) st = record { prev_antecedent = st.held; failed = st.failed }
read_check (obligation b p q r) st = obligation_of st

-- what a state does not have stays as it was
abbrev pub write_check : (c : Check) → CheckState c → MonState → MonState
write_check (range_check p r) x st =
    record { held = st.held; remaining = st.remaining; failed = x.failed; culprit = st.culprit }
write_check (delayed_check p q r) x st =
    record { held = x.prev_antecedent; remaining = st.remaining; failed = x.failed; culprit = st.culprit }
write_check (obligation b p q r) x st = entry_of x

-- ---- signals that stand in a formula table
pub record Standing (ops nums : List ℕ) (p : ℕ) (g : Formula) : Type 0 where
  pub spells : Spells (node_at ops nums) p g
  pub in_ops : p + size g ≤ length ops
  pub in_nums : p + size g ≤ length nums
  pub is_pure : pure g ≡ true
  pub word_fits : all in_word g ≡ true

abbrev pub Grounded : List ℕ → List ℕ → Signal → Type 0
Grounded ops nums always_true = Unit {0}
Grounded ops nums (at p g) = Standing ops nums p g

-- the expression names some signal of the table, and an answer is its truth
pub record Named (ops nums : List ℕ) (e : SignalExpr) : Type 0 where
  pub signal : Signal
  pub is : expr_of signal ≡ e
  pub stands : Grounded ops nums signal

pub record SignalSays (ops nums : List ℕ) (e : SignalExpr) (w : ℕ) (r : Bool) : Type 0 where
  pub is : (x : Signal) → expr_of x ≡ e → Grounded ops nums x → r ≡ truth x w

-- ---- checks
abbrev pub GroundedCheck : List ℕ → List ℕ → Check → Type 0
GroundedCheck ops nums (range_check p r) = Grounded ops nums p
GroundedCheck ops nums (delayed_check p q r) = Grounded ops nums p × Grounded ops nums q
GroundedCheck ops nums (obligation b p q r) = Grounded ops nums p × Grounded ops nums q

pub record Steppable (ops nums : List ℕ) (node : MonNode) (st : MonState) (s : ℕ) : Type 0 where
  pub check : Check
  pub is : node_of check ≡ node
  pub stands : GroundedCheck ops nums check
  pub shaped : CheckShaped check (read_check check st)
  pub below : s < limits.steps

-- a check at node k
pub record Checkable (ops nums : List ℕ) (node : MonNode) (mem : Memory) (k s : ℕ) : Type 0 where
  pub inside : Inside mem (k + 1)
  pub steps : Steppable ops nums node (get mem k) s

pub record CheckStepped (ops nums : List ℕ) (node : MonNode) (mem : Memory) (k s w : ℕ) (mem' : Memory) (now : Bool) : Type 0 where
  pub is : (c : Check) → node_of c ≡ node → GroundedCheck ops nums c →
      (mem' ≡ put mem k (write_check c (check_step c (read_check c (get mem k)) s w).state (get mem k)))
      × (now ≡ (check_step c (read_check c (get mem k)) s w).now)

-- parts of a check's step
pub record DelayedNow (ops nums : List ℕ) (e : SignalExpr) (r : AnchorRange) (st : MonState) (s w : ℕ) (b : Bool) : Type 0 where
  pub is : (x : Signal) → expr_of x ≡ e → Grounded ops nums x → b ≡ (st.failed || (contains_of r s && (st.held && bool.not (truth x w))))

pub record TriggerDue (ops nums : List ℕ) (e : SignalExpr) (r : AnchorRange) (s w : ℕ) (b : Bool) : Type 0 where
  pub is : (x : Signal) → expr_of x ≡ e → Grounded ops nums x → b ≡ (contains_of r s && truth x w)

-- an obligation at node k, and its parts: a window opens, one is taken from what remains, and bound 0
pub record Openable (ops nums : List ℕ) (e : SignalExpr) (mem : Memory) (k s : ℕ) : Type 0 where
  pub inside : Inside mem (k + 1)
  pub names : Named ops nums e
  pub below : s < limits.steps

pub record Opened (ops nums : List ℕ) (b : ℕ) (e : SignalExpr) (r : AnchorRange) (mem : Memory) (k s w : ℕ) (mem' : Memory) (open-now : Bool) : Type 0 where
  pub is : (x : Signal) → expr_of x ≡ e → Grounded ops nums x →
      (mem' ≡ put mem k (entry_of (opened (get mem k).held (contains_of r s && truth x w) b s (obligation_of (get mem k)))))
      × (open-now ≡ (opened (get mem k).held (contains_of r s && truth x w) b s (obligation_of (get mem k))).pending)

pub record Tickable (ops nums : List ℕ) (e : SignalExpr) (mem : Memory) (k : ℕ) : Type 0 where
  pub inside : Inside mem (k + 1)
  pub names : Named ops nums e
  pub is_open : (get mem k).held ≡ true
  pub unfailed : (get mem k).failed ≡ false
  pub remains : 1 ≤ (get mem k).remaining

pub record Ticked (ops nums : List ℕ) (e : SignalExpr) (mem : Memory) (k w : ℕ) (mem' : Memory) (now : Bool) : Type 0 where
  pub is : (x : Signal) → expr_of x ≡ e → Grounded ops nums x →
      (mem' ≡ put mem k (entry_of (ticked true (truth x w) (obligation_of (get mem k)))))
      × (now ≡ (ticked true (truth x w) (obligation_of (get mem k))).failed)

pub record AtOnce (ops nums : List ℕ) (e e' : SignalExpr) (mem : Memory) (k s : ℕ) : Type 0 where
  pub inside : Inside mem (k + 1)
  pub trigger : Named ops nums e
  pub body : Named ops nums e'
  pub unfailed : (get mem k).failed ≡ false
  pub below : s < limits.steps

pub record DoneAtOnce (ops nums : List ℕ) (e e' : SignalExpr) (r : AnchorRange) (mem : Memory) (k s w : ℕ) (mem' : Memory) (now : Bool) : Type 0 where
  pub is : (x y : Signal) → expr_of x ≡ e → Grounded ops nums x → expr_of y ≡ e' → Grounded ops nums y →
      (mem' ≡ put mem k (entry_of (at_once (contains_of r s && truth x w) (truth y w) s (obligation_of (get mem k)))))
      × (now ≡ (at_once (contains_of r s && truth x w) (truth y w) s (obligation_of (get mem k))).failed)
