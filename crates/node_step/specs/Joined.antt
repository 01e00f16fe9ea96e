-- A joined node's own step, after its parts have stepped.
use Rattle.std.specs.Prelude.{Bool, true, false, ◌&&◌, ◌||◌, ◌≡◌, ℕ, ◌+◌, ◌<◌, ℤ}
use Rattle.std.specs.Prelude.{None, Option, Some}
use Rattle.std.proofs.Math.Bool as bool
use Rattle.terms.specs.Choice.{pick}
use Rattle.monitor.specs.declared.node.MonNode.{MonNode}
use Rattle.monitor.specs.declared.node.MonNode.TheVariants.{RangeCheck, DelayedCheck, Obligation, And as AndNode, Or as OrNode}
use Rattle.meaning.specs.State.{min_trigger_at}
use Rattle.node_step.specs.declared.state.MonState.{MonState}
use Rattle.node_step.specs.Memory.{Memory, get, put, Inside}

-- how a node's parts are joined, if it has parts: `and` fails with any of them, `or` with all of them
abbrev pub parts_of : MonNode → Option Bool
parts_of (RangeCheck s r) = None
parts_of (DelayedCheck s t r) = None
parts_of (Obligation b s t r) = None
parts_of AndNode = Some true
parts_of OrNode = Some false

abbrev pub joined_now : Bool → Bool → Bool → Bool
joined_now true l r = l || r
joined_now false l r = l && r

-- a new mark and culprit in an entry
abbrev pub joined_entry : Bool → ℤ → MonState → MonState
joined_entry f c e = record { held = e.held; remaining = e.remaining; failed = f; culprit = c }

-- a joined node's entry after its parts have stepped
abbrev pub joined_of : MonState → Bool → Bool → MonState → Bool → MonState → MonState
joined_of st now left a right b =
    joined_entry (st.failed || now) (pick (bool.not st.failed && now) (min_trigger_at left a.culprit right b.culprit) st.culprit) st

-- ---- in the memory: node k, its left part behind it and its right part at `mid`
pub record PairReady (mem : Memory) (k mid : ℕ) : Type 0 where
  pub first : k < mid
  pub inside : Inside mem (mid + 1)

abbrev pub finished : Memory → ℕ → ℕ → Bool → Bool → Bool → MonState
finished mem k mid now left right = joined_of (get mem k) now left (get mem (k + 1)) right (get mem mid)

pub record Finished (mem : Memory) (k mid : ℕ) (now left right : Bool) (mem' : Memory) : Type 0 where
  pub is : mem' ≡ put mem k (finished mem k mid now left right)
