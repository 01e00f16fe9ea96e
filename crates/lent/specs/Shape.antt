-- Document 01, refusal 2, for a monitor: a state whose form or bound is not its node's, a culprit below minus 1 or, on a range or delayed
-- check, other than minus 1, a pending, unfailed obligation with remaining outside 1 to its bound.
--     entry_fits    one entry against its node
--     fits_mon      the entries from k on against the nodes of a compiled rule: the definition of the refusal
--     shaped_from   the same over the rows of a node table, which is how the loop goes (`rows_fit_lem`, proofs/Standings.antt: they agree)
use Rattle.std.specs.Prelude.{Bool, true, false, ◌&&◌, ◌||◌, List, ℕ, zero, suc, ◌+◌, eqb, leb, ℤ, pos, negsuc, get_or}
use Rattle.std.proofs.Math.Bool as bool
use Rattle.terms.specs.Forms.{range_form, delayed_form, obligation_form, and_form, or_form}
use Rattle.monitor.specs.declared.node.MonNode.{MonNode}
use Rattle.monitor.specs.declared.node.MonNode.TheVariants.{RangeCheck, DelayedCheck, Obligation, And as AndNode, Or as OrNode}
use Rattle.std.specs.Prelude.{None, Option, Some}
use Rattle.monitor.specs.Mon.{Mon, check, And, Or, count, node_of}
use Rattle.monitor.specs.Table.{row_of}
use Rattle.node_step.specs.declared.state.MonState.{MonState}
use Rattle.node_step.specs.Memory.{Memory, get}

abbrev pub is_minus_one : ℤ → Bool
is_minus_one (pos n) = false
is_minus_one (negsuc zero) = true
is_minus_one (negsuc (suc n)) = false

abbrev pub from_minus_one : ℤ → Bool
from_minus_one (pos n) = true
from_minus_one (negsuc zero) = true
from_minus_one (negsuc (suc n)) = false

-- an open window of an obligation with bound b
abbrev pub window_kept : ℕ → MonState → Bool
window_kept b st = bool.not st.held || (st.failed || (leb 1 st.remaining && leb st.remaining b))

abbrev pub blameless_fits : ℕ → ℕ → MonState → Bool
blameless_fits form wanted st = eqb form wanted && is_minus_one st.culprit

abbrev pub joined_fits : ℕ → ℕ → MonState → Bool
joined_fits form wanted st = eqb form wanted && from_minus_one st.culprit

abbrev pub owed_fits : ℕ → ℕ → ℕ → MonState → Bool
owed_fits b form bound st = eqb form obligation_form && (eqb bound b && (from_minus_one st.culprit && window_kept b st))

-- a node's entry, with the form and the bound that the monitor remembers, fits the node
abbrev pub entry_fits : MonNode → ℕ → ℕ → MonState → Bool
entry_fits (RangeCheck s r) form bound st = blameless_fits form range_form st
entry_fits (DelayedCheck s t r) form bound st = blameless_fits form delayed_form st
entry_fits (Obligation b s t r) form bound st = owed_fits b form bound st
entry_fits AndNode form bound st = joined_fits form and_form st
entry_fits OrNode form bound st = joined_fits form or_form st

-- node k of the rule and its parts behind it
unfoldable pub fits_mon : Mon → List ℕ → List ℕ → Memory → ℕ → Bool
fits_mon (check c) forms bounds mem k = entry_fits (node_of c) (get_or forms k 0) (get_or bounds k 0) (get mem k)
fits_mon (And m n) forms bounds mem k =
    entry_fits AndNode (get_or forms k 0) (get_or bounds k 0) (get mem k)
    && (fits_mon m forms bounds mem (k + 1) && fits_mon n forms bounds mem (k + 1 + count m))
fits_mon (Or m n) forms bounds mem k =
    entry_fits OrNode (get_or forms k 0) (get_or bounds k 0) (get mem k)
    && (fits_mon m forms bounds mem (k + 1) && fits_mon n forms bounds mem (k + 1 + count m))

-- ---- over the rows of a table
abbrev pub row_fits : Option MonNode → ℕ → ℕ → MonState → Bool
row_fits None form bound st = false
row_fits (Some n) form bound st = entry_fits n form bound st

-- n nodes from node k on
unfoldable pub shaped_from : List ℕ → ℕ → List ℕ → List ℕ → Memory → ℕ → ℕ → Bool
shaped_from nodes nfirst forms bounds mem k zero = true
shaped_from nodes nfirst forms bounds mem k (suc n) =
    row_fits (row_of nodes (nfirst + k)) (get_or forms k 0) (get_or bounds k 0) (get mem k) && shaped_from nodes nfirst forms bounds mem (k + 1) n
