-- What the layout says, apart from any table.
--     owing_bits   the bits of an obligation, for every bound
--     adjoining    a node's bits begin where those of the node before it end
--     whole        the last node's end where the rule's do
use mathlib.Core.Path.{◌≡◌, ap, ◌∙◌}
use mathlib.Core.List.{List, [], ◌∷◌}
use Prim.Native.Nat.{ℕ, zero, suc, ◌+◌, ◌^◌, ◌≤◌, ◌<◌}
use native.Mathlib.Omega.{arith}
use lib.ListN.{length, get_or, take}
use lib.Seq.{take-suc, take-length}
use Rattle.plan.specs.Layout.{nothing, owing, breadth, total, slot_in}
use Rattle.plan.specs.declared.layout.Piece.{Piece}
use Rattle.plan.proofs.Widths.{two_pow_pos, ceil_log2_is}
use Rattle.plan.proofs.Pieces.{total_append}

-- an obligation whose bound lies from 2^k to 2^(k+1) - 1 takes k + 2 bits
pub owing_bits : (b k : ℕ) → 2 ^ k ≤ b → b < 2 ^ (k + 1) → breadth (owing b) ≡ k + 2
owing_bits zero k h l = absurd (omega (arith, two_pow_pos k))
owing_bits (suc b) k h l = omega (arith, ceil_log2_is (suc b + 1) k (omega arith) (omega arith))

pub adjoining : (ps : List Piece) (j : ℕ) → j < length ps → (slot_in ps (suc j)).offset ≡ (slot_in ps j).offset + breadth (slot_in ps j).piece
unfolding total
adjoining ps j h = ap total (take-suc ps j nothing h) ∙ total_append (take j ps) (get_or ps j nothing ∷ []) ∙ omega arith

pub whole : (ps : List Piece) → (slot_in ps (length ps)).offset ≡ total ps
whole ps = ap total (take-length ps)
