-- Document 01, "Layout" (`layout_for` of src/mc/plan.rs): the bits of a monitor's state, node by node in prefix order.
--     pieces    the bits of each node of a compiled rule, in prefix order
--     bits      those of the whole rule
--     slot_in    a node's own bits and where they begin, counted from the rule's first bit
use Rattle.std.specs.Prelude.{List, [], ◌∷◌, ◌++◌, ℕ, zero, suc, ◌+◌, get_or, take}
use Rattle.monitor.specs.Mon.{Check, range_check, delayed_check, obligation, Mon, check, And, Or}
use Rattle.plan.specs.Width.{width}
use Rattle.plan.specs.declared.layout.Piece.{Piece}
use Rattle.plan.specs.declared.layout.Slot.{Slot}

-- a node without bits
abbrev pub nothing : Piece
nothing = record { pending = 0; remaining = 0; antecedent = 0 }

-- a delayed check: one bit
abbrev pub register : Piece
register = record { pending = 0; remaining = 0; antecedent = 1 }

-- an obligation: none for bound 0, else one pending bit, then those that hold 0 to the bound
abbrev pub owing : ℕ → Piece
owing zero = nothing
owing (suc b) = record { pending = 1; remaining = width (suc b); antecedent = 0 }

abbrev pub check_piece : Check → Piece
check_piece (range_check s r) = nothing
check_piece (delayed_check s t r) = register
check_piece (obligation b s t r) = owing b

unfoldable pub pieces : Mon → List Piece
pieces (check c) = check_piece c ∷ []
pieces (And m n) = nothing ∷ pieces m ++ pieces n
pieces (Or m n) = nothing ∷ pieces m ++ pieces n

abbrev pub breadth : Piece → ℕ
breadth p = p.pending + p.remaining + p.antecedent

unfoldable pub total : List Piece → ℕ
total [] = 0
total (p ∷ ps) = breadth p + total ps

abbrev pub bits : Mon → ℕ
bits m = total (pieces m)

-- the bits of node j, after those of the nodes before it
abbrev pub slot_in : List Piece → ℕ → Slot
slot_in ps j = record { offset = total (take j ps); piece = get_or ps j nothing }
