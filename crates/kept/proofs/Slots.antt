-- What a rule keeps and crate plan's layout: each node keeps the bits of its piece, so the bits of all are the rule's.
use mathlib.Core.Path.{◌≡◌, refl, sym, ap, ap₂, ◌∙◌}
use mathlib.Core.List.{List, [], ◌∷◌, ◌++◌}
use Prim.Native.Nat.{zero, suc, ◌+◌}
use native.Mathlib.Omega.{arith}
use Rattle.monitor.specs.Mon.{Check, range_check, delayed_check, obligation, Mon, check, And, Or, node_of}
use Rattle.plan.specs.Layout.{nothing, register, owing, check_piece, pieces, breadth, total, bits}
use Rattle.plan.specs.declared.layout.Piece.{Piece}
use Rattle.kept.specs.declared.Keep.{Keep}
use Rattle.kept.specs.declared.Keep.TheVariants.{Nothing, Antecedent, Window}
use Rattle.kept.specs.Kept.{keep_node, keep_width, keeps, kept_bits}

abbrev pub keep_piece : Keep → Piece
keep_piece Nothing = nothing
keep_piece Antecedent = register
keep_piece (Window b) = owing b

unfoldable pub pieces_of : List Keep → List Piece
pieces_of [] = []
pieces_of (x ∷ xs) = keep_piece x ∷ pieces_of xs

pieces_append : (xs ys : List Keep) → pieces_of (xs ++ ys) ≡ pieces_of xs ++ pieces_of ys
unfolding pieces_of
pieces_append [] ys = refl
pieces_append (x ∷ xs) ys = ap (keep_piece x ∷◌) (pieces_append xs ys)

check_piece_lem : (c : Check) → check_piece c ≡ keep_piece (keep_node (node_of c))
check_piece_lem (range_check s r) = refl
check_piece_lem (delayed_check s t r) = refl
check_piece_lem (obligation b s t r) = refl

-- in prefix order, each node's piece
pub kept_pieces : (m : Mon) → pieces m ≡ pieces_of (keeps m)
unfolding pieces keeps pieces_of
kept_pieces (check c) = ap (λ (p : Piece). p ∷ []) (check_piece_lem c)
kept_pieces (And m n) = ap (nothing ∷◌) (ap₂ ◌++◌ (kept_pieces m) (kept_pieces n) ∙ sym (pieces_append (keeps m) (keeps n)))
kept_pieces (Or m n) = ap (nothing ∷◌) (ap₂ ◌++◌ (kept_pieces m) (kept_pieces n) ∙ sym (pieces_append (keeps m) (keeps n)))

keep_breadth : (x : Keep) → breadth (keep_piece x) ≡ keep_width x
keep_breadth Nothing = refl
keep_breadth Antecedent = refl
keep_breadth (Window zero) = refl
keep_breadth (Window (suc b)) = omega arith

pub pieces_total : (xs : List Keep) → total (pieces_of xs) ≡ kept_bits xs
unfolding pieces_of total kept_bits
pieces_total [] = refl
pieces_total (x ∷ xs) = ap₂ ◌+◌ (keep_breadth x) (pieces_total xs)

pub kept_bits_lem : (m : Mon) → kept_bits (keeps m) ≡ bits m
kept_bits_lem m = sym (ap total (kept_pieces m) ∙ pieces_total (keeps m))
