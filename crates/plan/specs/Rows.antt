-- The same from the numbers of a node table: column 0 of a row is the form, column 1 the bound. `rows_pieces` (proofs/Rows.antt): where a part of
-- the table is a compiled rule, its rows give that rule's pieces.
use Rattle.std.specs.Prelude.{◌≡◌, List, [], ◌∷◌, ℕ, zero, suc, ◌+◌, ◌*◌, ◌≤◌, eqb, length, get_or}
use Rattle.terms.specs.Limits.{row_cells, rule_nodes}
use Rattle.terms.specs.Choice.{pick}
use Rattle.terms.specs.Forms.{delayed_form, obligation_form}
use Rattle.plan.specs.Layout.{nothing, register, owing, breadth, total}
use Rattle.plan.specs.declared.layout.Piece.{Piece}

abbrev pub piece_of : ℕ → ℕ → Piece
piece_of form bound = pick (eqb form delayed_form) register (pick (eqb form obligation_form) (owing bound) nothing)

abbrev pub row_piece : List ℕ → ℕ → Piece
row_piece nodes i = piece_of (get_or nodes (row_cells * i) 0) (get_or nodes (row_cells * i + 1) 0)

-- n rows from row i on
unfoldable pub row_pieces : List ℕ → ℕ → ℕ → List Piece
row_pieces nodes i zero = []
row_pieces nodes i (suc n) = row_piece nodes i ∷ row_pieces nodes (i + 1) n

abbrev pub row_bits : List ℕ → ℕ → ℕ → ℕ
row_bits nodes i n = total (row_pieces nodes i n)

-- a node's bits are at most 65
pub record Breadth (form bound r : ℕ) : Type 0 where
  pub is : r ≡ breadth (piece_of form bound)
  pub most : r ≤ 65

-- the bits of n rows, at most 65 each
pub record Summed (nodes : List ℕ) (i n r : ℕ) : Type 0 where
  pub is : r ≡ row_bits nodes i n
  pub most : r ≤ 65 * n

-- rows i up to i + n of at most 256, all in the table
pub record RowsPart (nodes : List ℕ) (i n : ℕ) : Type 0 where
  pub few : n ≤ rule_nodes
  pub inside : row_cells * (i + n) ≤ length nodes
