-- One node's bits, from its form and bound.
use mathlib.Core.Path.{◌≡◌, refl, sym, ap, subst, ◌∙◌}
use mathlib.Core.Bool.{Bool, true, false}
use mathlib.Core.List.{List, [], ◌∷◌, ◌++◌}
use Prim.Native.Nat.{ℕ, zero, suc, ◌+◌, ◌*◌, ◌≤◌, ◌<◌, ◌^◌}
use native.Mathlib.Omega.{arith}
use lib.Dec.{eqb}
use lib.ListN.{get_or, take}
use mir.Syntax.{w64}
use mir.Val.{Fits}
use native.Mathlib.Nat.{add-zero, zero-add, suc-add}
use Rattle.terms.specs.Choice.{pick}
use Rattle.plan.specs.Width.{width}
use Rattle.plan.specs.Layout.{nothing, register, owing, breadth, total, slot_in}
use Rattle.plan.specs.Rows.{piece_of, row_piece, row_pieces, row_bits, Breadth, Summed}
use Rattle.plan.specs.declared.layout.Piece.{Piece}
use Rattle.plan.specs.declared.layout.Slot.{Slot}
use Rattle.plan.proofs.Widths.{width_most}

-- ---- how many they are
pub record Small (p : Piece) : Type 0 where
  pub pends : p.pending ≤ 1
  pub remains : p.pending + p.remaining ≤ 65
  pub all : breadth p ≤ 65

small_owing : (b : ℕ) → b < 2 ^ 64 → Small (owing b)
small_owing zero h = record { pends = omega arith; remains = omega arith; all = omega arith }
small_owing (suc b) h =
    let m : width (suc b) ≤ 64 = width_most (suc b) h in
    record { pends = omega arith; remains = omega arith; all = omega arith }

small_piece : (form bound : ℕ) → bound < 2 ^ 64 → Small (piece_of form bound)
small_piece form bound h = go (eqb form 1) (eqb form 2)
  where
    go : (t u : Bool) → Small (pick t register (pick u (owing bound) nothing))
    go true u = record { pends = omega arith; remains = omega arith; all = omega arith }
    go false true = small_owing bound h
    go false false = record { pends = omega arith; remains = omega arith; all = omega arith }

module _ (form bound : ℕ) (p : Piece) (h : bound < 2 ^ 64) (e : p ≡ piece_of form bound) where
  small : Small p
  small = subst Small (sym e) (small_piece form bound h)

  pub pending_fits : Fits w64 (p.pending + p.remaining)
  pending_fits = record { fits = omega (arith, small.remains) }

  pub breadth_fits : Fits w64 (p.pending + p.remaining + p.antecedent)
  breadth_fits = record { fits = omega (arith, small.all) }

  pub breadth_is : Breadth form bound (p.pending + p.remaining + p.antecedent)
  breadth_is = record { is = ap (λ (q : Piece). breadth q) e; most = small.all }

-- ---- rows
pub total_append : (ps qs : List Piece) → total (ps ++ qs) ≡ total ps + total qs
unfolding total
total_append [] qs = sym (zero-add (total qs))
total_append (p ∷ ps) qs = omega (arith, total_append ps qs)

pub rows_add : (nodes : List ℕ) (i m n : ℕ) → row_pieces nodes i (m + n) ≡ row_pieces nodes i m ++ row_pieces nodes (i + m) n
unfolding row_pieces
rows_add nodes i zero n = rw (add-zero, zero-add) refl
rows_add nodes i (suc m) n = rw suc-add (ap (row_piece nodes i ∷◌) (rows_add nodes (i + 1) m n ∙ ap (λ (k : ℕ). row_pieces nodes (i + 1) m ++ row_pieces nodes k n) (omega arith)))

rows_more : (nodes : List ℕ) (i n : ℕ) → row_bits nodes i (n + 1) ≡ row_bits nodes i n + breadth (row_piece nodes (i + n))
unfolding row_pieces total
rows_more nodes i n = ap total (rows_add nodes i n 1) ∙ total_append (row_pieces nodes i n) (row_pieces nodes (i + n) 1) ∙ omega arith

rows_take : (nodes : List ℕ) (i n j : ℕ) → j ≤ n → take j (row_pieces nodes i n) ≡ row_pieces nodes i j
unfolding row_pieces
rows_take nodes i n zero h = refl
rows_take nodes i zero (suc j) h = absurd (omega arith)
rows_take nodes i (suc n) (suc j) h = ap (row_piece nodes i ∷◌) (rows_take nodes (i + 1) n j (omega arith))

rows_get : (nodes : List ℕ) (i n j : ℕ) → j < n → get_or (row_pieces nodes i n) j nothing ≡ row_piece nodes (i + j)
unfolding row_pieces
rows_get nodes i zero j h = absurd (omega arith)
rows_get nodes i (suc n) zero h = sym (ap (row_piece nodes) (add-zero i))
rows_get nodes i (suc n) (suc j) h = rows_get nodes (i + 1) n j (omega arith) ∙ ap (row_piece nodes) (omega arith)

-- ---- the rows of a rule, summed
module _ (nodes : List ℕ) (i : ℕ) where
  pub summed_none : Summed nodes i 0 0
  unfolding row_pieces total
  summed_none = record { is = refl; most = omega arith }

  pub summed_more : (sum j b : ℕ) → Summed nodes i j sum → Breadth (get_or nodes (7 * (i + j)) 0) (get_or nodes (7 * (i + j) + 1) 0) b → Summed nodes i (j + 1) (sum + b)
  summed_more sum j b s q = record {
    is = omega (arith, s.is, q.is, rows_more nodes i j);
    most = omega (arith, s.most, q.most);
  }

  -- ---- one slot
  module _ (n j : ℕ) (h : j < n) where
    pub slot_is : (o : ℕ) (q : Piece) → Summed nodes i j o → q ≡ piece_of (get_or nodes (7 * (i + j)) 0) (get_or nodes (7 * (i + j) + 1) 0)
        → ◌≡◌ {A = Slot} (record { offset = o; piece = q }) (slot_in (row_pieces nodes i n) j)
    slot_is o q s e = λ x. record {
      offset = (s.is ∙ sym (ap total (rows_take nodes i n j (omega arith)))) x;
      piece = (e ∙ sym (rows_get nodes i n j h)) x;
    }
