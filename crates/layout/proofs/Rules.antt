-- The answers of the calls over one rule.
use mathlib.Core.Path.{◌≡◌, refl, sym, ap, ap₂, ◌∙◌}
use mathlib.Core.Bool.{Bool, true}
use mathlib.Core.List.{List}
use mathlib.Core.Option.{Option, none, some}
use Prim.Native.Nat.{ℕ, zero, suc, ◌+◌, ◌≤◌, ◌<◌}
use borrow.Author.Tests.{lt-ltb, le-ltb}
use lib.Dec.{ltb}
use lib.ListN.{length}
use Rattle.result.specs.Result.{given, refused, or_else}
use Rattle.formula.specs.Table.{is_some}
use Rattle.formula.proofs.Cases.{true_false}
use Rattle.monitor.specs.Mon.{Mon}
use Rattle.monitor.specs.Table.{compiled_of}
use Rattle.plan.specs.Layout.{pieces, slot_in}
use Rattle.plan.specs.Rows.{row_pieces, Summed, RowsPart}
use Rattle.plan.specs.declared.layout.Slot.{Slot}
use Rattle.plan.specs.declared.layout.Piece.{Piece}
use Rattle.plan.proofs.Rows.{rows_pieces, over_formula, table_bits, table_part}
use Rattle.layout.specs.Entry.{roomy_nodes, bits_by, rule_bits_of, slot_by, node_slot_of}

pub some_mon : (q : Bool) (o : Option Mon) → q ≡ is_some o → q ≡ true → (m : Mon) × (o ≡ some m)
some_mon q none e h = true_false h e
some_mon q (some m) e h = (m, refl)

module _ (ops nums : List ℕ) (first count : ℕ) (nodes : List ℕ) (nfirst ncount : ℕ) where
  rows_length : (i n : ℕ) → length (row_pieces nodes i n) ≡ n
  unfolding row_pieces
  rows_length i zero = refl
  rows_length i (suc n) = ap suc (rows_length (i + 1) n)

  module _ (w : Bool) (e : w ≡ roomy_nodes ops nums nodes) where
    module _ (h : w ≡ true) (q : Bool) (z : q ≡ is_some (compiled_of ops nums first count nodes nfirst ncount)) where
      module _ (y : q ≡ true) where
        pub bits_some : (b : ℕ) → Summed nodes nfirst ncount b → given b ≡ rule_bits_of ops nums first count nodes nfirst ncount
        unfolding rule_bits_of
        bits_some b s =
            let (m, p) = some_mon q _ z y in
            ap given (s.is ∙ table_bits ops nums first count nodes nfirst ncount m p) ∙ sym (ap₂ (λ (b : Bool) (o : Option Mon). or_else b 1 (bits_by o)) (sym e ∙ h) p)

        slot_by_lem : (j : ℕ) (m : Mon) → compiled_of ops nums first count nodes nfirst ncount ≡ some m
            → node_slot_of ops nums first count nodes nfirst ncount j ≡ or_else (ltb j ncount) 2 (given (slot_in (row_pieces nodes nfirst ncount) j))
        unfolding node_slot_of
        slot_by_lem j m p =
            let (f, u) = over_formula ops nums first count nodes nfirst ncount m p in
            let r : pieces m ≡ row_pieces nodes nfirst ncount = sym (rows_pieces f first nodes nfirst ncount m u) in
            ap₂ (λ (b : Bool) (o : Option Mon). or_else b 1 (slot_by o j)) (sym e ∙ h) p
            ∙ ap₂ (λ (k : ℕ) (ps : List Piece). or_else (ltb j k) 2 (given (slot_in ps j))) (ap length r ∙ rows_length nfirst ncount) r

        pub slot_past : (j : ℕ) → ncount ≤ j → refused 2 ≡ node_slot_of ops nums first count nodes nfirst ncount j
        slot_past j n =
            let (m, p) = some_mon q _ z y in
            sym (slot_by_lem j m p ∙ ap (λ (b : Bool). or_else b 2 (given (slot_in (row_pieces nodes nfirst ncount) j))) (le-ltb _ _ n))

        pub slot_at : (j : ℕ) (s : Slot) → j < ncount → s ≡ slot_in (row_pieces nodes nfirst ncount) j → given s ≡ node_slot_of ops nums first count nodes nfirst ncount j
        slot_at j s n u =
            let (m, p) = some_mon q _ z y in
            ap given u ∙ sym (slot_by_lem j m p ∙ ap (λ (b : Bool). or_else b 2 (given (slot_in (row_pieces nodes nfirst ncount) j))) (lt-ltb _ _ n))

  pub part_compiled : (q : Bool) → q ≡ is_some (compiled_of ops nums first count nodes nfirst ncount) → q ≡ true → RowsPart nodes nfirst ncount
  part_compiled q z y =
      let (m, p) = some_mon q _ z y in
      table_part ops nums first count nodes nfirst ncount m p
