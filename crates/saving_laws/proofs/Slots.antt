-- Document 02: a monitor's state lies in the bits of its layout (crate plan): each node's bits stand in its slot.
use mathlib.Core.Path.{◌≡◌, refl, sym, ap, ◌∙◌}
use mathlib.Core.Bool.{Bool, false}
use mathlib.Core.List.{List, [], ◌∷◌, ◌++◌, append_assoc}
use Prim.Native.Nat.{ℕ, zero, suc, ◌+◌, ◌<◌}
use native.Mathlib.Omega.{arith}
use native.Mathlib.Nat.{add-zero}
use lib.ListN.{length, get_or, take}
use Rattle.monitor.specs.Mon.{Mon}
use Rattle.plan.specs.Layout.{pieces, total, slot_in, bits}
use Rattle.plan.specs.declared.layout.Piece.{Piece}
use Rattle.bits.specs.Bits.{spelled}
use Rattle.kept.specs.declared.Keep.{Keep}
use Rattle.kept.specs.declared.Keep.TheVariants.{Nothing}
use Rattle.kept.specs.Kept.{keep_width, keep_written, keeps, kept_bits, state_bits_of}
use Rattle.kept.proofs.Slots.{keep_piece, pieces_of, kept_pieces, pieces_total, kept_bits_lem}
use Rattle.saving.proofs.Going.{written_length}
use Rattle.saving.proofs.Saves.{state_length}
use Rattle.saving_laws.proofs.Entries.{spelled_part}

pieces_take : (j : ℕ) (xs : List Keep) → take j (pieces_of xs) ≡ pieces_of (take j xs)
unfolding pieces_of
pieces_take zero [] = refl
pieces_take zero (x ∷ xs) = refl
pieces_take (suc j) [] = refl
pieces_take (suc j) (x ∷ xs) = ap (keep_piece x ∷◌) (pieces_take j xs)

-- the bits of the nodes before node j are where its slot begins
slot_begins : (m : Mon) (j : ℕ) → (slot_in (pieces m) j).offset ≡ kept_bits (take j (keeps m))
slot_begins m j = ap (λ (ps : List Piece). total (take j ps)) (kept_pieces m) ∙ ap total (pieces_take j (keeps m)) ∙ pieces_total (take j (keeps m))

module _ (held : List Bool) (remaining : List ℕ) where
  -- what node j of the list writes stands behind what those before it write
  node_writes : (xs : List Keep) (j k : ℕ) → j < length xs → (rest : List Bool) × (state_bits_of xs held remaining k ≡ state_bits_of (take j xs) held remaining k ++ (keep_written (get_or xs j Nothing) (get_or held (k + j) false) (get_or remaining (k + j) 0) ++ rest))
  unfolding state_bits_of
  node_writes [] j k h = absurd (omega arith)
  node_writes (x ∷ xs) zero k h = (
    state_bits_of xs held remaining (k + 1),
    λ i. keep_written x (get_or held (sym (add-zero k) i) false) (get_or remaining (sym (add-zero k) i) 0) ++ state_bits_of xs held remaining (k + 1),
  )
  node_writes (x ∷ xs) (suc j) k h =
      let (rest, e) = node_writes xs j (k + 1) (omega arith) in
      let o : k + 1 + j ≡ k + suc j = omega arith in
      let w : List Bool = keep_written x (get_or held k false) (get_or remaining k 0) in
      let front : List Bool = state_bits_of (take j xs) held remaining (k + 1) in (
        rest,
        ap (w ++◌) (e ∙ ap (λ (n : ℕ). front ++ (keep_written (get_or xs j Nothing) (get_or held n false) (get_or remaining n 0) ++ rest)) o)
            ∙ sym (append_assoc w front (keep_written (get_or xs j Nothing) (get_or held (k + suc j) false) (get_or remaining (k + suc j) 0) ++ rest)),
      )

  -- from its slot's first bit on stand the bits of node j: pending and then remaining, or the antecedent
  pub kept_slot : (m : Mon) (j : ℕ) → j < length (keeps m) →
      spelled (λ i. get_or (state_bits_of (keeps m) held remaining 0) i false) (slot_in (pieces m) j).offset (keep_width (get_or (keeps m) j Nothing))
      ≡ keep_written (get_or (keeps m) j Nothing) (get_or held j false) (get_or remaining j 0)
  kept_slot m j h =
      let x : Keep = get_or (keeps m) j Nothing in
      let (rest, e) = node_writes (keeps m) j 0 h in
      let z : 0 + j ≡ j = omega arith in
      let front : List Bool = state_bits_of (take j (keeps m)) held remaining 0 in
      let w : List Bool = keep_written x (get_or held j false) (get_or remaining j 0) in
      let e' : state_bits_of (keeps m) held remaining 0 ≡ front ++ (w ++ rest) = e ∙ ap (λ (n : ℕ). front ++ (keep_written x (get_or held n false) (get_or remaining n 0) ++ rest)) z in
      let at : (slot_in (pieces m) j).offset ≡ length front = slot_begins m j ∙ sym (state_length (take j (keeps m)) held remaining 0) in
      let wide : keep_width x ≡ length w = sym (written_length x (get_or held j false) (get_or remaining j 0)) in
      (λ i. spelled (λ n. get_or (e' i) n false) (at i) (wide i)) ∙ spelled_part front w rest

  -- and there are as many bits as the rule has
  pub kept_whole : (m : Mon) → length (state_bits_of (keeps m) held remaining 0) ≡ bits m
  kept_whole m = state_length (keeps m) held remaining 0 ∙ kept_bits_lem m
