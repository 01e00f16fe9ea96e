-- The `owe` line, from what the code writes one behind the other.
use mathlib.Core.Path.{◌≡◌, sym, subst}
use mathlib.Core.Bool.{true}
use mathlib.Core.List.{List, [], ◌∷◌}
use Prim.Native.Nat.{ℕ, ◌≤◌, ◌<◌}
use native.Mathlib.Omega.{arith}
use Rattle.formula.specs.Spells.{Spells}
use Rattle.formula.specs.Table.{node_at}
use Rattle.liveness.specs.Split.{Obligation, E, U}
use Rattle.split.specs.Held.{obligation_cells}
use Rattle.number.specs.Digits.{decimal}
use Rattle.text.specs.Tape.{Tape, Wrote}
use Rattle.text.proofs.Tapes.{then}
use Rattle.spelling.specs.Spelling.{operand_text}
use Rattle.spelling.specs.Scan.{Pure, Spelled}
use Rattle.listing_line.specs.Line.{tabbed}
use Rattle.listing_line.proofs.Fields.{more, done, group}
use Rattle.listing_live.specs.Live.{owe_word, owe_line}
use Rattle.listing_live.specs.Entry.{OweReady, OweStands, OweWrote, OperandWrote}

abbrev head_fields : ℕ → ℕ → List (List ℕ)
head_fields k letter = owe_word ∷ decimal k ∷ (letter ∷ []) ∷ []

module _ (ops nums : List ℕ) (kind first second : ℕ) (g : OweReady ops nums kind first second) where
  pub ready_first : Pure ops nums first
  ready_first = g.left

  pub ready_second : 1 ≤ kind → Pure ops nums second
  ready_second h = g.right h

pub operand_marked : (ops nums : List ℕ) (i mark : ℕ) (a b c : Tape) → Spelled ops nums i true a b → Wrote b (mark ∷ []) c → OperandWrote ops nums i mark a c
operand_marked ops nums i mark a b c p q = record { is = λ f s. then (p.is f s) q }

module _ (ops nums : List ℕ) (k kind first second : ℕ) (a b c : Tape) where
  pub owe_eventually : kind < 1 → Wrote a (tabbed (head_fields k 69)) b → OperandWrote ops nums first 10 b c → OweWrote ops nums k kind first second a c
  unfolding owe_line
  owe_eventually h p q = record { is = go }
    where
      go : (o : Obligation) → kind ∷ first ∷ second ∷ [] ≡ obligation_cells o → OweStands ops nums o → Wrote a (owe_line k o) c
      go (E i f) e s =
          let z : first ≡ i = cc in
          group (head_fields k 69) (operand_text f) [] p (done (operand_text f) (q.is f (subst (λ (n : ℕ). Spells (node_at ops nums) n f) (sym z) s.0)))
      go (U i f j m) e s = let z : kind ≡ 1 = cc in absurd (omega arith)

  pub owe_until :
      (d : Tape) → 1 ≤ kind → Wrote a (tabbed (head_fields k 85)) b → OperandWrote ops nums first 9 b c → OperandWrote ops nums second 10 c d
      → OweWrote ops nums k kind first second a d
  unfolding owe_line
  owe_until d h p q r = record { is = go }
    where
      go : (o : Obligation) → kind ∷ first ∷ second ∷ [] ≡ obligation_cells o → OweStands ops nums o → Wrote a (owe_line k o) d
      go (E i f) e s = let z : kind ≡ 0 = cc in absurd (omega arith)
      go (U i f j m) e s =
          let z : first ≡ i = cc in
          let y : second ≡ j = cc in
          group (head_fields k 85) (operand_text f) (operand_text m ∷ []) p
          (more (operand_text f) (operand_text m) [] (q.is f (subst (λ (n : ℕ). Spells (node_at ops nums) n f) (sym z) s.0))
          (done (operand_text m) (r.is m (subst (λ (n : ℕ). Spells (node_at ops nums) n m) (sym y) s.1))))
