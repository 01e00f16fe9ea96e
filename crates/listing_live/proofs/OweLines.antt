-- The `owe` lines of a split, obligation by obligation.
use mathlib.Core.Path.{◌≡◌, refl, sym, ap, ap₂, subst, ◌∙◌}
use mathlib.Core.Bool.{true}
use mathlib.Core.List.{List, [], ◌∷◌, ◌++◌}
use Prim.Native.Nat.{ℕ, zero, suc, ◌+◌, ◌*◌, ◌≤◌, ◌<◌}
use native.Mathlib.Omega.{arith}
use native.Mathlib.Numerals.{add-one}
use native.Mathlib.Nat.{add-zero}
use lib.ListN.{length, get_or, take, drop, length-append}
use lib.Seq.{sets, sets-eq, take-suc, take-length, length-take-le}
use Rattle.formula.specs.Tree.{leaf, one, two, size}
use Rattle.formula.specs.Spells.{Spells}
use Rattle.formula.specs.Formula.{Formula, var, not, next, always, eventually, always_for, within, and, or, implies, until}
use Rattle.formula.specs.Table.{node_at}
use Rattle.formula.specs.Pure.{pure}
use Rattle.result.specs.declared.Refusal.TheVariants.{EventuallyOperand, UntilOperand}
use Rattle.liveness.specs.Split.{faults, Obligation, E, U, obligations_of}
use Rattle.formula.proofs.Faults.{append_nil_inv, unless_nil}
use Rattle.liveness.proofs.Words.{both_nil}
use Rattle.split.specs.Held.{obligation_cells, owed_cells}
use Rattle.split.proofs.Cells.{owed_length}
use Rattle.text.specs.Tape.{Tape, Wrote, joined}
use Rattle.text.proofs.Tapes.{as_text, append-nil, joined_append, nothing, then}
use Rattle.spelling.specs.Scan.{Pure}
use Rattle.listing_live.specs.Live.{owe_line, owe_lines}
use Rattle.listing_live.specs.Entry.{OweReady, OweStands, OweWrote, OwesReady, OwesStand, OwesWrote}

-- what stands past the end of a list
abbrev nil : Obligation
nil = E 0 (leaf (var 0))

abbrev three : List ℕ → ℕ → List ℕ
three l k = get_or l (3 * k) 0 ∷ get_or l (3 * k + 1) 0 ∷ get_or l (3 * k + 2) 0 ∷ []

past_three : (x y z : ℕ) (l : List ℕ) (k : ℕ) → three (x ∷ y ∷ z ∷ l) (suc k) ≡ three l k
past_three x y z l k =
    let p : 3 * suc k ≡ suc (suc (suc (3 * k))) = omega arith in
    let q : 3 * suc k + 1 ≡ suc (suc (suc (3 * k + 1))) = omega arith in
    let r : 3 * suc k + 2 ≡ suc (suc (suc (3 * k + 2))) = omega arith in
    let l' : List ℕ = x ∷ y ∷ z ∷ l in
    ap₂ ◌∷◌ (ap (λ (n : ℕ). get_or l' n 0) p) (ap₂ ◌∷◌ (ap (λ (n : ℕ). get_or l' n 0) q) (ap (λ (n : ℕ). get_or l' n 0 ∷ []) r))

three_at : (os : List Obligation) (rest : List ℕ) (k : ℕ) → k < length os → three (owed_cells os ++ rest) k ≡ obligation_cells (get_or os k nil)
unfolding owed_cells
three_at [] rest k h = absurd (omega arith)
three_at (E i f ∷ os) rest zero h = refl
three_at (U i f j g ∷ os) rest zero h = refl
three_at (E i f ∷ os) rest (suc k) h = past_three 0 i 0 (owed_cells os ++ rest) k ∙ three_at os rest k (omega arith)
three_at (U i f j g ∷ os) rest (suc k) h = past_three 1 i j (owed_cells os ++ rest) k ∙ three_at os rest k (omega arith)

lines_append : (s t : List Obligation) (k : ℕ) → owe_lines (s ++ t) k ≡ owe_lines s k ++ owe_lines t (k + length s)
unfolding owe_lines
lines_append [] t k = ap (owe_lines t) (sym (add-zero k))
lines_append (o ∷ s) t k =
    let e : k + 1 + length s ≡ k + suc (length s) = omega arith in
    ap (owe_line k o ∷◌) (lines_append s t (k + 1) ∙ ap (λ (n : ℕ). owe_lines s (k + 1) ++ owe_lines t n) e)

abbrev sofar : List Obligation → ℕ → List ℕ
sofar os k = joined (owe_lines (take k os) 0)

sofar_next : (os : List Obligation) (k : ℕ) → k < length os → sofar os (k + 1) ≡ sofar os k ++ owe_line k (get_or os k nil)
unfolding owe_lines joined
sofar_next os k h =
    let o : Obligation = get_or os k nil in
    let e : take (k + 1) os ≡ take k os ++ o ∷ [] = ap (λ (n : ℕ). take n os) (add-one k) ∙ take-suc os k nil h in
    let n : 0 + length (take k os) ≡ k = omega (arith, length-take-le k os (omega arith)) in
    ap (λ (l : List Obligation). joined (owe_lines l 0)) e
    ∙ ap joined (lines_append (take k os) (o ∷ []) 0)
    ∙ joined_append (owe_lines (take k os) 0) (owe_lines (o ∷ []) (0 + length (take k os)))
    ∙ ap (λ (j : ℕ). sofar os k ++ (owe_line j o ++ [])) n
    ∙ ap (λ (l : List ℕ). sofar os k ++ l) (append-nil (owe_line k o))

stands_at : (ops nums : List ℕ) (os : List Obligation) (k : ℕ) → OwesStand ops nums os → k < length os → OweStands ops nums (get_or os k nil)
unfolding OwesStand
stands_at ops nums [] k s h = absurd (omega arith)
stands_at ops nums (o ∷ os) zero s h = s.0
stands_at ops nums (o ∷ os) (suc k) s h = stands_at ops nums os k s.1 (omega arith)

-- ---- the loop: k obligations are written
pub record Owed (ops nums l : List ℕ) (n k : ℕ) (a b : Tape) : Type 0 where
  pub high : k ≤ n
  pub wrote : (os : List Obligation) (rest : List ℕ) → length os ≡ n → l ≡ owed_cells os ++ rest → OwesStand ops nums os → Wrote a (sofar os k) b

module _ (ops nums l : List ℕ) (n : ℕ) where
  pub owed_first : (a : Tape) → Owed ops nums l n 0 a a
  unfolding owe_lines joined
  owed_first a = record { high = omega arith; wrote = λ os rest p q s. nothing a }

  pub owed_next :
      (k : ℕ) (a b c : Tape) → Owed ops nums l n k a b → k < n
      → OweWrote ops nums k (get_or l (3 * k) 0) (get_or l (3 * k + 1) 0) (get_or l (3 * k + 2) 0) b c → Owed ops nums l n (k + 1) a c
  owed_next k a b c s h w = record {
    high = omega arith;
    wrote = λ os rest p q t.
        let i : k < length os = omega arith in
        let e : three l k ≡ obligation_cells (get_or os k nil) = ap (λ (x : List ℕ). three x k) q ∙ three_at os rest k i in
        as_text a c (sofar_next os k i) (then (s.wrote os rest p q t) (w.is (get_or os k nil) e (stands_at ops nums os k t i)));
  }

  pub owed_all : (k : ℕ) (a b : Tape) → Owed ops nums l n k a b → n ≤ k → OwesWrote ops nums l n a b
  owed_all k a b s h = record {
    is = λ os rest p q t.
        let e : k ≡ length os = omega (arith, s.high) in
        as_text a b (sym (ap (λ (j : ℕ). sofar os j) e ∙ ap (λ (x : List Obligation). joined (owe_lines x 0)) (take-length os))) (s.wrote os rest p q t);
  }

  module _ (k : ℕ) (g : OwesReady ops nums l n) (h : k < n) where
    pub owe_ready : OweReady ops nums (get_or l (3 * k) 0) (get_or l (3 * k + 1) 0) (get_or l (3 * k + 2) 0)
    owe_ready = g.owe k h

    pub owe_room : 3 * k < length l
    owe_room = omega (arith, g.room)

    pub owe_room_1 : 3 * k + 1 < length l
    owe_room_1 = omega (arith, g.room)

    pub owe_room_2 : 3 * k + 2 < length l
    owe_room_2 = omega (arith, g.room)

-- ---- the obligations of a formula in the table stand there
stand_append : (ops nums : List ℕ) (s t : List Obligation) → OwesStand ops nums s → OwesStand ops nums t → OwesStand ops nums (s ++ t)
unfolding OwesStand
stand_append ops nums [] t p q = q
stand_append ops nums (o ∷ s) t p q = (p.0, stand_append ops nums s t p.1 q)

pub owes_stand : (ops nums : List ℕ) (f : Formula) (i : ℕ) → Spells (node_at ops nums) i f → OwesStand ops nums (obligations_of f i)
unfolding OwesStand obligations_of Spells
owes_stand ops nums (leaf a) i s = tt
owes_stand ops nums (one not f) i s = owes_stand ops nums f (i + 1) s.1
owes_stand ops nums (one next f) i s = tt
owes_stand ops nums (one always f) i s = tt
owes_stand ops nums (one eventually f) i s = ((s.1, s.1), tt)
owes_stand ops nums (one (always_for b) f) i s = tt
owes_stand ops nums (one (within b) f) i s = tt
owes_stand ops nums (two and l r) i s =
    stand_append ops nums (obligations_of l (i + 1)) (obligations_of r (i + 1 + size l)) (owes_stand ops nums l (i + 1) s.1) (owes_stand ops nums r (i + 1 + size l) s.2)
owes_stand ops nums (two or l r) i s =
    stand_append ops nums (obligations_of l (i + 1)) (obligations_of r (i + 1 + size l)) (owes_stand ops nums l (i + 1) s.1) (owes_stand ops nums r (i + 1 + size l) s.2)
owes_stand ops nums (two implies l r) i s =
    stand_append ops nums (obligations_of l (i + 1)) (obligations_of r (i + 1 + size l)) (owes_stand ops nums l (i + 1) s.1) (owes_stand ops nums r (i + 1 + size l) s.2)
owes_stand ops nums (two until l r) i s = ((s.1, s.2), tt)

-- ---- and where no fault applies, their operands are pure
abbrev Purely : List ℕ → List ℕ → Obligation → Type 0
Purely ops nums (E i f) = Pure ops nums i × Pure ops nums i
Purely ops nums (U i f j g) = Pure ops nums i × Pure ops nums j

unfoldable pub OwesPure : List ℕ → List ℕ → List Obligation → Type 0
OwesPure ops nums [] = Unit
OwesPure ops nums (o ∷ os) = Purely ops nums o × OwesPure ops nums os

pure_append : (ops nums : List ℕ) (s t : List Obligation) → OwesPure ops nums s → OwesPure ops nums t → OwesPure ops nums (s ++ t)
unfolding OwesPure
pure_append ops nums [] t p q = q
pure_append ops nums (o ∷ s) t p q = (p.0, pure_append ops nums s t p.1 q)

module _ (ops nums : List ℕ) where
  pure_there : (f : Formula) (i : ℕ) → pure f ≡ true → Spells (node_at ops nums) i f → i + size f ≤ length ops → i + size f ≤ length nums → Pure ops nums i
  pure_there f i p s g h = record { place = record { formula = f; spells = s; in_ops = g; in_nums = h }; is_pure = p }

  pub owes_pure : (f : Formula) (i : ℕ) → Spells (node_at ops nums) i f → i + size f ≤ length ops → i + size f ≤ length nums → faults f ≡ [] → OwesPure ops nums (obligations_of f i)
  unfolding OwesPure obligations_of Spells faults size
  owes_pure (leaf a) i s g h e = tt
  owes_pure (one not f) i s g h e = owes_pure f (i + 1) s.1 (omega arith) (omega arith) e
  owes_pure (one next f) i s g h e = tt
  owes_pure (one always f) i s g h e = tt
  owes_pure (one eventually f) i s g h e =
      let p = pure_there f (i + 1) (unless_nil (pure f) EventuallyOperand e) s.1 (omega arith) (omega arith) in
      ((p, p), tt)
  owes_pure (one (always_for b) f) i s g h e = tt
  owes_pure (one (within b) f) i s g h e = tt
  owes_pure (two and l r) i s g h e =
      let (p, q) = append_nil_inv (faults l) (faults r) e in
      pure_append ops nums (obligations_of l (i + 1)) (obligations_of r (i + 1 + size l)) (owes_pure l (i + 1) s.1 (omega arith) (omega arith) p) (owes_pure r (i + 1 + size l) s.2 (omega arith) (omega arith) q)
  owes_pure (two or l r) i s g h e =
      let (p, q) = append_nil_inv (faults l) (faults r) e in
      pure_append ops nums (obligations_of l (i + 1)) (obligations_of r (i + 1 + size l)) (owes_pure l (i + 1) s.1 (omega arith) (omega arith) p) (owes_pure r (i + 1 + size l) s.2 (omega arith) (omega arith) q)
  owes_pure (two implies l r) i s g h e =
      let (p, q) = append_nil_inv (faults l) (faults r) e in
      pure_append ops nums (obligations_of l (i + 1)) (obligations_of r (i + 1 + size l)) (owes_pure l (i + 1) s.1 (omega arith) (omega arith) p) (owes_pure r (i + 1 + size l) s.2 (omega arith) (omega arith) q)
  owes_pure (two until l r) i s g h e =
      let (p, q) = both_nil (pure l) (pure r) UntilOperand e in
      ((pure_there l (i + 1) p s.1 (omega arith) (omega arith), pure_there r (i + 1 + size l) q s.2 (omega arith) (omega arith)), tt)

  pure_at : (os : List Obligation) (k : ℕ) → OwesPure ops nums os → k < length os → Purely ops nums (get_or os k nil)
  unfolding OwesPure
  pure_at [] k s h = absurd (omega arith)
  pure_at (o ∷ os) zero s h = s.0
  pure_at (o ∷ os) (suc k) s h = pure_at os k s.1 (omega arith)

  ready_of : (o : Obligation) (x y z : ℕ) → x ∷ y ∷ z ∷ [] ≡ obligation_cells o → Purely ops nums o → OweReady ops nums x y z
  ready_of (E i f) x y z e p =
      let a : x ≡ 0 = cc in
      let b : y ≡ i = cc in
      record { left = subst (Pure ops nums) (sym b) p.0; right = λ q. absurd (omega arith) }
  ready_of (U i f j g) x y z e p =
      let b : y ≡ i = cc in
      let c : z ≡ j = cc in
      record { left = subst (Pure ops nums) (sym b) p.0; right = λ q. subst (Pure ops nums) (sym c) p.1 }

  -- what the `owe` lines ask, from the split's output
  pub owes_ready : (os : List Obligation) (l rest : List ℕ) → l ≡ owed_cells os ++ rest → OwesPure ops nums os → OwesReady ops nums l (length os)
  owes_ready os l rest e p = record {
    room = omega (arith, owed_length os, ap length e ∙ length-append (owed_cells os) rest);
    owe = λ k h. ready_of (get_or os k nil) (get_or l (3 * k) 0) (get_or l (3 * k + 1) 0) (get_or l (3 * k + 2) 0) (ap (λ (x : List ℕ). three x k) e ∙ three_at os rest k h) (pure_at os k p h);
  }

  -- a split's obligations stand at the front of the lent slice
  pub owed_front : (os : List Obligation) (o : List ℕ) → 3 * length os ≤ length o → sets o 0 (owed_cells os) ≡ owed_cells os ++ drop (0 + length (owed_cells os)) o
  owed_front os o h = sets-eq (owed_cells os) o 0 (omega (arith, owed_length os))
