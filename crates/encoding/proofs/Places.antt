-- Where slots begin, slot by slot, and what a book may open with.
use mathlib.Core.Path.{◌≡◌, refl, sym, ap, ◌∙◌}
use mathlib.Core.Bool.{Bool, true, false, ◌&&◌}
use mathlib.Core.List.{List}
use Prim.Native.Nat.{ℕ, ◌+◌, ◌*◌, ◌≤◌, ◌<◌}
use native.Mathlib.Omega.{arith}
use borrow.Author.Tests.{le-leb, leb-true, ltb-true}
use lib.Dec.{leb, ltb}
use lib.ListN.{length, get_or, set, take}
use Rattle.std.specs.Prelude.{IsTrue, EachIndex, ◌↔◌}
use lib.Seq.{sets, get_or-take, length-take-le}
use Rattle.formula.proofs.Walks.{both_true}
use Rattle.plan.specs.Book.{listed}
use Rattle.plan.proofs.Books.{fill_none, fill_more}
use Rattle.encoding.specs.Encoding.{slot_bits, slot_from, narrow, opening, Widths}
use Rattle.encoding.proofs.Below.{all_from, all_inv}
use Rattle.encoding.proofs.Sums.{slot_next}

-- the first k of m slots are placed, and the next begins at `place`
pub record Placing (widths : List ℕ) (m base : ℕ) (places places' : List ℕ) (place k : ℕ) : Type 0 where
  pub next : place ≡ slot_from base (take m widths) k
  pub most : place ≤ base + 64 * k
  pub placed : places' ≡ sets places 0 (listed (slot_from base (take m widths)) k)

module _ (widths : List ℕ) (m base : ℕ) (places : List ℕ) where
  pub placing_none : Placing widths m base places places base 0
  unfolding slot_bits
  placing_none = record { next = omega arith; most = omega arith; placed = sym (fill_none places _) }

  pub placing_more : Widths widths m → (places' : List ℕ) (place k : ℕ) → Placing widths m base places places' place k → k < m → Placing widths m base places (set places' k place) (place + get_or widths k 0) (k + 1)
  placing_more w places' place k s h = record {
    next = omega (arith, s.next, slot_next widths m w k h);
    most = omega (arith, s.most, w.each k h);
    placed = ap (λ (l : List ℕ). set l k place) s.placed ∙ fill_more places (slot_from base (take m widths)) k place s.next;
  }

-- ---- what a book may open with
pub narrow_is : (widths : List ℕ) (m : ℕ) (b : Bool) → m ≤ length widths → (IsTrue b ↔ EachIndex (take m widths) (λ k. get_or (take m widths) k 0 ≤ 64)) → b ≡ narrow widths m
narrow_is widths m b h w = go b w (narrow widths m) refl
  where
    long : length (take m widths) ≡ m
    long = length-take-le m widths h

    same : (k : ℕ) → k < m → get_or (take m widths) k 0 ≡ get_or widths k 0
    same k l = get_or-take m widths k 0 l

    go : (b : Bool) → (IsTrue b ↔ EachIndex (take m widths) (λ k. get_or (take m widths) k 0 ≤ 64)) → (t : Bool) → narrow widths m ≡ t → b ≡ t
    go true v t e = sym (all_from (λ (j : ℕ). leb (get_or widths j 0) 64) m (λ k l. le-leb _ _ (omega (arith, v.0 refl k (omega (arith, long)), same k l)))) ∙ e
    go false v true e = v.1 (λ k l. omega (arith, leb-true _ _ (all_inv (λ (j : ℕ). leb (get_or widths j 0) 64) m k e (omega (arith, long))), same k (omega (arith, long))))
    go false v false e = refl

module _ (count : ℕ) (widths : List ℕ) (m : ℕ) where
  -- what it says
  module _ (b : Bool) (e : b ≡ opening count widths m) (t : b ≡ true) where
    pub opening_count : count < 65536
    unfolding opening
    opening_count = ltb-true _ _ (both_true (ltb count 65536) _ (sym e ∙ t)).0

    pub opening_widths : 32 ≤ length widths → Widths widths m
    unfolding opening
    opening_widths h =
        let (_, p) = both_true (ltb count 65536) (leb m 32 && narrow widths m) (sym e ∙ t) in
        let (q, r) = both_true (leb m 32) (narrow widths m) p in
        let few : m ≤ 32 = leb-true _ _ q in
        record { few = few; inside = omega arith; each = λ k l. leb-true _ _ (all_inv (λ (j : ℕ). leb (get_or widths j 0) 64) m k r l) }
