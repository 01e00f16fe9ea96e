-- The sums of a configuration's bits, and the bytes that hold them.
use mathlib.Core.Path.{◌≡◌, refl, sym, ap, ap₂, ◌∙◌}
use mathlib.Core.Bool.{Bool, true, false, ◌&&◌, not}
use mathlib.Core.List.{List, [], ◌∷◌, ◌++◌}
use Prim.Native.Nat.{ℕ, zero, suc, ◌+◌, ◌*◌, ◌≤◌, ◌<◌}
use native.Mathlib.Omega.{arith}
use native.Mathlib.Numerals.{add-one}
use lib.ListN.{length, get_or, take}
use Rattle.std.specs.List.{sum}
use Rattle.std.proofs.lemmas.List.Sums.{sum_by-cons}
use lib.Seq.{take-suc, get_or-take, length-take-le}
use Rattle.terms.specs.Choice.{pick}
use Rattle.plan.specs.Book.{bits_below, of_kind, properties, assumptions, is_zero, part_bits, Rowed, Counted}
use Rattle.plan.proofs.Widths.{ceil_log2_lem}
use Rattle.encoding.specs.Encoding.{state_bits_of, slot_bits, bytes_for, LeastBytes, Widths, StateSum, SlotSum, MonitorSum}

-- ---- bytes
pub bytes_least : (t : ℕ) → LeastBytes t (bytes_for t)
bytes_least t = record { enough = omega arith; least = λ j h. omega arith }

-- ---- the state
pub state_sum : (count r : ℕ) → count < 65536 → r ≡ state_bits_of count → StateSum count r
state_sum count r h e = record { is = e; most = omega (arith, (ceil_log2_lem count).least 16 (omega arith)) }

-- ---- the slots
slots_append : (xs ys : List ℕ) → slot_bits (xs ++ ys) ≡ slot_bits xs + slot_bits ys
unfolding slot_bits
slots_append [] ys = omega arith
slots_append (x ∷ xs) ys = omega (arith, slots_append xs ys)

-- one slot more
pub slots_more : (ws : List ℕ) (k : ℕ) → k < length ws → slot_bits (take (k + 1) ws) ≡ slot_bits (take k ws) + get_or ws k 0
unfolding slot_bits
slots_more ws k h =
    ap (λ (j : ℕ). slot_bits (take j ws)) (add-one k) ∙ ap slot_bits (take-suc ws k 0 h) ∙ slots_append (take k ws) (get_or ws k 0 ∷ []) ∙ omega arith

slots_sum : (ws : List ℕ) → slot_bits ws ≡ sum ws
unfolding slot_bits
slots_sum [] = refl
slots_sum (w ∷ ws) = ap (w +◌) (slots_sum ws) ∙ sym (sum_by-cons (λ x. x) w ws)

slots_upto : (ws : List ℕ) → ((k : ℕ) → k < length ws → get_or ws k 0 ≤ 64) → slot_bits ws ≤ 64 * length ws
unfolding slot_bits
slots_upto [] h = omega arith
slots_upto (w ∷ ws) h = omega (arith, h 0 (omega arith), slots_upto ws (λ k l. h (suc k) (omega arith)))

-- the widths of m slots: each is at most 64 bits
module _ (widths : List ℕ) (m : ℕ) (w : Widths widths m) where
  many : length (take m widths) ≡ m
  many = length-take-le m widths w.inside

  slots_most : slot_bits (take m widths) ≤ 64 * m
  slots_most = omega (arith, many, slots_upto (take m widths) (λ k h. omega (arith, get_or-take m widths k 0 (omega (arith, many)), w.each k (omega (arith, many)))))

  pub slots_fit : sum (take m widths) < 18446744073709551616
  slots_fit = omega (arith, slots_sum (take m widths), slots_most, w.few)

  pub slots_summed : (r : ℕ) → r ≡ sum (take m widths) → SlotSum (take m widths) m r
  slots_summed r e = record { is = e ∙ sym (slots_sum (take m widths)); most = omega (arith, e, slots_sum (take m widths), slots_most) }

  -- one slot more
  pub slot_next : (k : ℕ) → k < m → slot_bits (take (k + 1) (take m widths)) ≡ slot_bits (take k (take m widths)) + get_or widths k 0
  slot_next k h = slots_more (take m widths) k (omega (arith, many)) ∙ ap (λ (n : ℕ). slot_bits (take k (take m widths)) + n) (get_or-take m widths k 0 h)

-- ---- the monitors: properties and assumptions are all rules that compile
pub kinds_add : (property compiled : ℕ → Bool) (bits : ℕ → ℕ) (n : ℕ)
    → bits_below (properties property compiled) bits n + bits_below (assumptions property compiled) bits n ≡ bits_below compiled bits n
unfolding bits_below
kinds_add property compiled bits zero = omega arith
kinds_add property compiled bits (suc n) = omega (arith, kinds_add property compiled bits n, one_kind (compiled n) (property n) (bits n))
  where
    one_kind : (c q : Bool) (b : ℕ) → pick (c && q) b 0 + pick (c && not q) b 0 ≡ pick c b 0
    one_kind true true b = omega arith
    one_kind true false b = omega arith
    one_kind false q b = omega arith

module _ (kinds refusals nodes nfirsts ncounts : List ℕ) (n : ℕ) (w : Rowed kinds refusals nodes nfirsts ncounts n) (p a : ℕ)
    (u : Counted (of_kind true (is_zero kinds) (is_zero refusals)) (part_bits nodes nfirsts ncounts) n p)
    (v : Counted (of_kind false (is_zero kinds) (is_zero refusals)) (part_bits nodes nfirsts ncounts) n a) where
  pub monitor_sum : MonitorSum n (is_zero refusals) (part_bits nodes nfirsts ncounts) (p + a)
  monitor_sum = record {
    is = ap₂ ◌+◌ u.is v.is ∙ kinds_add (is_zero kinds) (is_zero refusals) (part_bits nodes nfirsts ncounts) n;
    most = omega (arith, u.most, v.most, w.few);
  }
