-- Bits packed into bytes.
--     packed_bit       bit k of packed bits is bit k of the list, and zero past it
--     packed_length    as many bytes as are needed
--     inked            written one after the other from bit 0 on, bits stand packed in front, and the bytes behind stay
--     repacked         the bits of bytes, packed, are those bytes, where unused bits are zero
use mathlib.Core.Path.{◌≡◌, refl, sym, ap, subst, ◌∙◌}
use mathlib.Core.Bool.{Bool, true, false, cond}
use mathlib.Core.List.{List, [], ◌∷◌, ◌++◌, append_assoc, append-nil}
use mathlib.Core.Logic.{⊎_elim}
use Prim.Native.Nat.{ℕ, zero, suc, ◌+◌, ◌-◌, ◌*◌, ◌/◌, ◌%◌, ◌^◌, ◌≤◌, ◌<◌}
use native.Mathlib.Omega.{arith}
use native.Mathlib.Numerals.{add-one}
use native.Mathlib.Nat.{mod-eq_of_lt, mod-one, zero-add}
use lib.ListN.{length, get_or, set, take, drop, length-append, length-drop, length-set, get_or-append, get_or-eq_default, drop_of_length-le}
use lib.Seq.{sets, sets-eq, length-sets, ext_get_or, get_or-append_seam, get_or-append-add, get_or-take, get_or-drop, get_or-set_same, get_or-set_other, drop-append-le, take-append-le, take_all, take_at, drop_at, length-take-le}
use Rattle.formula.specs.Pure.{bit}
use Rattle.formula.proofs.Cases.{below_or}
use Rattle.plan.specs.Book.{listed}
use Rattle.encoding.specs.Encoding.{bytes_for}
use Rattle.bits.specs.Bits.{bit_in, blank, number, spelled, byte_of, packed, ink_bit, ink_bits}
use Rattle.bits.proofs.Numbers.{number_small, number_snoc, bit_number, spelled_length, spelled_like, spelled_append, blank_number, number_blank, byte_spelled}

-- ---- lists
listed_length : (f : ℕ → ℕ) (r : ℕ) → length (listed f r) ≡ r
unfolding listed
listed_length f zero = refl
listed_length f (suc r) = length-append (listed f r) (f r ∷ []) ∙ ap (λ (n : ℕ). n + 1) (listed_length f r) ∙ add-one r

listed_at : (f : ℕ → ℕ) (r i : ℕ) → i < r → get_or (listed f r) i 0 ≡ f i
unfolding listed
listed_at f zero i h = absurd (omega arith)
listed_at f (suc r) i h = ⊎_elim
    (λ z. get_or-append (listed f r) (f r ∷ []) 0 i (omega (arith, listed_length f r)) ∙ listed_at f r i z)
    (λ z. let e : i ≡ r = omega arith in ap (λ (x : ℕ). get_or (listed f r ++ f r ∷ []) x 0) (e ∙ sym (listed_length f r)) ∙ get_or-append_seam (listed f r) (f r) [] 0 ∙ ap f (sym e))
    (below_or i r)

module _ (l vs : List ℕ) (h : length vs ≤ length l) where
  in_front : sets l 0 vs ≡ vs ++ drop (length vs) l
  in_front = sets-eq vs l 0 (omega arith) ∙ ap (λ (n : ℕ). vs ++ drop n l) (zero-add (length vs))

  pub sets_front : (i : ℕ) → i < length vs → get_or (sets l 0 vs) i 0 ≡ get_or vs i 0
  sets_front i z = ap (λ (x : List ℕ). get_or x i 0) in_front ∙ get_or-append vs (drop (length vs) l) 0 i z

  pub sets_past : (i : ℕ) → length vs ≤ i → get_or (sets l 0 vs) i 0 ≡ get_or l i 0
  sets_past i z =
      let o : length vs + (i - length vs) ≡ i = omega arith in
      ap (λ (x : List ℕ). get_or x i 0) in_front
      ∙ ap (λ (x : ℕ). get_or (vs ++ drop (length vs) l) x 0) (sym o)
      ∙ get_or-append-add vs (drop (length vs) l) (i - length vs) 0
      ∙ get_or-drop (length vs) l (i - length vs) 0
      ∙ ap (λ (x : ℕ). get_or l x 0) o

-- ---- packed bits
pub packed_length : (bs : List Bool) → length (packed bs) ≡ bytes_for (length bs)
unfolding packed
packed_length bs = listed_length (byte_of bs) (bytes_for (length bs))

pub packed_at : (bs : List Bool) (i : ℕ) → i < bytes_for (length bs) → get_or (packed bs) i 0 ≡ byte_of bs i
unfolding packed
packed_at bs i h = listed_at (byte_of bs) (bytes_for (length bs)) i h

pub packed_bit : (bs : List Bool) (k : ℕ) → bit_in (packed bs) k ≡ get_or bs k false
unfolding number
packed_bit bs k = ⊎_elim
    (λ z.
    let o : 8 * (k / 8) + k % 8 ≡ k = omega arith in
    ap (bit (k % 8)) (packed_at bs (k / 8) z)
    ∙ bit_number (take 8 (drop (8 * (k / 8)) bs)) (k % 8)
    ∙ get_or-take 8 (drop (8 * (k / 8)) bs) (k % 8) false (omega arith)
    ∙ get_or-drop (8 * (k / 8)) bs (k % 8) false
    ∙ ap (λ (x : ℕ). get_or bs x false) o)
    (λ z.
    ap (bit (k % 8)) (get_or-eq_default (packed bs) 0 (omega (arith, packed_length bs)))
    ∙ bit_number [] (k % 8)
    ∙ sym (get_or-eq_default bs false (omega arith)))
    (below_or (k / 8) (bytes_for (length bs)))

-- ---- one more bit
module _ (done : List Bool) (b : Bool) where
  -- the bits of the byte that the next bit goes to
  abbrev begun : List Bool
  begun = drop (8 * (length done / 8)) done

  begun_length : length begun ≡ length done % 8
  begun_length = length-drop (8 * (length done / 8)) done ∙ rest (length done)
    where
      rest : (n : ℕ) → n - 8 * (n / 8) ≡ n % 8
      rest n = omega arith

  byte_other : (i : ℕ) → (i ≡ length done / 8 → ⊥) → byte_of (done ++ b ∷ []) i ≡ byte_of done i
  byte_other i h = ⊎_elim
      (λ z.
      ap (λ (x : List Bool). number (take 8 x)) (drop-append-le (8 * i) done (b ∷ []) (omega arith))
      ∙ ap number (take-append-le 8 (drop (8 * i) done) (b ∷ []) (omega (arith, length-drop (8 * i) done))))
      (λ z.
      let q : length done / 8 < i = ⊎_elim (λ y. y) (λ y. absurd (h (omega arith))) (below_or (length done / 8) i) in
      ap (λ (x : List Bool). number (take 8 x)) (drop_of_length-le (done ++ b ∷ []) {i = 8 * i} (omega (arith, length-append done (b ∷ []))))
      ∙ sym (ap (λ (x : List Bool). number (take 8 x)) (drop_of_length-le done {i = 8 * i} (omega arith))))
      (below_or i (length done / 8))

  byte_begun : byte_of done (length done / 8) ≡ number begun
  byte_begun = ap number (take_all 8 begun (omega (arith, begun_length)))

  byte_here : byte_of (done ++ b ∷ []) (length done / 8) ≡ number begun + cond b (2 ^ (length done % 8)) 0
  byte_here =
      ap (λ (x : List Bool). number (take 8 x)) (drop-append-le (8 * (length done / 8)) done (b ∷ []) (omega arith))
      ∙ ap number (take_all 8 (begun ++ b ∷ []) (omega (arith, length-append begun (b ∷ []), begun_length)))
      ∙ number_snoc begun b
      ∙ ap (λ (n : ℕ). number begun + cond b (2 ^ n) 0) begun_length

  module _ (bytes : List ℕ) (h : length done < 8 * length bytes) where
    abbrev so_far : List ℕ
    so_far = sets bytes 0 (packed done)

    fits_front : length (packed done) ≤ length bytes
    fits_front = omega (arith, packed_length done)

    fits_next : length (packed (done ++ b ∷ [])) ≤ length bytes
    fits_next = omega (arith, packed_length (done ++ b ∷ []), length-append done (b ∷ []))

    -- what the byte holds below the next bit
    below_next : get_or so_far (length done / 8) 0 % 2 ^ (length done % 8) ≡ number begun
    unfolding number
    below_next = ⊎_elim
        (λ z.
        ap (λ (x : ℕ). x % 2 ^ (length done % 8)) (sets_front bytes (packed done) fits_front (length done / 8) (omega (arith, packed_length done)) ∙ packed_at done (length done / 8) z ∙ byte_begun)
        ∙ mod-eq_of_lt (subst (λ (n : ℕ). number begun < 2 ^ n) begun_length (number_small begun)))
        (λ z.
        let o : length done % 8 ≡ 0 = omega arith in
        let e : begun ≡ [] = drop_of_length-le done {i = 8 * (length done / 8)} (omega arith) in
        ap (λ (x : ℕ). get_or so_far (length done / 8) 0 % 2 ^ x) o ∙ mod-one (get_or so_far (length done / 8) 0) ∙ nothing ∙ sym (ap number e))
        (below_or (length done / 8) (bytes_for (length done)))
      where
        nothing : 0 ≡ number []
        nothing = refl

    value : ℕ
    value = get_or so_far (length done / 8) 0 % 2 ^ (length done % 8) + cond b (2 ^ (length done % 8)) 0

    at_byte : (i : ℕ) → i < length bytes → get_or (set so_far (length done / 8) value) i 0 ≡ get_or (sets bytes 0 (packed (done ++ b ∷ []))) i 0
    unfolding value
    at_byte i l = ⊎_elim (λ z. other i l (λ e. omega arith)) (λ z. ⊎_elim (λ y. other i l (λ e. omega arith)) (λ y. here i (omega arith)) (below_or (length done / 8) i)) (below_or i (length done / 8))
      where
        here : (i : ℕ) → i ≡ length done / 8 → get_or (set so_far (length done / 8) value) i 0 ≡ get_or (sets bytes 0 (packed (done ++ b ∷ []))) i 0
        here i e =
            ap (λ (x : ℕ). get_or (set so_far (length done / 8) value) x 0) e
            ∙ get_or-set_same so_far (length done / 8) value 0 (omega (arith, length-sets bytes 0 (packed done)))
            ∙ ap (λ (x : ℕ). x + cond b (2 ^ (length done % 8)) 0) below_next
            ∙ sym byte_here
            ∙ sym (packed_at (done ++ b ∷ []) (length done / 8) (omega (arith, length-append done (b ∷ []))))
            ∙ sym (sets_front bytes (packed (done ++ b ∷ [])) fits_next (length done / 8) (omega (arith, packed_length (done ++ b ∷ []), length-append done (b ∷ []))))
            ∙ ap (λ (x : ℕ). get_or (sets bytes 0 (packed (done ++ b ∷ []))) x 0) (sym e)

        other : (i : ℕ) → i < length bytes → (i ≡ length done / 8 → ⊥) → get_or (set so_far (length done / 8) value) i 0 ≡ get_or (sets bytes 0 (packed (done ++ b ∷ []))) i 0
        other i l n = get_or-set_other so_far (length done / 8) i value 0 n ∙ ⊎_elim
            (λ z.
            sets_front bytes (packed done) fits_front i (omega (arith, packed_length done))
            ∙ packed_at done i z
            ∙ sym (byte_other i n)
            ∙ sym (packed_at (done ++ b ∷ []) i (omega (arith, length-append done (b ∷ []))))
            ∙ sym (sets_front bytes (packed (done ++ b ∷ [])) fits_next i (omega (arith, packed_length (done ++ b ∷ []), length-append done (b ∷ [])))))
            (λ z.
            let q : length done / 8 < i = ⊎_elim (λ y. y) (λ y. absurd (n (omega arith))) (below_or (length done / 8) i) in
            sets_past bytes (packed done) fits_front i (omega (arith, packed_length done))
            ∙ sym (sets_past bytes (packed (done ++ b ∷ [])) fits_next i (omega (arith, packed_length (done ++ b ∷ []), length-append done (b ∷ [])))))
            (below_or i (bytes_for (length done)))

    ink_next : ink_bit so_far (length done) b ≡ sets bytes 0 (packed (done ++ b ∷ []))
    unfolding ink_bit value
    ink_next = ext_get_or 0 (set so_far (length done / 8) value) (sets bytes 0 (packed (done ++ b ∷ [])))
        (length-set so_far (length done / 8) value ∙ length-sets bytes 0 (packed done) ∙ sym (length-sets bytes 0 (packed (done ++ b ∷ []))))
        (λ i l. at_byte i (omega (arith, length-set so_far (length done / 8) value, length-sets bytes 0 (packed done))))

inked_from : (bytes : List ℕ) (done rest : List Bool) → length done + length rest ≤ 8 * length bytes → ink_bits (sets bytes 0 (packed done)) (length done) rest ≡ sets bytes 0 (packed (done ++ rest))
unfolding ink_bits
inked_from bytes done [] h = ap (λ (x : List Bool). sets bytes 0 (packed x)) (sym (append-nil done))
inked_from bytes done (b ∷ rest) h =
    let l : length (done ++ b ∷ []) ≡ length done + 1 = length-append done (b ∷ []) in
    (λ i. ink_bits (ink_next done b bytes (omega arith) i) (sym l i) rest)
    ∙ inked_from bytes (done ++ b ∷ []) rest (omega (arith, l))
    ∙ ap (λ (x : List Bool). sets bytes 0 (packed x)) (append_assoc done (b ∷ []) rest)

pub inked : (bytes : List ℕ) (bs : List Bool) → length bs ≤ 8 * length bytes → ink_bits bytes 0 bs ≡ sets bytes 0 (packed bs)
unfolding packed listed
inked bytes bs h = inked_from bytes [] bs (omega arith)

-- ---- bytes, their bits, and bytes again
drop_spelled : (bits : ℕ → Bool) (at a n : ℕ) → a ≤ n → drop a (spelled bits at n) ≡ spelled bits (at + a) (n - a)
drop_spelled bits at a n h =
    let o : n ≡ a + (n - a) = omega arith in
    ap (λ (x : ℕ). drop a (spelled bits at x)) o ∙ ap (drop a) (spelled_append bits at a (n - a)) ∙ drop_at (spelled bits at a) _ a (spelled_length bits at a)

take_spelled : (bits : ℕ → Bool) (at a n : ℕ) → a ≤ n → take a (spelled bits at n) ≡ spelled bits at a
take_spelled bits at a n h =
    let o : n ≡ a + (n - a) = omega arith in
    ap (λ (x : ℕ). take a (spelled bits at x)) o ∙ ap (take a) (spelled_append bits at a (n - a)) ∙ take_at (spelled bits at a) _ a (spelled_length bits at a)

-- each is a byte
abbrev pub AreBytes : List ℕ → Type 0
AreBytes bytes = (i : ℕ) → get_or bytes i 0 < 256

module _ (bytes : List ℕ) (small : AreBytes bytes) (n : ℕ) (unused : blank (bit_in bytes) n (8 * bytes_for n - n) ≡ true) where
  abbrev bits : ℕ → Bool
  bits = bit_in bytes

  -- the eight bits of byte i
  own_bits : (i : ℕ) → number (spelled bits (8 * i) 8) ≡ get_or bytes i 0
  own_bits i =
      ap number (spelled_like bits (λ k. bit k (get_or bytes i 0)) (8 * i) 0 8 (λ j l.
      let p : (8 * i + j) % 8 ≡ j = omega arith in
      let q : (8 * i + j) / 8 ≡ i = omega arith in
      (λ x. bit (p x) (get_or bytes (q x) 0)) ∙ ap (λ (y : ℕ). bit y (get_or bytes i 0)) (sym (zero-add j))))
      ∙ byte_spelled (get_or bytes i 0) (small i)

  read_byte : (i : ℕ) → i < bytes_for n → byte_of (spelled bits 0 n) i ≡ get_or bytes i 0
  read_byte i h = ⊎_elim
      (λ z.
      let o : n - 8 * i ≤ 8 = omega arith in
      let p : 8 * i + (n - 8 * i) ≡ n = omega arith in
      let q : n - 8 * i + (8 * bytes_for n - n) ≡ 8 = omega arith in
      front ∙ ap number (take_all 8 (spelled bits (8 * i) (n - 8 * i)) (omega (arith, spelled_length bits (8 * i) (n - 8 * i))))
      ∙ sym (number_blank (spelled bits (8 * i) (n - 8 * i)) (spelled bits n (8 * bytes_for n - n)) (blank_number bits n (8 * bytes_for n - n) unused))
      ∙ ap number (ap (λ (x : ℕ). spelled bits (8 * i) (n - 8 * i) ++ spelled bits x (8 * bytes_for n - n)) (sym p) ∙ sym (spelled_append bits (8 * i) (n - 8 * i) (8 * bytes_for n - n)) ∙ ap (spelled bits (8 * i)) q)
      ∙ own_bits i)
      (λ z. front ∙ ap number (take_spelled bits (8 * i) 8 (n - 8 * i) (omega arith)) ∙ own_bits i)
      (below_or n (8 * i + 8))
    where
      front : byte_of (spelled bits 0 n) i ≡ number (take 8 (spelled bits (8 * i) (n - 8 * i)))
      front = ap (λ (x : List Bool). number (take 8 x)) (drop_spelled bits 0 (8 * i) n (omega arith) ∙ ap (λ (x : ℕ). spelled bits x (n - 8 * i)) (zero-add (8 * i)))

  pub repacked : bytes_for n ≤ length bytes → packed (spelled bits 0 n) ≡ take (bytes_for n) bytes
  repacked h =
      let l : length (packed (spelled bits 0 n)) ≡ bytes_for n = packed_length (spelled bits 0 n) ∙ ap bytes_for (spelled_length bits 0 n) in
      ext_get_or 0 (packed (spelled bits 0 n)) (take (bytes_for n) bytes)
      (l ∙ sym (length-take-le (bytes_for n) bytes h))
      (λ i z.
      let y : i < bytes_for n = omega (arith, l) in
      packed_at (spelled bits 0 n) i (omega (arith, spelled_length bits 0 n)) ∙ read_byte i y ∙ sym (get_or-take (bytes_for n) bytes i 0 y))
