-- The way over the rows: k of them are done, and the next one's bits begin at bit `at`. What is left decides the whole.
--     Going       the place, and room for what is left
--     Marking     no mark so far
--     Writing     the bits so far are written
--     Sounding    the bits so far are sound
--     Entering    the entries so far are stored
use mathlib.Core.Path.{◌≡◌, refl, sym, ap, ◌∙◌}
use mathlib.Core.Bool.{Bool, true, false, ◌&&◌, ◌||◌}
use mathlib.Core.List.{List, [], ◌∷◌, ◌++◌}
use Prim.Native.Nat.{ℕ, zero, suc, ◌+◌, ◌-◌, ◌*◌, ◌≤◌, ◌<◌}
use native.Mathlib.Omega.{arith}
use lib.ListN.{length, get_or}
use Rattle.monitor.specs.Table.{row_of}
use Rattle.plan.specs.Rows.{RowsPart}
use Rattle.node_step.specs.declared.state.MonState.{MonState}
use Rattle.node_step.specs.Memory.{Memory, put}
use Rattle.bits.specs.Bits.{bit_in, ink_bit, ink_bits}
use Rattle.bits.proofs.Loops.{ink_length}
use Rattle.bits.proofs.Numbers.{digits_length}
use Rattle.kept.specs.declared.Keep.{Keep}
use Rattle.kept.specs.declared.Keep.TheVariants.{Nothing, Antecedent, Window}
use Rattle.kept.specs.Kept.{keep_row, keep_width, keep_written, keep_spent, kept_bits, row_keeps, spent, spent_from, state_bits_of, keep_entry, entry_sound, entries_in, entered, sound_from, PutKept, Space}
use Rattle.saving.proofs.Rows.{rest_row, rest_none}

-- what is left after k rows
abbrev pub left : List ℕ → ℕ → ℕ → ℕ → List Keep
left nodes nfirst n k = row_keeps nodes (nfirst + k) (n - k)

pub record Going (nodes : List ℕ) (nfirst n : ℕ) (bytes : List ℕ) (k at : ℕ) : Type 0 where
  pub rows : RowsPart nodes nfirst n
  pub upto : k ≤ n
  pub most : at ≤ 65 * k
  pub room : at + kept_bits (left nodes nfirst n k) ≤ 8 * length bytes

module _ (nodes : List ℕ) (nfirst n : ℕ) (bytes : List ℕ) where
  module _ (k at : ℕ) (g : Going nodes nfirst n bytes k at) (h : k < n) where
    next_bits : kept_bits (left nodes nfirst n k) ≡ keep_width (keep_row (row_of nodes (nfirst + k))) + kept_bits (left nodes nfirst n (k + 1))
    unfolding kept_bits
    next_bits = ap kept_bits (rest_row nodes nfirst n k h)

    module _ (x : Keep) (e : x ≡ keep_row (row_of nodes (nfirst + k))) where
      pub going_room : Space bytes at (keep_width x)
      going_room = record { inside = omega (arith, g.room, next_bits, ap keep_width e); low = omega (arith, g.most, g.rows.few) }

    module _ (x : Keep) (e : x ≡ keep_row (row_of nodes (nfirst + k))) (w : ℕ) (q : (w ≡ keep_width x) × (w ≤ 65)) where
      going_more : (bytes' : List ℕ) → length bytes' ≡ length bytes → Going nodes nfirst n bytes' (k + 1) (at + w)
      going_more bytes' l = record {
        rows = g.rows;
        upto = omega arith;
        most = omega (arith, q.1, g.most);
        room = omega (arith, g.room, next_bits, ap keep_width e, q.0, l);
      }

-- ---- marks
pub record Marking (nodes : List ℕ) (nfirst n : ℕ) (failed : List Bool) (k : ℕ) : Type 0 where
  pub rest : spent (row_keeps nodes nfirst n) failed ≡ spent_from (left nodes nfirst n k) failed k

module _ (nodes : List ℕ) (nfirst n : ℕ) (failed : List Bool) where
  module _ (k : ℕ) (g : Marking nodes nfirst n failed k) where
    pub marking_all : n ≤ k → false ≡ spent (row_keeps nodes nfirst n) failed
    unfolding spent_from
    marking_all h = sym (g.rest ∙ ap (λ (x : List Keep). spent_from x failed k) (rest_none nodes nfirst n k h))

    module _ (h : k < n) where
      module _ (x : Keep) (e : x ≡ keep_row (row_of nodes (nfirst + k))) (b : Bool) (q : b ≡ keep_spent x (get_or failed k false)) where
        here : spent (row_keeps nodes nfirst n) failed ≡ (b || spent_from (left nodes nfirst n (k + 1)) failed (k + 1))
        unfolding spent_from
        here = g.rest ∙ ap (λ (y : List Keep). spent_from y failed k) (rest_row nodes nfirst n k h)
            ∙ ap (λ (c : Bool). c || spent_from (left nodes nfirst n (k + 1)) failed (k + 1)) (ap (λ (y : Keep). keep_spent y (get_or failed k false)) (sym e) ∙ sym q)

        pub marking_found : b ≡ true → true ≡ spent (row_keeps nodes nfirst n) failed
        marking_found z = sym (here ∙ ap (λ (c : Bool). c || spent_from (left nodes nfirst n (k + 1)) failed (k + 1)) z)

        pub marking_more : b ≡ false → Marking nodes nfirst n failed (k + 1)
        marking_more z = record {
          rest = here ∙ ap (λ (c : Bool). c || spent_from (left nodes nfirst n (k + 1)) failed (k + 1)) z;
        }

-- ---- writing
inks_append : (bytes : List ℕ) (at : ℕ) (xs ys : List Bool) → ink_bits bytes at (xs ++ ys) ≡ ink_bits (ink_bits bytes at xs) (at + length xs) ys
unfolding ink_bits
inks_append bytes at [] ys = let o : at ≡ at + 0 = omega arith in ap (λ (x : ℕ). ink_bits bytes x ys) o
inks_append bytes at (x ∷ xs) ys =
    let o : at + 1 + length xs ≡ at + suc (length xs) = omega arith in
    inks_append (ink_bit bytes at x) (at + 1) xs ys ∙ ap (λ (a : ℕ). ink_bits (ink_bits (ink_bit bytes at x) (at + 1) xs) a ys) o

pub inks_length : (bytes : List ℕ) (at : ℕ) (xs : List Bool) → length (ink_bits bytes at xs) ≡ length bytes
unfolding ink_bits
inks_length bytes at [] = refl
inks_length bytes at (x ∷ xs) = inks_length (ink_bit bytes at x) (at + 1) xs ∙ ink_length bytes at x

pub written_length : (x : Keep) (held : Bool) (remaining : ℕ) → length (keep_written x held remaining) ≡ keep_width x
written_length Nothing held remaining = refl
written_length Antecedent held remaining = refl
written_length (Window zero) held remaining = refl
written_length (Window (suc b)) held remaining = ap suc (digits_length _ _) ∙ omega arith

pub record Writing (nodes : List ℕ) (nfirst n : ℕ) (held : List Bool) (remaining bytes₀ bytes : List ℕ) (at k : ℕ) : Type 0 where
  pub going : Going nodes nfirst n bytes k at
  pub rest : ink_bits bytes₀ 0 (state_bits_of (row_keeps nodes nfirst n) held remaining 0) ≡ ink_bits bytes at (state_bits_of (left nodes nfirst n k) held remaining k)

module _ (nodes : List ℕ) (nfirst n : ℕ) (held : List Bool) (remaining bytes₀ : List ℕ) where
  module _ (bytes : List ℕ) (at k : ℕ) (g : Writing nodes nfirst n held remaining bytes₀ bytes at k) where
    pub writing_all : n ≤ k → bytes ≡ ink_bits bytes₀ 0 (state_bits_of (row_keeps nodes nfirst n) held remaining 0)
    unfolding state_bits_of ink_bits
    writing_all h = sym (g.rest ∙ ap (λ (x : List Keep). ink_bits bytes at (state_bits_of x held remaining k)) (rest_none nodes nfirst n k h))

    module _ (h : k < n) where
      pub writing_room : (x : Keep) → x ≡ keep_row (row_of nodes (nfirst + k)) → Space bytes at (keep_width x)
      writing_room x e = going_room nodes nfirst n bytes k at g.going h x e

      module _ (x : Keep) (e : x ≡ keep_row (row_of nodes (nfirst + k))) (w : ℕ) (q : (w ≡ keep_width x) × (w ≤ 65)) where
        pub writing_more : (bytes' : List ℕ) → PutKept bytes at x (get_or held k false) (get_or remaining k 0) bytes' → Writing nodes nfirst n held remaining bytes₀ bytes' (at + w) (k + 1)
        unfolding state_bits_of
        writing_more bytes' p =
            let bs : List Bool = keep_written x (get_or held k false) (get_or remaining k 0) in
            let l : length bytes' ≡ length bytes = ap length p.is ∙ inks_length bytes at bs in
            let o : at + length bs ≡ at + w = ap (at +◌) (written_length x (get_or held k false) (get_or remaining k 0) ∙ sym q.0) in
            record {
              going = going_more nodes nfirst n bytes k at g.going h x e w q bytes' l;
              rest =
                  g.rest
                  ∙ ap (λ (y : List Keep). ink_bits bytes at (state_bits_of y held remaining k)) (rest_row nodes nfirst n k h)
                  ∙ ap (λ (y : Keep). ink_bits bytes at (keep_written y (get_or held k false) (get_or remaining k 0) ++ state_bits_of (left nodes nfirst n (k + 1)) held remaining (k + 1))) (sym e)
                  ∙ inks_append bytes at bs (state_bits_of (left nodes nfirst n (k + 1)) held remaining (k + 1))
                  ∙ (λ j. ink_bits (sym p.is j) (o j) (state_bits_of (left nodes nfirst n (k + 1)) held remaining (k + 1)));
            }

-- ---- reading
pub record Sounding (nodes : List ℕ) (nfirst n : ℕ) (bytes : List ℕ) (at k : ℕ) : Type 0 where
  pub going : Going nodes nfirst n bytes k at
  pub rest : sound_from (row_keeps nodes nfirst n) (bit_in bytes) 0 ≡ sound_from (left nodes nfirst n k) (bit_in bytes) at

module _ (nodes : List ℕ) (nfirst n : ℕ) (bytes : List ℕ) where
  module _ (at k : ℕ) (g : Sounding nodes nfirst n bytes at k) where
    pub sounding_all : n ≤ k → true ≡ sound_from (row_keeps nodes nfirst n) (bit_in bytes) 0
    unfolding sound_from
    sounding_all h = sym (g.rest ∙ ap (λ (x : List Keep). sound_from x (bit_in bytes) at) (rest_none nodes nfirst n k h))

    module _ (h : k < n) where
      pub sounding_room : (x : Keep) → x ≡ keep_row (row_of nodes (nfirst + k)) → Space bytes at (keep_width x)
      sounding_room x e = going_room nodes nfirst n bytes k at g.going h x e

      module _ (x : Keep) (e : x ≡ keep_row (row_of nodes (nfirst + k))) (st : MonState) (s : st ≡ keep_entry x (bit_in bytes) at) (b : Bool) (z : b ≡ entry_sound x st) where
        abbrev behind : ℕ → Bool
        behind w = sound_from (left nodes nfirst n (k + 1)) (bit_in bytes) (at + w)

        sound_here : sound_from (row_keeps nodes nfirst n) (bit_in bytes) 0 ≡ (b && behind (keep_width x))
        unfolding sound_from
        sound_here =
            g.rest
            ∙ ap (λ (y : List Keep). sound_from y (bit_in bytes) at) (rest_row nodes nfirst n k h)
            ∙ ap (λ (y : Keep). entry_sound y (keep_entry y (bit_in bytes) at) && behind (keep_width y)) (sym e)
            ∙ ap (λ (c : Bool). c && behind (keep_width x)) (ap (entry_sound x) (sym s) ∙ sym z)

        pub sounding_no : b ≡ false → false ≡ sound_from (row_keeps nodes nfirst n) (bit_in bytes) 0
        sounding_no f = sym (sound_here ∙ ap (λ (c : Bool). c && behind (keep_width x)) f)

        pub sounding_more : (w : ℕ) → (w ≡ keep_width x) × (w ≤ 65) → b ≡ true → Sounding nodes nfirst n bytes (at + w) (k + 1)
        sounding_more w q f = record {
          going = going_more nodes nfirst n bytes k at g.going h x e w q bytes refl;
          rest = sound_here ∙ (λ j. f j && behind (sym q.0 j));
        }

-- ---- storing
pub record Entering (nodes : List ℕ) (nfirst n : ℕ) (bytes : List ℕ) (mem₀ mem : Memory) (at k : ℕ) : Type 0 where
  pub going : Going nodes nfirst n bytes k at
  pub rest : entered mem₀ 0 (entries_in (row_keeps nodes nfirst n) (bit_in bytes) 0) ≡ entered mem k (entries_in (left nodes nfirst n k) (bit_in bytes) at)

module _ (nodes : List ℕ) (nfirst n : ℕ) (bytes : List ℕ) (mem₀ : Memory) where
  module _ (mem : Memory) (at k : ℕ) (g : Entering nodes nfirst n bytes mem₀ mem at k) where
    pub entering_all : n ≤ k → mem ≡ entered mem₀ 0 (entries_in (row_keeps nodes nfirst n) (bit_in bytes) 0)
    unfolding entries_in entered
    entering_all h = sym (g.rest ∙ ap (λ (x : List Keep). entered mem k (entries_in x (bit_in bytes) at)) (rest_none nodes nfirst n k h))

    module _ (h : k < n) where
      pub entering_room : (x : Keep) → x ≡ keep_row (row_of nodes (nfirst + k)) → Space bytes at (keep_width x)
      entering_room x e = going_room nodes nfirst n bytes k at g.going h x e

      module _ (x : Keep) (e : x ≡ keep_row (row_of nodes (nfirst + k))) (w : ℕ) (q : (w ≡ keep_width x) × (w ≤ 65)) where
        pub entering_more : (st : MonState) → st ≡ keep_entry x (bit_in bytes) at → (mem' : Memory) → mem' ≡ put mem k st → Entering nodes nfirst n bytes mem₀ mem' (at + w) (k + 1)
        unfolding entries_in entered
        entering_more st s mem' z = record {
          going = going_more nodes nfirst n bytes k at g.going h x e w q bytes refl;
          rest =
              g.rest
              ∙ ap (λ (y : List Keep). entered mem k (entries_in y (bit_in bytes) at)) (rest_row nodes nfirst n k h)
              ∙ ap (λ (y : Keep). entered (put mem k (keep_entry y (bit_in bytes) at)) (k + 1) (entries_in (left nodes nfirst n (k + 1)) (bit_in bytes) (at + keep_width y))) (sym e)
              ∙ (λ j. entered ((ap (put mem k) (sym s) ∙ sym z) j) (k + 1) (entries_in (left nodes nfirst n (k + 1)) (bit_in bytes) (at + sym q.0 j)));
        }
