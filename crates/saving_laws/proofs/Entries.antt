-- The entries that bits say, and the bits of entries.
--     entered_are      entries that were stored are there
--     entries_back     the bits of a state say its entries, without marks and culprits, and are sound
--     bits_again       entries that sound bits say have these bits
use mathlib.Core.Path.{◌≡◌, refl, sym, ap, ap₂, subst, ◌∙◌}
use mathlib.Core.Bool.{Bool, true, false, ◌&&◌, ◌||◌, cond}
use mathlib.Core.List.{List, [], ◌∷◌, ◌++◌, append_assoc}
use Prim.Native.Nat.{ℕ, zero, suc, ◌+◌, ◌^◌, ◌≤◌, ◌<◌}
use native.Mathlib.Omega.{arith}
use lib.Dec.{leb, eqb}
use lib.ListN.{length, get_or, take, length-append}
use lib.Seq.{get_or-append_seam, take_at}
use borrow.Author.Tests.{leb-true, le-leb, eqb-true}
use Rattle.terms.specs.Choice.{pick}
use Rattle.formula.proofs.Cases.{true_false}
use Rattle.formula.proofs.Walks.{both_true}
use Rattle.plan.specs.Width.{width}
use Rattle.plan.proofs.Widths.{ceil_log2_lem}
use Rattle.meaning.specs.Culprit.{minus_one}
use Rattle.node_step.specs.declared.state.MonState.{MonState}
use Rattle.node_step.specs.Memory.{Memory, get, put, initial_entry, Inside}
use Rattle.node_step.proofs.Entries.{get_put_same, get_put_other, inside_put, inside_less}
use Rattle.bits.specs.Bits.{digits, number, spelled}
use Rattle.bits.proofs.Numbers.{digits_length, number_digits, digits_number, spelled_length, spelled_same, spelled_append, spelled_list}
use Rattle.kept.specs.declared.Keep.{Keep}
use Rattle.kept.specs.declared.Keep.TheVariants.{Nothing, Antecedent, Window}
use Rattle.kept.specs.Kept.{keep_width, kept_bits, keep_written, state_bits_of, keep_spent, spent_from, unmarked, keep_entry, entry_sound, entries_in, sound_from, entered}
use Rattle.saving.proofs.Going.{written_length}

-- ---- entries in a memory
unfoldable pub EntriesAre : List MonState → Memory → ℕ → Type 0
EntriesAre [] mem k = Unit {0}
EntriesAre (e ∷ es) mem k = (get mem k ≡ e) × EntriesAre es mem (k + 1)

entered_before : (es : List MonState) (mem : Memory) (k j : ℕ) → j < k → get (entered mem k es) j ≡ get mem j
unfolding entered
entered_before [] mem k j h = refl
entered_before (e ∷ es) mem k j h = entered_before es (put mem k e) (k + 1) j (omega arith) ∙ get_put_other mem k e j (λ z. omega arith)

pub entered_are : (es : List MonState) (mem : Memory) (k : ℕ) → Inside mem (k + length es) → EntriesAre es (entered mem k es) k
unfolding EntriesAre entered
entered_are [] mem k d = tt
entered_are (e ∷ es) mem k d =
    let i : Inside mem (k + 1) = inside_less mem (k + 1) (k + suc (length es)) (omega arith) d in
    let j : Inside (put mem k e) (k + 1 + length es) = inside_put mem k e (k + 1 + length es) (inside_less mem (k + 1 + length es) (k + suc (length es)) (omega arith) d) in
    (entered_before es (put mem k e) (k + 1) k (omega arith) ∙ get_put_same mem k e i, entered_are es (put mem k e) (k + 1) j)

pub entered_inside : (es : List MonState) (mem : Memory) (k n : ℕ) → Inside mem n → Inside (entered mem k es) n
unfolding entered
entered_inside [] mem k n d = d
entered_inside (e ∷ es) mem k n d = entered_inside es (put mem k e) (k + 1) n (inside_put mem k e n d)

pub entries_length : (xs : List Keep) (bits : ℕ → Bool) (at : ℕ) → length (entries_in xs bits at) ≡ length xs
unfolding entries_in
entries_length [] bits at = refl
entries_length (x ∷ xs) bits at = ap suc (entries_length xs bits (at + keep_width x))

-- ---- entries that can be saved: obligations and delayed checks are not marked, an open window has from 1 to its bound left
abbrev pub Windowed : Keep → MonState → Type 0
Windowed Nothing e = Unit {0}
Windowed Antecedent e = Unit {0}
Windowed (Window b) e = e.held ≡ true → (1 ≤ e.remaining) × (e.remaining ≤ b)

unfoldable pub WindowedFrom : List Keep → Memory → ℕ → Type 0
WindowedFrom [] mem k = Unit {0}
WindowedFrom (x ∷ xs) mem k = Windowed x (get mem k) × WindowedFrom xs mem (k + 1)

-- an entry as it comes back
abbrev pub off_window : ℕ → MonState → MonState
off_window zero e = initial_entry
off_window (suc b) e = unmarked e.held (cond e.held e.remaining 0)

abbrev pub off_entry : Keep → MonState → MonState
off_entry Nothing e = initial_entry
off_entry Antecedent e = unmarked e.held 0
off_entry (Window b) e = off_window b e

unfoldable pub off_entries : List Keep → Memory → ℕ → List MonState
off_entries [] mem k = []
off_entries (x ∷ xs) mem k = off_entry x (get mem k) ∷ off_entries xs mem (k + 1)

-- ---- the bits of a state say its entries
-- a part of a list, spelled from its place on
pub spelled_part : (xs ys zs : List Bool) → spelled (λ k. get_or (xs ++ (ys ++ zs)) k false) (length xs) (length ys) ≡ ys
spelled_part xs ys zs =
    let f : ℕ → Bool = λ k. get_or (xs ++ (ys ++ zs)) k false in
    let all : spelled f (length xs) (length ys + length zs) ≡ ys ++ zs = ap (spelled f (length xs)) (sym (length-append ys zs)) ∙ spelled_list xs (ys ++ zs) in
    sym (take_at (spelled f (length xs) (length ys)) _ (length ys) (spelled_length f (length xs) (length ys)))
    ∙ ap (take (length ys)) (sym (spelled_append f (length xs) (length ys) (length zs)) ∙ all)
    ∙ take_at ys zs (length ys) refl

-- bits that agree with a list as far as it goes
abbrev pub Agree : (ℕ → Bool) → List Bool → Type 0
Agree bits bs = (j : ℕ) → j < length bs → bits j ≡ get_or bs j false

-- what remains of an open window fits its bits
remaining_fits : (b r : ℕ) → r ≤ b → r < 2 ^ width b
remaining_fits b r h = omega (arith, (ceil_log2_lem (b + 1)).enough)

-- ---- entries that sound bits say can be saved: no mark, no step to blame
pub record Clean (x : Keep) (e : MonState) : Type 0 where
  pub unfailed : e.failed ≡ false
  pub blameless : e.culprit ≡ minus_one
  pub windowed : Windowed x e

unfoldable pub CleanFrom : List Keep → Memory → ℕ → Type 0
CleanFrom [] a k = Unit {0}
CleanFrom (x ∷ xs) a k = Clean x (get a k) × CleanFrom xs a (k + 1)

module _ (bits : ℕ → Bool) where
  first_bit : (pre : List Bool) (h : Bool) (rest : List Bool) → Agree bits (pre ++ h ∷ rest) → bits (length pre) ≡ h
  first_bit pre h rest a = a (length pre) (omega (arith, length-append pre (h ∷ rest))) ∙ get_or-append_seam pre h rest false

  number_back : (pre : List Bool) (h : Bool) (w n : ℕ) (rest : List Bool) → n < 2 ^ w → Agree bits (pre ++ ((h ∷ digits w n) ++ rest)) → number (spelled bits (length pre + 1) w) ≡ n
  number_back pre h w n rest s a =
      let all : List Bool = pre ++ ((h ∷ digits w n) ++ rest) in
      let l : length (pre ++ h ∷ []) ≡ length pre + 1 = length-append pre (h ∷ []) in
      let e : (pre ++ h ∷ []) ++ (digits w n ++ rest) ≡ all = append_assoc pre (h ∷ []) (digits w n ++ rest) in
      let long : length all ≡ length pre + suc (w + length rest) = length-append pre ((h ∷ digits w n) ++ rest) ∙ ap (λ (x : ℕ). length pre + suc x) (length-append (digits w n) rest ∙ ap (λ (x : ℕ). x + length rest) (digits_length w n)) in
      ap number
      (spelled_same bits (λ k. get_or all k false) (length pre + 1) w (λ j z. a j (omega (arith, long)))
      ∙ (λ i. spelled (λ k. get_or (sym e i) k false) (sym l i) (sym (digits_length w n) i))
      ∙ spelled_part (pre ++ h ∷ []) (digits w n) rest)
      ∙ number_digits w n s

  cond_small : (b r : ℕ) (h : Bool) → (h ≡ true → (1 ≤ r) × (r ≤ b)) → cond h r 0 ≤ b
  cond_small b r true f = (f refl).1
  cond_small b r false f = omega arith

  entry_back : (x : Keep) (e : MonState) (pre rest : List Bool) → Windowed x e → Agree bits (pre ++ (keep_written x e.held e.remaining ++ rest)) → keep_entry x bits (length pre) ≡ off_entry x e
  entry_back Nothing e pre rest s a = refl
  entry_back Antecedent e pre rest s a = ap (λ (h : Bool). unmarked h 0) (first_bit pre e.held rest a)
  entry_back (Window zero) e pre rest s a = refl
  entry_back (Window (suc b)) e pre rest s a =
      let n : ℕ = cond e.held e.remaining 0 in
      ap₂ unmarked (first_bit pre e.held (digits (width (suc b)) n ++ rest) a)
      (number_back pre e.held (width (suc b)) n rest (remaining_fits (suc b) n (cond_small (suc b) e.remaining e.held s)) a)

  entry_sound_lem : (x : Keep) (e : MonState) → Windowed x e → entry_sound x (off_entry x e) ≡ true
  entry_sound_lem Nothing e s = refl
  entry_sound_lem Antecedent e s = refl
  entry_sound_lem (Window zero) e s = refl
  entry_sound_lem (Window (suc b)) e s = go e.held s
    where
      go : (h : Bool) → (h ≡ true → (1 ≤ e.remaining) × (e.remaining ≤ suc b)) → pick h (leb 1 (cond h e.remaining 0) && leb (cond h e.remaining 0) (suc b)) (eqb (cond h e.remaining 0) 0) ≡ true
      go true f = ap₂ ◌&&◌ (le-leb 1 e.remaining (f refl).0) (le-leb e.remaining (suc b) (f refl).1)
      go false f = refl

  pub record Back (xs : List Keep) (mem : Memory) (k at : ℕ) : Type 0 where
    pub entries : entries_in xs bits at ≡ off_entries xs mem k
    pub sound : sound_from xs bits at ≡ true

  pub entries_back : (xs : List Keep) (mem : Memory) (k : ℕ) (pre : List Bool) → WindowedFrom xs mem k → Agree bits (pre ++ state_bits_of xs mem.held mem.remaining k) → Back xs mem k (length pre)
  unfolding WindowedFrom state_bits_of entries_in off_entries sound_from
  entries_back [] mem k pre s a = record { entries = refl; sound = refl }
  entries_back (x ∷ xs) mem k pre s a =
      let e : MonState = get mem k in
      let w : List Bool = keep_written x e.held e.remaining in
      let rest : List Bool = state_bits_of xs mem.held mem.remaining (k + 1) in
      let l : length (pre ++ w) ≡ length pre + keep_width x = length-append pre w ∙ ap (λ (n : ℕ). length pre + n) (written_length x e.held e.remaining) in
      let here : keep_entry x bits (length pre) ≡ off_entry x e = entry_back x e pre rest s.0 a in
      let on = subst (Back xs mem (k + 1)) l (entries_back xs mem (k + 1) (pre ++ w) s.1 (subst (Agree bits) (sym (append_assoc pre w rest)) a)) in
      record {
        entries = ap₂ (λ (y : MonState) (ys : List MonState). y ∷ ys) here on.entries;
        sound = ap₂ ◌&&◌ (ap (entry_sound x) here ∙ entry_sound_lem x e s.0) on.sound;
      }

  -- ---- entries that sound bits say have these bits
  zero_digits : (b at : ℕ) (h : Bool) → h ≡ bits at → pick h (leb 1 (number (spelled bits (at + 1) (width (suc b)))) && leb (number (spelled bits (at + 1) (width (suc b)))) (suc b)) (eqb (number (spelled bits (at + 1) (width (suc b)))) 0) ≡ true
      → digits (width (suc b)) (cond h (number (spelled bits (at + 1) (width (suc b)))) 0) ≡ spelled bits (at + 1) (width (suc b))
  zero_digits b at h q z =
      let w : ℕ = width (suc b) in
      let bs : List Bool = spelled bits (at + 1) w in
      let same : digits w (number bs) ≡ bs = ap (λ (n : ℕ). digits n (number bs)) (sym (spelled_length bits (at + 1) w)) ∙ digits_number bs in
      go h z same
    where
      go : (h : Bool) → pick h (leb 1 (number (spelled bits (at + 1) (width (suc b)))) && leb (number (spelled bits (at + 1) (width (suc b)))) (suc b)) (eqb (number (spelled bits (at + 1) (width (suc b)))) 0) ≡ true
          → digits (width (suc b)) (number (spelled bits (at + 1) (width (suc b)))) ≡ spelled bits (at + 1) (width (suc b))
          → digits (width (suc b)) (cond h (number (spelled bits (at + 1) (width (suc b)))) 0) ≡ spelled bits (at + 1) (width (suc b))
      go true z same = same
      go false z same = ap (digits (width (suc b))) (sym (eqb-true (number (spelled bits (at + 1) (width (suc b)))) 0 z)) ∙ same

  entry_bits : (x : Keep) (at : ℕ) → entry_sound x (keep_entry x bits at) ≡ true → keep_written x (keep_entry x bits at).held (keep_entry x bits at).remaining ≡ spelled bits at (keep_width x)
  unfolding spelled
  entry_bits Nothing at s = refl
  entry_bits Antecedent at s = refl
  entry_bits (Window zero) at s = refl
  entry_bits (Window (suc b)) at s =
      let o : 1 + width (suc b) ≡ suc (width (suc b)) = omega arith in
      ap (bits at ∷◌) (zero_digits b at (bits at) refl s) ∙ sym (ap (spelled bits at) o)

  pub bits_again : (xs : List Keep) (a : Memory) (k at : ℕ) → EntriesAre (entries_in xs bits at) a k → sound_from xs bits at ≡ true → state_bits_of xs a.held a.remaining k ≡ spelled bits at (kept_bits xs)
  unfolding EntriesAre entries_in sound_from state_bits_of kept_bits spelled
  bits_again [] a k at r s = refl
  bits_again (x ∷ xs) a k at r s =
      let (p, q) = both_true (entry_sound x (keep_entry x bits at)) _ s in
      ap₂ ◌++◌ (ap (λ (e : MonState). keep_written x e.held e.remaining) r.0 ∙ entry_bits x at p) (bits_again xs a (k + 1) (at + keep_width x) r.1 q)
      ∙ sym (spelled_append bits at (keep_width x) (kept_bits xs))

  entry_clean : (x : Keep) (at : ℕ) → entry_sound x (keep_entry x bits at) ≡ true → Clean x (keep_entry x bits at)
  entry_clean Nothing at s = record { unfailed = refl; blameless = refl; windowed = tt }
  entry_clean Antecedent at s = record { unfailed = refl; blameless = refl; windowed = tt }
  entry_clean (Window zero) at s = record { unfailed = refl; blameless = refl; windowed = λ h. true_false h refl }
  entry_clean (Window (suc b)) at s = record {
    unfailed = refl;
    blameless = refl;
    windowed = λ h.
        let z : (leb 1 (number (spelled bits (at + 1) (width (suc b)))) && leb (number (spelled bits (at + 1) (width (suc b)))) (suc b)) ≡ true = sym (ap (λ (y : Bool). pick y (leb 1 (number (spelled bits (at + 1) (width (suc b)))) && leb (number (spelled bits (at + 1) (width (suc b)))) (suc b)) (eqb (number (spelled bits (at + 1) (width (suc b)))) 0)) h) ∙ s in
        let (p, q) = both_true (leb 1 (number (spelled bits (at + 1) (width (suc b))))) _ z in
        (leb-true _ _ p, leb-true _ _ q);
  }

  pub entries_clean : (xs : List Keep) (a : Memory) (k at : ℕ) → EntriesAre (entries_in xs bits at) a k → sound_from xs bits at ≡ true → CleanFrom xs a k
  unfolding EntriesAre entries_in sound_from CleanFrom
  entries_clean [] a k at r s = tt
  entries_clean (x ∷ xs) a k at r s =
      let (p, q) = both_true (entry_sound x (keep_entry x bits at)) _ s in
      (subst (Clean x) (sym r.0) (entry_clean x at p), entries_clean xs a (k + 1) (at + keep_width x) r.1 q)

keep_unspent : (x : Keep) (f : Bool) → f ≡ false → keep_spent x f ≡ false
keep_unspent Nothing f e = refl
keep_unspent Antecedent f e = e
keep_unspent (Window b) f e = e

pub clean_unspent : (xs : List Keep) (a : Memory) (k : ℕ) → CleanFrom xs a k → spent_from xs a.failed k ≡ false
unfolding CleanFrom spent_from
clean_unspent [] a k c = refl
clean_unspent (x ∷ xs) a k c = ap₂ ◌||◌ (keep_unspent x (get a k).failed c.0.unfailed) (clean_unspent xs a (k + 1) c.1)
