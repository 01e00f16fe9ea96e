-- Writing text: one text behind another, what each function writes, and what stands in the slice where the whole text fits.
use mathlib.Core.Path.{◌≡◌, refl, sym, ap, subst, ◌∙◌}
use mathlib.Core.Bool.{Bool, true, false}
use mathlib.Core.List.{List, [], ◌∷◌, ◌++◌, append_assoc}
use Prim.Native.Nat.{ℕ, zero, suc, ◌+◌, ◌/◌, ◌%◌, ◌^◌, ◌≤◌, ◌<◌}
use native.Mathlib.Omega.{arith}
use native.Mathlib.Numerals.{add-one}
use native.Mathlib.Nat.{add-zero, add-suc, pow-suc, pow-zero}
use mathlib.Core.Logic.{⊎_elim}
use mir.Syntax.{w64}
use mir.Val.{Fits, SFits, to_z, of_z}
use mir.Facts.{to_z-of_z}
use lib.IntN.{ℤ, pos, negsuc, nat_abs}
use lib.Signed.{lt_z, non_neg}
use borrow.Author.Tests.{lt-ltb, le-ltb, ltb-true}
use lib.Dec.{T}
use lib.ListN.{length, set, get_or, take, drop, length-set}
use lib.Seq.{sets, sets-eq, take-suc, take-length, take_at, drop_at}
use Rattle.number.proofs.Numbers.{below_or}
use Rattle.number.specs.Digits.{digits, decimal}
use Rattle.words.specs.Word.{spelling_of, length_of, letter_of}
use Rattle.text.specs.Tape.{Tape, tape, put, puts, Wrote, joined, signed, Culprit, nobody, step}

-- ---- one text behind another
pub as_text : {s t : List ℕ} (a b : Tape) → t ≡ s → Wrote a s b → Wrote a t b
as_text a b e w = subst (λ (x : List ℕ). Wrote a x b) (sym e) w

pub nothing : (a : Tape) → Wrote a [] a
unfolding puts
nothing a = record { is = refl }

puts_append : (a : Tape) (s t : List ℕ) → puts a (s ++ t) ≡ puts (puts a s) t
unfolding puts
puts_append a [] t = refl
puts_append a (b ∷ s) t = puts_append (put a b) s t

pub then : {a b c : Tape} {s t : List ℕ} → Wrote a s b → Wrote b t c → Wrote a (s ++ t) c
then {a} {b} {c} {s} {t} p q =
    record { is = q.is ∙ ap (λ (x : Tape). puts x t) p.is ∙ sym (puts_append a s t) }

-- lists of texts
pub append-nil : (s : List ℕ) → s ++ [] ≡ s
append-nil [] = refl
append-nil (x ∷ s) = ap (x ∷◌) (append-nil s)

pub joined_append : (s t : List (List ℕ)) → joined (s ++ t) ≡ joined s ++ joined t
unfolding joined
joined_append [] t = refl
joined_append (x ∷ s) t = ap (λ (y : List ℕ). x ++ y) (joined_append s t) ∙ sym (append_assoc x (joined s) (joined t))

pub last : {a b : Tape} {s : List ℕ} → Wrote a s b → Wrote a (joined (s ∷ [])) b
unfolding joined
last {a} {b} {s} p = subst (λ (x : List ℕ). Wrote a x b) (sym (append-nil s)) p

pub first : {a b c : Tape} {s : List ℕ} (ts : List (List ℕ)) → Wrote a s b → Wrote b (joined ts) c → Wrote a (joined (s ∷ ts)) c
unfolding joined
first ts p q = then p q

-- ---- a byte
pub byte_in : (l : List ℕ) (i b : ℕ) → i < length l → Wrote (tape l i) (b ∷ []) (tape (set l i b) (i + 1))
unfolding puts put
byte_in l i b h = record { is = rw (lt-ltb i (length l) h) refl }

pub byte_out : (l : List ℕ) (i b : ℕ) → length l ≤ i → Wrote (tape l i) (b ∷ []) (tape l i)
unfolding puts put
byte_out l i b h = record { is = rw (le-ltb i (length l) h) refl }

-- ---- the bytes of a slice: the first i of them are written
pub record Begun (a : Tape) (s : List ℕ) (i : ℕ) (b : Tape) : Type 0 where
  pub within : i ≤ length s
  pub wrote : Wrote a (take i s) b

pub begun_first : (a : Tape) (s : List ℕ) → Begun a s 0 a
unfolding puts
begun_first a s = record { within = omega arith; wrote = record { is = refl } }

pub begun_next : (a b c : Tape) (s : List ℕ) (i : ℕ) → Begun a s i b → i < length s → Wrote b (get_or s i 0 ∷ []) c → Begun a s (i + 1) c
begun_next a b c s i p h q = record {
  within = omega arith;
  wrote = subst (λ (x : List ℕ). Wrote a x c) (sym (ap (λ (n : ℕ). take n s) (add-one i) ∙ take-suc s i 0 h)) (then p.wrote q);
}

pub begun_all : (a b : Tape) (s : List ℕ) (i : ℕ) → Begun a s i b → length s ≤ i → Wrote a s b
begun_all a b s i p h =
    let e : i ≡ length s = omega (arith, p.within) in
    subst (λ (x : List ℕ). Wrote a x b) (ap (λ (n : ℕ). take n s) e ∙ take-length s) p.wrote

-- the same of a word, by its length and its letters
pub word_next : (a b c : Tape) (k i n x : ℕ) → n ≡ length_of k → x ≡ letter_of k i → Begun a (spelling_of k) i b → i < n → Wrote b (x ∷ []) c
    → Begun a (spelling_of k) (i + 1) c
unfolding length_of letter_of
word_next a b c k i n x e f p h q = begun_next a b c (spelling_of k) i p (rw e at h) (subst (λ (y : ℕ). Wrote b (y ∷ []) c) f q)

pub word_all : (a b : Tape) (k i n : ℕ) → n ≡ length_of k → Begun a (spelling_of k) i b → n ≤ i → Wrote a (spelling_of k) b
unfolding length_of
word_all a b k i n e p h = begun_all a b (spelling_of k) i p (rw e at h)

-- ---- a number: more digits than it has change nothing
digits_more : (k n : ℕ) → n < 10 ^ k → 1 ≤ k → digits (suc k) n ≡ digits k n
unfolding digits
digits_more zero n h p = absurd (omega arith)
digits_more (suc k) n h p = ⊎_elim
    (λ q. rw (lt-ltb n 10 q) refl)
    (λ q. rw (le-ltb n 10 q) (ap (λ (x : List ℕ). x ++ (48 + n % 10) ∷ []) (digits_more k (n / 10) (shorter k n h) (some_more k n q h))))
    (below_or n 10)
  where
    shorter : (k n : ℕ) → n < 10 ^ suc k → n / 10 < 10 ^ k
    shorter k n h = omega (arith, pow-suc 10 k)

    some_more : (k n : ℕ) → 10 ≤ n → n < 10 ^ suc k → 1 ≤ k
    some_more zero n q h = absurd (omega (arith, pow-suc 10 0, pow-zero 10))
    some_more (suc k) n q h = omega arith

pub decimal_small : (a b : Tape) (n : ℕ) → n < 10 → Wrote a ((48 + n) ∷ []) b → Wrote a (decimal n) b
unfolding digits
decimal_small a b n h w = rw (lt-ltb n 10 h) w

pub decimal_large : (a b c : Tape) (n : ℕ) → 10 ≤ n → Fits w64 n → Wrote a (decimal (n / 10)) b → Wrote b ((48 + n % 10) ∷ []) c → Wrote a (decimal n) c
unfolding digits
decimal_large a b c n h f w v =
    let e : digits 20 (n / 10) ≡ digits 19 (n / 10) = digits_more 19 (n / 10) (omega (arith, f.fits)) (omega arith) in
    rw (le-ltb n 10 h) (then (rw e at w) v)

-- ---- a text that fits
puts_in : (s l : List ℕ) (i : ℕ) → i + length s ≤ length l → puts (tape l i) s ≡ tape (sets l i s) (i + length s)
unfolding puts put
puts_in [] l i h = rw add-zero refl
puts_in (b ∷ s) l i h =
    let n : i < length l = omega (arith, add-suc i (length s)) in
    let w : suc i + length s ≤ length (set l i b) = rw (length-set) (omega arith) in
    rw (lt-ltb i (length l) n, add-one) (puts_in s (set l i b) (suc i) w ∙ ap (tape (sets (set l i b) (suc i) s)) (omega arith))

-- the whole text no longer than the room behind its place: it stands there, and the rest is as before
pub record Stood (l : List ℕ) (i : ℕ) (s : List ℕ) (m : List ℕ) (r : ℕ) : Type 0 where
  pub end : r ≡ i + length s
  pub content : m ≡ take i l ++ s ++ drop (i + length s) l

pub wrote_all : (l m s : List ℕ) (i r : ℕ) → Wrote (tape l i) s (tape m r) → i + length s ≤ length l → Stood l i s m r
wrote_all l m s i r w h =
    let e : tape m r ≡ tape (sets l i s) (i + length s) = w.is ∙ puts_in s l i h in
    let f : m ≡ sets l i s = cc in
    record { end = cc; content = f ∙ sets-eq s l i h }

-- the same from the slice's first place on
pub wrote_first : (l m s : List ℕ) (r : ℕ) → Wrote (tape l 0) s (tape m r) → length s ≤ length l → (r ≡ length s) × (take r m ≡ s) × (drop r m ≡ drop r l)
wrote_first l m s r w h =
    let t = wrote_all l m s 0 r w (omega arith) in
    let e : r ≡ length s = omega (arith, t.end) in
    let f : m ≡ s ++ drop r l = t.content ∙ ap (λ (n : ℕ). s ++ drop n l) (sym t.end) in
    (e, ap (take r) f ∙ take_at s (drop r l) r (sym e), ap (drop r) f ∙ drop_at s (drop r l) r (sym e))

-- ---- a culprit
true_false : {B : Type 0} → ◌≡◌ {A = Bool} true false → B
true_false e = let z : ◌≡◌ {A = ℕ} 0 1 = cc in absurd (omega arith)

nobody_text : (z : ℤ) → Culprit z → lt_z z (pos 0) ≡ true → signed z ≡ 45 ∷ 49 ∷ []
unfolding signed digits
nobody_text _ nobody h = refl
nobody_text _ (step n) h = absurd (omega (arith, ltb-true n 0 h))

step_text : (z : ℤ) → Culprit z → lt_z z (pos 0) ≡ false → signed z ≡ decimal (nat_abs z)
unfolding signed
step_text _ nobody h = true_false h
step_text _ (step n) h = refl

not_below : (z : ℤ) → lt_z z (pos 0) ≡ false → T (non_neg z)
not_below (pos n) h = tt
not_below (negsuc n) h = true_false h

abs_fits : (z : ℤ) → SFits w64 z → Fits w64 (nat_abs z)
abs_fits (pos n) f = omega (arith, f.sfits)
abs_fits (negsuc n) f = omega (arith, f.sfits)

module _ (z : ℤ) (f : SFits w64 z) where
  held : to_z w64 (of_z w64 z) ≡ z
  held = to_z-of_z f

  pub signed_none : (a b : Tape) → Culprit z → lt_z (to_z w64 (of_z w64 z)) (pos 0) ≡ true → Wrote a (45 ∷ 49 ∷ []) b → Wrote a (signed z) b
  signed_none a b k h w = rw (nobody_text z k (ap (λ (x : ℤ). lt_z x (pos 0)) (sym held) ∙ h)) w

  module _ (h : lt_z (to_z w64 (of_z w64 z)) (pos 0) ≡ false) where
    from_zero : lt_z z (pos 0) ≡ false
    from_zero = ap (λ (x : ℤ). lt_z x (pos 0)) (sym held) ∙ h

    pub signed_cast : T (non_neg (to_z w64 (of_z w64 z))) × Fits w64 (nat_abs (to_z w64 (of_z w64 z)))
    signed_cast = rw held (not_below z from_zero, abs_fits z f)

    pub signed_step : (a b : Tape) → Culprit z → Wrote a (decimal (nat_abs (to_z w64 (of_z w64 z)))) b → Wrote a (signed z) b
    signed_step a b k w = rw (step_text z k from_zero) (rw held at w)
