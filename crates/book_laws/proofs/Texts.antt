-- Numbers and lines written out are read back: decimal and hexadecimal digits, fields, lines, and what a line holds.
use mathlib.Core.Path.{◌≡◌, refl, sym, ap, ap₂, subst, ◌∙◌}
use mathlib.Core.Bool.{Bool, true, false, ◌&&◌}
use mathlib.Core.Bool as bool
use mathlib.Core.List.{List, [], ◌∷◌, ◌++◌}
use mathlib.Core.Logic.{⊎_elim}
use Prim.Native.Nat.{ℕ, zero, suc, ◌+◌, ◌*◌, ◌/◌, ◌%◌, ◌^◌, ◌≤◌, ◌<◌}
use native.Mathlib.Omega.{arith}
use native.Mathlib.Numerals.{add-one}
use native.Mathlib.Nat.{pow-succ', pow-zero, add-mul, mul_assoc, add_assoc}
use borrow.Author.Tests.{lt-ltb, le-ltb, eq-eqb, ne_eqb, leb-true}
use lib.Dec.{eqb, leb, ltb}
use lib.ListN.{length, length-append}
use Rattle.terms.specs.Choice.{pick}
use Rattle.number.specs.Number.{digit_of, below, places, plain, value_in, decimal_of, hex_of}
use Rattle.std.specs.Prelude.{Some}
use Rattle.number.proofs.Numbers.{below_or}
use Rattle.line.specs.Text.{parts, onto, lines, fields}
use Rattle.line.specs.Line.{printable, is_label}
use Rattle.number.specs.Digits.{digits, decimal, hex_byte, hex_digits}
use Rattle.book_laws.specs.Write.{unlines}

-- ---- bytes that a run is free of
unfoldable pub free : ℕ → List ℕ → Bool
free c [] = true
free c (b ∷ r) = bool.not (eqb b c) && free c r

pub free_append : (c : ℕ) (a b : List ℕ) → free c a ≡ true → free c b ≡ true → free c (a ++ b) ≡ true
unfolding free
free_append c [] b p q = q
free_append c (x ∷ a) b p q = go (bool.not (eqb x c)) (free c a) p (free_append c a b)
  where
    go : (t u : Bool) → (t && u) ≡ true → (u ≡ true → free c b ≡ true → free c (a ++ b) ≡ true) → (t && free c (a ++ b)) ≡ true
    go true true p h = h refl q
    go true false p h = h p q
    go false true p h = p
    go false false p h = p

free_one : (c b : ℕ) → c < b → free c (b ∷ []) ≡ true
unfolding free
free_one c b h = rw (ne_eqb b c (λ (e : b ≡ c). omega arith)) refl

pub parts_free : (c : ℕ) (e : List (List ℕ)) (a r : List ℕ) → free c a ≡ true → parts c e (a ++ c ∷ r) ≡ a ∷ parts c e r
unfolding free parts onto
parts_free c e [] r h = rw (eq-eqb c c refl) refl
parts_free c e (x ∷ a) r h = go (eqb x c) (parts_free c e a r) h
  where
    go : (t : Bool) → (free c a ≡ true → parts c e (a ++ c ∷ r) ≡ a ∷ parts c e r) → (bool.not t && free c a) ≡ true → pick t ([] ∷ parts c e (a ++ c ∷ r)) (onto x (parts c e (a ++ c ∷ r))) ≡ (x ∷ a) ∷ parts c e r
    go true ih h = absurd (let z : ◌≡◌ {A = ℕ} 0 1 = cc in omega arith)
    go false ih h = rw (ih h) refl

pub fields_free : (a : List ℕ) → free 9 a ≡ true → fields a ≡ a ∷ []
unfolding free parts onto
fields_free [] h = refl
fields_free (x ∷ a) h = go (eqb x 9) (fields_free a) h
  where
    go : (t : Bool) → (free 9 a ≡ true → fields a ≡ a ∷ []) → (bool.not t && free 9 a) ≡ true → pick t ([] ∷ fields a) (onto x (fields a)) ≡ (x ∷ a) ∷ []
    go true ih h = absurd (let z : ◌≡◌ {A = ℕ} 0 1 = cc in omega arith)
    go false ih h = rw (ih h) refl

abbrev pub AllFree : List (List ℕ) → Type 0
AllFree [] = Unit
AllFree (l ∷ ls) = (free 10 l ≡ true) × AllFree ls

pub lines_unlines : (ls : List (List ℕ)) → AllFree ls → lines (unlines ls) ≡ ls
unfolding unlines parts
lines_unlines [] h = refl
lines_unlines (l ∷ ls) h = parts_free 10 [] l (unlines ls) h.0 ∙ ap (l ∷◌) (lines_unlines ls h.1)

-- ---- digits in a row
places_snoc : (base : ℕ) (l : List ℕ) (b : ℕ) → places base (l ++ b ∷ []) ≡ places base l * base + digit_of b
unfolding places
places_snoc base [] b = rw pow-zero (omega arith)
places_snoc base (x ∷ l) b =
    let n : length (l ++ b ∷ []) ≡ suc (length l) = length-append l (b ∷ []) ∙ add-one (length l) in
    let p : digit_of x * base ^ length (l ++ b ∷ []) ≡ digit_of x * base ^ length l * base = ap (λ (k : ℕ). digit_of x * base ^ k) n ∙ ap (λ (k : ℕ). digit_of x * k) (native.Mathlib.Nat.pow-suc base (length l)) ∙ sym (mul_assoc (digit_of x) (base ^ length l) base) in
    ap₂ ◌+◌ p (places_snoc base l b) ∙ sym (add_assoc (digit_of x * base ^ length l * base) (places base l * base) (digit_of b)) ∙ ap (λ (k : ℕ). k + digit_of b) (sym (add-mul (digit_of x * base ^ length l) (places base l) base))

below_snoc : (base : ℕ) (l : List ℕ) (b : ℕ) → below base l ≡ true → digit_of b < base → below base (l ++ b ∷ []) ≡ true
unfolding below
below_snoc base [] b p h = rw (lt-ltb (digit_of b) base h) refl
below_snoc base (x ∷ l) b p h = go (ltb (digit_of x) base) (below base l) p (below_snoc base l b)
  where
    go : (t u : Bool) → (t && u) ≡ true → (u ≡ true → digit_of b < base → below base (l ++ b ∷ []) ≡ true) → (t && below base (l ++ b ∷ [])) ≡ true
    go true true p k = k refl h
    go true false p k = k p h
    go false true p k = p
    go false false p k = p

digit_ten : (d : ℕ) → d < 10 → digit_of (48 + d) ≡ d
unfolding digit_of
digit_ten d h = rw (le-ltb (48 + d) 48 (omega arith), lt-ltb (48 + d) 58 (omega arith)) (omega arith)

digit_hex : (d : ℕ) → d < 16 → digit_of (hex_byte d) ≡ d
unfolding digit_of
digit_hex d h = ⊎_elim
    (λ k. rw (lt-ltb d 10 k) (digit_ten d k))
    (λ k. rw (le-ltb d 10 k, le-ltb (87 + d) 48 (omega arith), le-ltb (87 + d) 58 (omega arith), le-ltb (87 + d) 97 (omega arith), lt-ltb (87 + d) 103 (omega arith)) (omega arith))
    (below_or d 10)

-- ---- decimal
-- the first byte of digits that are not zero alone
pub record Digits (n : ℕ) (l : List ℕ) : Type 0 where
  pub value : places 10 l ≡ n
  pub all : below 10 l ≡ true
  pub first : ℕ
  pub rest : List ℕ
  pub is : l ≡ first ∷ rest
  pub lead : 1 ≤ n → first ≡ 48 → ⊥
  pub one : n < 10 → rest ≡ []
  pub tabs : (c : ℕ) → c < 33 → free c l ≡ true

digits_are : (k n : ℕ) → n < 10 ^ k → 1 ≤ k → Digits n (digits k n)
unfolding digits places below
digits_are zero n h p = absurd (omega arith)
digits_are (suc k) n h p = ⊎_elim (small k n) (λ g. large k n g h (digits_are k (n / 10))) (below_or n 10)
  where
    small : (k n : ℕ) → n < 10 → Digits n (pick (ltb n 10) ((48 + n) ∷ []) (digits k (n / 10) ++ (48 + n % 10) ∷ []))
    small k n g = rw (lt-ltb n 10 g) (record {
      value = rw (digit_ten n g, pow-zero) (omega arith);
      all = rw (digit_ten n g, lt-ltb n 10 g) refl;
      first = 48 + n;
      rest = [];
      is = refl;
      lead = λ a b. omega arith;
      one = λ _. refl;
      tabs = λ c d. free_one c (48 + n) (omega arith);
    })

    large : (k n : ℕ) → 10 ≤ n → n < 10 ^ suc k → (n / 10 < 10 ^ k → 1 ≤ k → Digits (n / 10) (digits k (n / 10))) → Digits n (pick (ltb n 10) ((48 + n) ∷ []) (digits k (n / 10) ++ (48 + n % 10) ∷ []))
    large k n g h ih =
        let h' : n < 10 * 10 ^ k = subst (λ (m : ℕ). n < m) (pow-succ' 10 k) h in
        let pos : 1 ≤ k = at_least k h' in
        let d : Digits (n / 10) (digits k (n / 10)) = ih (omega arith) pos in
        rw (le-ltb n 10 g) (record {
          value = places_snoc 10 (digits k (n / 10)) (48 + n % 10) ∙ rw (d.value, digit_ten (n % 10) (omega arith)) (omega arith);
          all = below_snoc 10 (digits k (n / 10)) (48 + n % 10) d.all (subst (λ (m : ℕ). m < 10) (sym (digit_ten (n % 10) (omega arith))) (omega arith));
          first = d.first;
          rest = d.rest ++ (48 + n % 10) ∷ [];
          is = ap (λ (x : List ℕ). x ++ (48 + n % 10) ∷ []) d.is;
          lead = λ _ e. d.lead (omega arith) e;
          one = λ (q : n < 10). absurd (omega arith);
          tabs = λ c q. free_append c (digits k (n / 10)) ((48 + n % 10) ∷ []) (d.tabs c q) (free_one c (48 + n % 10) (omega arith));
        })
      where
        at_least : (k : ℕ) → n < 10 * 10 ^ k → 1 ≤ k
        at_least zero q = absurd (omega arith)
        at_least (suc k) q = omega arith

plain_is : (n : ℕ) (l : List ℕ) → Digits n l → plain l ≡ true
unfolding plain
plain_is n l d = rw d.is (⊎_elim
    (λ h. rw (d.one h) refl)
    (λ h. go d.first d.rest (d.lead (omega arith)))
    (below_or n 10))
  where
    go : (f : ℕ) (r : List ℕ) → (f ≡ 48 → ⊥) → plain (f ∷ r) ≡ true
    go f [] e = refl
    go f (c ∷ r) e = rw (ne_eqb f 48 e) refl

word_digits : (n : ℕ) → n < 2 ^ 64 → Digits n (decimal n)
word_digits n h = digits_are 20 n (omega arith) (omega arith)

pub decimal_back : (n : ℕ) → n < 2 ^ 64 → decimal_of (decimal n) ≡ Some n
unfolding decimal_of value_in
decimal_back n h =
    let d : Digits n (decimal n) = word_digits n h in
    rw (plain_is n (decimal n) d, d.all, d.value, lt-ltb n (2 ^ 64) h) refl

pub decimal_free : (c n : ℕ) → c < 33 → n < 2 ^ 64 → free c (decimal n) ≡ true
decimal_free c n k h = (word_digits n h).tabs c k

-- ---- hexadecimal
pub record HexDigits (k n : ℕ) (l : List ℕ) : Type 0 where
  pub value : places 16 l ≡ n
  pub all : below 16 l ≡ true
  pub long : length l ≡ k
  pub tabs : (c : ℕ) → c < 33 → free c l ≡ true

hex_high : (d c : ℕ) → d < 16 → c < 33 → c < hex_byte d
hex_high d c h k = ⊎_elim (λ g. rw (lt-ltb d 10 g) (omega arith)) (λ g. rw (le-ltb d 10 g) (omega arith)) (below_or d 10)

hex_are : (k n : ℕ) → n < 16 ^ k → HexDigits k n (hex_digits k n)
unfolding hex_digits places below free
hex_are zero n h = record { value = omega arith; all = refl; long = refl; tabs = λ c q. refl }
hex_are (suc k) n h =
    let h' : n < 16 * 16 ^ k = subst (λ (m : ℕ). n < m) (pow-succ' 16 k) h in
    let d : HexDigits k (n / 16) (hex_digits k (n / 16)) = hex_are k (n / 16) (omega arith) in
    record {
      value = places_snoc 16 (hex_digits k (n / 16)) (hex_byte (n % 16)) ∙ rw (d.value, digit_hex (n % 16) (omega arith)) (omega arith);
      all = below_snoc 16 (hex_digits k (n / 16)) (hex_byte (n % 16)) d.all (subst (λ (m : ℕ). m < 16) (sym (digit_hex (n % 16) (omega arith))) (omega arith));
      long = length-append (hex_digits k (n / 16)) (hex_byte (n % 16) ∷ []) ∙ omega (arith, d.long);
      tabs = λ c q. free_append c (hex_digits k (n / 16)) (hex_byte (n % 16) ∷ []) (d.tabs c q) (free_one c (hex_byte (n % 16)) (hex_high (n % 16) c (omega arith) q));
    }

word_hex : (n : ℕ) → n < 2 ^ 64 → HexDigits 16 n (hex_digits 16 n)
word_hex n h = hex_are 16 n (omega arith)

pub hex_back : (n : ℕ) → n < 2 ^ 64 → hex_of (hex_digits 16 n) ≡ Some n
unfolding hex_of value_in
hex_back n h =
    let d : HexDigits 16 n (hex_digits 16 n) = word_hex n h in
    rw (d.long, d.all, d.value, lt-ltb n (2 ^ 64) h) refl

pub hex_free : (c n : ℕ) → c < 33 → n < 2 ^ 64 → free c (hex_digits 16 n) ≡ true
hex_free c n k h = (word_hex n h).tabs c k

-- ---- labels
pub label_free : (c : ℕ) (l : List ℕ) → c < 33 → printable l ≡ true → free c l ≡ true
unfolding printable free
label_free c [] k h = refl
label_free c (b ∷ r) k h = go (leb 33 b) (leb b 126) (printable r) refl h (label_free c r k)
  where
    go : (t u v : Bool) → leb 33 b ≡ t → ((t && u) && v) ≡ true → (v ≡ true → free c r ≡ true) → (bool.not (eqb b c) && free c r) ≡ true
    go true true true e p ih = rw (ne_eqb b c (λ (q : b ≡ c). omega (arith, leb-true 33 b e))) (ih refl)
    go true true false e p ih = rw (ne_eqb b c (λ (q : b ≡ c). omega (arith, leb-true 33 b e))) (ih p)
    go true false v e p ih = absurd (let z : ◌≡◌ {A = ℕ} 0 1 = cc in omega arith)
    go false u v e p ih = absurd (let z : ◌≡◌ {A = ℕ} 0 1 = cc in omega arith)

pub label_printable : (l : List ℕ) → is_label l ≡ true → printable l ≡ true
unfolding is_label
label_printable l h = go (leb 1 (length l)) (leb (length l) 32) (printable l) h
  where
    go : (a b c : Bool) → (a && (b && c)) ≡ true → c ≡ true
    go true true c h = h
    go true false c h = absurd (let z : ◌≡◌ {A = ℕ} 0 1 = cc in omega arith)
    go false b c h = absurd (let z : ◌≡◌ {A = ℕ} 0 1 = cc in omega arith)
