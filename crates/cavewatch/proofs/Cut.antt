-- At most 65,536 bytes are read. A longer input is too long for a book, and so are they: the listing is that of the whole input.
--     cut_listing     the first 65,536 bytes have the listing of the whole
--     whole_listed    what was read, up to the end or up to so many bytes, has it
use mathlib.Core.Bool.{Bool, true, false}
use mathlib.Core.Logic.{⊎_elim}
use mathlib.Core.List.{List, [], ◌++◌, append-nil}
use mathlib.Core.Path.{◌≡◌, refl, sym, ap, ◌∙◌}
use Prim.Native.Nat.{ℕ, ◌≤◌, ◌<◌}
use native.Mathlib.Omega.{arith}
use borrow.Author.Tests.{lt-leb, leb-true, leb-false}
use lib.Dec.{leb}
use lib.ListN.{length, take}
use lib.Seq.{take_all, length-take-le, take-append-le}
use Rattle.std.specs.Prelude.{Option, Some, None, IfSome}
use Rattle.std.specs.Io.KnownBytes.{Consumes, IsAtEnd}
use Rattle.number.proofs.Numbers.{below_or}
use Rattle.book.specs.Book.{read, refused}
use Rattle.listing_text.specs.Listing.{listing, listing_of}

too_long : (t : List ℕ) → 65535 < length t → read t ≡ refused 3 0
unfolding read
too_long t h = rw (lt-leb (length t) 65535 h) refl

pub cut_listing : (t : List ℕ) → listing (take 65536 t) ≡ listing t
unfolding listing
cut_listing t = go (leb (length t) 65536) refl
  where
    go : (b : Bool) → leb (length t) 65536 ≡ b → listing_of (read (take 65536 t)) ≡ listing_of (read t)
    go true e = ap (λ (x : List ℕ). listing_of (read x)) (take_all 65536 t (leb-true (length t) 65536 e))
    go false e =
        let h : 65536 < length t = leb-false (length t) 65536 e in
        let s : length (take 65536 t) ≡ 65536 = length-take-le 65536 t (omega (arith, h)) in
        ap listing_of (too_long (take 65536 t) (omega (arith, s)) ∙ sym (too_long t (omega (arith, h))))

-- n bytes of `buf` were read; a and b are what the input had left before and after, where that is known
pub whole_listed :
    (a b : Option (List ℕ)) (n : ℕ) (buf out : List ℕ) → length buf ≡ 65536 → n ≤ length buf → Consumes a b (take n buf) → (n < length buf → IsAtEnd b)
    → out ≡ listing (take n buf) → IfSome a (λ text. out ≡ listing text)
whole_listed None b n buf out l h c e w = tt
whole_listed (Some x) None n buf out l h c e w = absurd c
whole_listed (Some x) (Some y) n buf out l h c e w = w ∙ ⊎_elim ended full (below_or n 65536)
  where
    ended : n < 65536 → listing (take n buf) ≡ listing x
    ended p =
        let z : y ≡ [] = e (omega arith) in
        ap listing (sym (c ∙ ap (λ (t : List ℕ). take n buf ++ t) z ∙ append-nil (take n buf)))

    full : 65536 ≤ n → listing (take n buf) ≡ listing x
    full p =
        let s : length (take n buf) ≡ 65536 = omega (arith, length-take-le n buf h) in
        ap listing (sym (ap (take 65536) c ∙ take-append-le 65536 (take n buf) y (omega (arith, s)) ∙ take_all 65536 (take n buf) (omega (arith, s)))) ∙ cut_listing x
