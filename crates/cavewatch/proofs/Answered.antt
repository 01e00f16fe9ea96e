-- An output of 262,144 bytes is never too short, so the listing stands in front of it.
use mathlib.Core.Bool.{true}
use mathlib.Core.List.{List, ◌++◌}
use mathlib.Core.Path.{◌≡◌, sym, ap, ◌∙◌}
use Prim.Native.Nat.{ℕ}
use native.Mathlib.Omega.{arith}
use borrow.Author.Tests.{le-leb}
use lib.Dec.{leb}
use lib.ListN.{length, take, drop}
use lib.Seq.{take-append_seam}
use Rattle.result.specs.Result.{given}
use Rattle.listing_text.specs.Listing.{listing}
use Rattle.std.specs.Prelude.{Ok}
use Rattle.std.specs.Prelude.{Result as Returned}
use Rattle.result.specs.Refusal.{told}
use Rattle.result.specs.declared.Refusal.{Refusal}
use Rattle.result.proofs.Told.{told_given}
use Rattle.listing.specs.Lists.{list_call, Answers}

module _ (a : Returned ℕ Refusal) (text old new : List ℕ) (w : Answers (list_call text old) a new) (h : length old ≡ 262144) where
  long : leb 262144 (length old) ≡ true
  long = le-leb 262144 (length old) (omega arith)

  answer : told a ≡ given (length (listing text))
  unfolding list_call
  answer = let e = w.answers in rw long at e

  pub length_told : a ≡ Ok (length (listing text))
  length_told = told_given a (length (listing text)) answer

  front : new ≡ listing text ++ drop (length (listing text)) old
  unfolding list_call
  front = let e = w.leaves in rw long at e

  pub listed : (n : ℕ) → a ≡ Ok n → take n new ≡ listing text
  listed n e =
      let same : n ≡ length (listing text) = ok_inj (sym e ∙ length_told) in
      ap (λ (k : ℕ). take k new) same
      ∙ ap (take (length (listing text))) front
      ∙ take-append_seam (listing text) (drop (length (listing text)) old)
    where
      ok_inj : {i j : ℕ} → ◌≡◌ {A = Returned ℕ Refusal} (Ok i) (Ok j) → i ≡ j
      ok_inj x = cc
