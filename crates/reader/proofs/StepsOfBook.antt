-- THE STEPS OF AN ACCEPTED BOOK. From the place that the answer names, the cursor hands out the book's steps in order, and then the end.
use mathlib.Core.Path.{◌≡◌, sym, ap, ◌∙◌}
use mathlib.Core.List.{List, [], ◌∷◌}
use mathlib.Core.Option.{none, some}
use Prim.Native.Nat.{ℕ, ◌<◌}
use Rattle.result.specs.Result.{given}
use Rattle.book.specs.Book.{Book, StepLine, accepted, read}
use Rattle.reader.specs.Steps.{next_step, result_of, steps_from}
use Rattle.std.specs.Prelude.{Option as Opt, Some, None}
use Rattle.reader.specs.declared.steps.StepLine as code
use Rattle.reader.proofs.BookSteps as laws
use Rattle.reader.proofs.BookSteps.{handed}

-- calls of the cursor, each at the place that the one before named, up to the end: the steps that they hand out
pub data Handing (text : List ℕ) : ℕ → List StepLine → Type 0 where
  ended : {at : ℕ} → next_step text at ≡ none → Handing text at []
  handing : {at next : ℕ} {x : StepLine} {ss : List StepLine}
      → next_step text at ≡ some (record { line = x; next = next })
      → Handing text next ss
      → Handing text at (x ∷ ss)

handed_out : (text : List ℕ) (at : ℕ) (ss : List StepLine) → Handing text at ss → steps_from text at ≡ ss
handed_out text at [] (ended h) = laws.steps_next text at ∙ ap (handed text) h
handed_out text at (x ∷ ss) (handing h r) = laws.steps_next text at ∙ ap (handed text) h ∙ ap (x ∷◌) (handed_out text _ ss r)

pub steps_of_book : (text : List ℕ) (b : Book) → read text ≡ accepted b → steps_from text b.head ≡ b.steps
steps_of_book = laws.steps_of_book

pub steps_in_order : (text : List ℕ) (b : Book) (ss : List StepLine) → read text ≡ accepted b → Handing text b.head ss → ss ≡ b.steps
steps_in_order text b ss e h = sym (handed_out text b.head ss h) ∙ steps_of_book text b e

-- for a caller of `next_step`: nothing is left at its end; else its step stands before what is left from the next place on, which lies ahead
given_is : {A : Type 0} {a b : A} → given a ≡ given b → a ≡ b
given_is e = cc

module _ (text : List ℕ) (at : ℕ) (r : Opt code.StepLine) (h : result_of r ≡ given (next_step text at)) where
  pub none_left : r ≡ None → steps_from text at ≡ []
  none_left e = laws.steps_next text at ∙ ap (handed text) (given_is (sym h ∙ ap result_of e))

  module _ (x : code.StepLine) (e : r ≡ Some x) where
    next_is : next_step text at ≡ some (record { line = record { number = x.step; truths = x.truths }; next = x.next })
    next_is = given_is (sym h ∙ ap result_of e)

    pub one_more : steps_from text at ≡ record { number = x.step; truths = x.truths } ∷ steps_from text x.next
    one_more = laws.steps_next text at ∙ ap (handed text) next_is

    pub forward : at < x.next
    forward = (laws.next_inside text at _ next_is).forward
