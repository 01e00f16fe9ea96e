-- What a call tells, read back.
--     told_given      it tells a value only where it answers that value
--     told_refused    it tells a number only where it answers a refusal of that number
--     number_once     no two refusals have one number
--     told_once       no two answers tell one result
use mathlib.Core.Path.{◌≡◌, refl, sym, ap, ◌∙◌}
use mathlib.Core.List.{List, [], ◌∷◌}
use Prim.Native.Nat.{ℕ}
use native.Mathlib.Omega.{arith}
use Rattle.std.specs.Prelude.{Ok, Err, get_or}
use Rattle.std.specs.Prelude.{Result as Returned}
use Rattle.result.specs.Result.{Result, given, refused}
use Rattle.result.specs.Refusal.{number_of, told}
use Rattle.result.specs.declared.Refusal.{Refusal}
use Rattle.result.specs.declared.Refusal.TheVariants.{Short, Unfit, Long, Unended, Word, Place, Label, Number, Limit, Unfinished, Unopened, NestedFor, ZeroFor, Antecedent, WithinOperand, NextConsequent}
use Rattle.result.specs.declared.Refusal.TheVariants.{Consequent, NextOperand, NotOperand, Liveness, EventuallyOperand, UntilOperand, LivenessBelow, NoLivenessBelow, Late, Failed, Unsaved}

pub told_given : {A : Type 0} (r : Returned A Refusal) (a : A) → told r ≡ given a → r ≡ Ok a
told_given (Ok b) a e = ap Ok (inj e)
  where
    inj : {A : Type 0} {x y : A} → given x ≡ given y → x ≡ y
    inj h = cc
told_given (Err q) a e = let z : ◌≡◌ {A = ℕ} 0 1 = cc in absurd (omega arith)

pub told_refused : {A : Type 0} (r : Returned A Refusal) (n : ℕ) → told r ≡ refused n → (q : Refusal) × (r ≡ Err q) × (number_of q ≡ n)
told_refused (Ok b) n e = let z : ◌≡◌ {A = ℕ} 0 1 = cc in absurd (omega arith)
told_refused (Err q) n e = (q, refl, inj e)
  where
    inj : {A : Type 0} {m k : ℕ} → ◌≡◌ {A = Result A} (refused m) (refused k) → m ≡ k
    inj h = cc

-- the refusals by their numbers
abbrev refusals : List Refusal
refusals =
    Short
    ∷ Short
    ∷ Unfit
    ∷ Long
    ∷ Unended
    ∷ Word
    ∷ Place
    ∷ Label
    ∷ Number
    ∷ Limit
    ∷ Unfinished
    ∷ NestedFor
    ∷ ZeroFor
    ∷ Antecedent
    ∷ WithinOperand
    ∷ NextConsequent
    ∷ Consequent
    ∷ NextOperand
    ∷ NotOperand
    ∷ Liveness
    ∷ EventuallyOperand
    ∷ UntilOperand
    ∷ LivenessBelow
    ∷ NoLivenessBelow
    ∷ Late
    ∷ Unopened
    ∷ Failed
    ∷ Unsaved
    ∷ []

numbered : (r : Refusal) → get_or refusals (number_of r) Short ≡ r
numbered Short = refl
numbered Unfit = refl
numbered Long = refl
numbered Unended = refl
numbered Word = refl
numbered Place = refl
numbered Label = refl
numbered Number = refl
numbered Limit = refl
numbered Unfinished = refl
numbered NestedFor = refl
numbered ZeroFor = refl
numbered Antecedent = refl
numbered WithinOperand = refl
numbered NextConsequent = refl
numbered Consequent = refl
numbered NextOperand = refl
numbered NotOperand = refl
numbered Liveness = refl
numbered EventuallyOperand = refl
numbered UntilOperand = refl
numbered LivenessBelow = refl
numbered NoLivenessBelow = refl
numbered Late = refl
numbered Unopened = refl
numbered Failed = refl
numbered Unsaved = refl

pub number_once : (a b : Refusal) → number_of a ≡ number_of b → a ≡ b
number_once a b e = sym (numbered a) ∙ ap (λ (n : ℕ). get_or refusals n Short) e ∙ numbered b

pub told_once : {A : Type 0} (a b : Returned A Refusal) → told a ≡ told b → a ≡ b
told_once a (Ok x) e = told_given a x e
told_once a (Err q) e =
    let (p, is, n) = told_refused a (number_of q) e in
    is ∙ ap Err (number_once p q n)
