-- The number of each refusal: document 01's "When no result is given" has 1 to 24, document 02 25 to 27.
--     number_of    the number of a refusal
--     refused_text    what is printed of a refusal: `refused`, a space, its number
--     told         what a call that answers a value or a refusal tells: the value, or the refusal's number
use Rattle.std.specs.Prelude.{ℕ, List, ◌∷◌, Ok, Err}
use Rattle.std.specs.Fmt.{decimal}
use Rattle.std.specs.Prelude.{Result as Returned}
use Rattle.result.specs.Result.{Result, given, refused}
use Rattle.result.specs.declared.Refusal.{Refusal}
use Rattle.result.specs.declared.Refusal.TheVariants.{Short, Unfit, Long, Unended, Word, Place, Label, Number, Limit, Unfinished, Unopened, NestedFor, ZeroFor, Antecedent, WithinOperand, NextConsequent}
use Rattle.result.specs.declared.Refusal.TheVariants.{Consequent, NextOperand, NotOperand, Liveness, EventuallyOperand, UntilOperand, LivenessBelow, NoLivenessBelow, Late, Failed, Unsaved}

abbrev pub number_of : Refusal → ℕ
number_of Short = 1
number_of Unfit = 2
number_of Long = 3
number_of Unended = 4
number_of Word = 5
number_of Place = 6
number_of Label = 7
number_of Number = 8
number_of Limit = 9
number_of Unfinished = 10
number_of NestedFor = 11
number_of ZeroFor = 12
number_of Antecedent = 13
number_of WithinOperand = 14
number_of NextConsequent = 15
number_of Consequent = 16
number_of NextOperand = 17
number_of NotOperand = 18
number_of Liveness = 19
number_of EventuallyOperand = 20
number_of UntilOperand = 21
number_of LivenessBelow = 22
number_of NoLivenessBelow = 23
number_of Late = 24
number_of Unopened = 25
number_of Failed = 26
number_of Unsaved = 27

abbrev pub refused_text : Refusal → List ℕ
refused_text r = 114 ∷ 101 ∷ 102 ∷ 117 ∷ 115 ∷ 101 ∷ 100 ∷ 32 ∷ decimal (number_of r)

abbrev pub told : {A : Type 0} → Returned A Refusal → Result A
told (Ok a) = given a
told (Err r) = refused (number_of r)
