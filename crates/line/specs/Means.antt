-- The code's answer for a line, whose rules name their label by its place in the line, and what it means.
use Rattle.std.specs.Prelude.{Bool, true, false, List, [], ◌∷◌, ◌≡◌, ℕ, zero, suc, ◌+◌, ◌≤◌, ◌<◌, ltb, length, take, drop, Option, Some, None, Result, Ok, Err}
use Rattle.terms.specs.Choice.{pick}
use Rattle.terms.specs.Kinds.{kind_number}
use Rattle.line.specs.Line as spec
use Rattle.line.specs.declared.line.Sort.{Sort}
use Rattle.line.specs.declared.line.Flaw.TheVariants as flaw
use Rattle.line.specs.declared.line.Fault.{Fault}
use Rattle.line.specs.declared.line.Fault.TheVariants.{Unreadable, Field}
use Rattle.line.specs.declared.line.Content.{Content}
use Rattle.line.specs.declared.line.Content.TheVariants.{Rule, Node, Step, States, Slot}

-- the code's answer for a line
abbrev pub Answer : Type 0
Answer = Result Content Fault

abbrev pub held : List ℕ → Content → spec.Content
held l (Rule start len kind) = spec.rule (take len (drop start l)) (kind_number kind)
held l (Node op num) = spec.node op num
held l (Step s w) = spec.step s w
held l (States c) = spec.states c
held l (Slot start len width) = spec.slot (take len (drop start l)) width

-- its sort, which no text changes
abbrev pub sort_in : Content → Sort
sort_in c = spec.sort_of (held [] c)

unfoldable pub means : List ℕ → Answer → spec.Line
means l (Err Unreadable) = spec.bad
means l (Err (Field s f)) = spec.wrong s f
means l (Ok c) = spec.right (held l c)

-- a rule's label, or a slot's name, lies within n bytes
abbrev pub label_in : ℕ → Content → Type 0
label_in n (Rule start len kind) = start + len ≤ n
label_in n (Node op num) = Unit
label_in n (Step s w) = Unit
label_in n (States c) = Unit
label_in n (Slot start len width) = start + len ≤ n

abbrev pub in_line : ℕ → Answer → Type 0
in_line n (Err e) = Unit
in_line n (Ok c) = label_in n c

pub record Meant (l : List ℕ) (p : spec.Line) (r : Answer) : Type 0 where
  pub holds : means l r ≡ p
  pub inside : in_line (length l) r

-- what reading a line answers
abbrev pub LineIs : List ℕ → Answer → Type 0
LineIs l r = Meant l (spec.parse l) r

-- an answer that names no place
pub record Anywhere (p : spec.Line) (r : Answer) : Type 0 where
  pub is : (l : List ℕ) → Meant l p r

-- f stands in a line from a place on
pub record FieldAt (l f : List ℕ) (start : ℕ) : Type 0 where
  pub is : take (length f) (drop start l) ≡ f
  pub inside : start + length f ≤ length l

-- the answer for a line in which f stands there
pub record ReadAs (f : List ℕ) (start : ℕ) (p : spec.Line) (r : Answer) : Type 0 where
  pub is : (l : List ℕ) → FieldAt l f start → Meant l p r

-- n fields behind a word, of which the first two are told
abbrev pub behind : ℕ → List ℕ → List ℕ → List (List ℕ)
behind zero f g = []
behind (suc zero) f g = f ∷ []
behind (suc (suc zero)) f g = f ∷ g ∷ []
behind (suc (suc (suc n))) f g = f ∷ g ∷ [] ∷ []

-- what stands past the tab at t, nothing where there is none
pub record Tail (l : List ℕ) (t : ℕ) (r : List ℕ) : Type 0 where
  pub cut : t < length l → r ≡ drop (t + 1) l
  pub none : length l ≤ t → r ≡ []

-- how many fields stand behind a word: whether a tab ends it, the field behind it, and the next
abbrev pub count_of : Bool → Bool → Bool → ℕ
count_of false b c = 0
count_of true false c = 1
count_of true true false = 2
count_of true true true = 3

-- the number of a line of a sort, and one below a limit
abbrev pub number_in : Option ℕ → Sort → Result ℕ Fault
number_in None s = Err (Field s flaw.Number)
number_in (Some n) s = Ok n

abbrev pub number_below : Option ℕ → ℕ → Sort → Result ℕ Fault
number_below None limit s = number_in None s
number_below (Some n) limit s = number_in (pick (ltb n limit) (Some n) None) s
