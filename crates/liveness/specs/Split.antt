-- Document 01, "Liveness" and refusals 20 to 23: the liveness split of a property (`LivenessDecomposition::compute` of src/mc/plan.rs).
--     live           the formula has `eventually` or `until` (`contains_liveness`; `within` is none of them)
--     faults         the refusals that apply, in the order of the walk: parents first, left before right. The first is the answer
--     skeleton_of     the and, or, implies, not of a formula; each atom is a safety leaf, each `eventually` or `until` the next obligation
--     obligations_of  its `eventually` and `until`, left to right
--     split_of        the answer for a rule
use Rattle.std.specs.Prelude.{Bool, true, false, ◌||◌, List, [], ◌∷◌, ◌++◌, ℕ, ◌+◌, length}
use Rattle.result.specs.Refusal.{number_of}
use Rattle.result.specs.declared.Refusal.{Refusal}
use Rattle.result.specs.declared.Refusal.TheVariants.{EventuallyOperand, UntilOperand, LivenessBelow, NoLivenessBelow}
use Rattle.formula.specs.Tree.{leaf, one, two, size}
use Rattle.formula.specs.Formula.{Atom, Formula, not, next, always, eventually, always_for, within, and, or, implies, until}
use Rattle.formula.specs.Pure.{pure, unless}

unfoldable pub live : Formula → Bool
live (leaf a) = false
live (one not f) = live f
live (one next f) = live f
live (one always f) = live f
live (one eventually f) = true
live (one (always_for b) f) = live f
live (one (within b) f) = live f
live (two and l r) = live l || live r
live (two or l r) = live l || live r
live (two implies l r) = live l || live r
live (two until l r) = true

-- two tests that both have to hold
abbrev pub unless_both : {A : Type 0} → Bool → Bool → A → List A
unless_both true t n = unless t n
unless_both false t n = n ∷ []

-- another temporal operator, by whether liveness stands below it
abbrev pub temporal : Bool → List Refusal
temporal true = LivenessBelow ∷ []
temporal false = NoLivenessBelow ∷ []

unfoldable pub faults : Formula → List Refusal
faults (leaf a) = []
faults (one not f) = faults f
faults (one next f) = temporal (live f)
faults (one always f) = temporal (live f)
faults (one eventually f) = unless (pure f) EventuallyOperand
faults (one (always_for b) f) = temporal (live f)
faults (one (within b) f) = temporal (live f)
faults (two and l r) = faults l ++ faults r
faults (two or l r) = faults l ++ faults r
faults (two implies l r) = faults l ++ faults r
faults (two until l r) = unless_both (pure l) (pure r) UntilOperand

-- an obligation: `eventually` with its operand, `until` with its two, each with its place in the formula table
pub data Obligation : Type 0 where
  E : ℕ → Formula → Obligation
  U : ℕ → Formula → ℕ → Formula → Obligation

-- a safety leaf is an atom with its place; `owed k` is obligation k
pub data Skeleton : Type 0 where
  safety : ℕ → Atom → Skeleton
  owed : ℕ → Skeleton
  Not : Skeleton → Skeleton
  And : Skeleton → Skeleton → Skeleton
  Or : Skeleton → Skeleton → Skeleton
  Implies : Skeleton → Skeleton → Skeleton

-- of the formula at place i. (Where a fault applies there is no split, and what stands here is not asked for)
unfoldable pub obligations_of : Formula → ℕ → List Obligation
obligations_of (leaf a) i = []
obligations_of (one not f) i = obligations_of f (i + 1)
obligations_of (one next f) i = []
obligations_of (one always f) i = []
obligations_of (one eventually f) i = E (i + 1) f ∷ []
obligations_of (one (always_for b) f) i = []
obligations_of (one (within b) f) i = []
obligations_of (two and l r) i = obligations_of l (i + 1) ++ obligations_of r (i + 1 + size l)
obligations_of (two or l r) i = obligations_of l (i + 1) ++ obligations_of r (i + 1 + size l)
obligations_of (two implies l r) i = obligations_of l (i + 1) ++ obligations_of r (i + 1 + size l)
obligations_of (two until l r) i = U (i + 1) l (i + 1 + size l) r ∷ []

-- how many obligations the formula at place i gives
abbrev pub owes : Formula → ℕ → ℕ
owes f i = length (obligations_of f i)

-- of the formula at place i, k obligations standing before it
unfoldable pub skeleton_of : Formula → ℕ → ℕ → Skeleton
skeleton_of (leaf a) i k = safety i a
skeleton_of (one not f) i k = Not (skeleton_of f (i + 1) k)
skeleton_of (one next f) i k = owed k
skeleton_of (one always f) i k = owed k
skeleton_of (one eventually f) i k = owed k
skeleton_of (one (always_for b) f) i k = owed k
skeleton_of (one (within b) f) i k = owed k
skeleton_of (two and l r) i k = And (skeleton_of l (i + 1) k) (skeleton_of r (i + 1 + size l) (k + owes l (i + 1)))
skeleton_of (two or l r) i k = Or (skeleton_of l (i + 1) k) (skeleton_of r (i + 1 + size l) (k + owes l (i + 1)))
skeleton_of (two implies l r) i k = Implies (skeleton_of l (i + 1) k) (skeleton_of r (i + 1 + size l) (k + owes l (i + 1)))
skeleton_of (two until l r) i k = owed k

-- ---- the answer for a rule
pub data Answer : Type 0 where
  none : Answer
  parts : Skeleton → List Obligation → Answer
  refused : ℕ → Answer

-- the first fault, or else the split
abbrev pub first_or : List Refusal → Answer → Answer
first_or [] a = a
first_or (n ∷ ns) a = refused (number_of n)

-- a property, by whether it has liveness
abbrev pub property : Bool → Formula → ℕ → Answer
property false f i = none
property true f i = first_or (faults f) (parts (skeleton_of f i 0) (obligations_of f i))

-- the rule f at place i
abbrev pub split_of : Bool → Formula → ℕ → Answer
split_of true f i = none
split_of false f i = property (live f) f i
