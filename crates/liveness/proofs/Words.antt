-- What each word of a formula does to liveness and faults, by the word's number.
use mathlib.Core.Path.{◌≡◌, refl}
use mathlib.Core.Bool.{Bool, true, false, ◌||◌}
use mathlib.Core.List.{List, [], ◌++◌}
use mathlib.Core.Logic.{⊎_elim}
use Prim.Native.Nat.{ℕ, ◌+◌, ◌≤◌, ◌<◌}
use native.Mathlib.Omega.{arith}
use lib.ListN.{get_or}
use Rattle.formula.specs.Tree.{one, two, one_of, two_of}
use Rattle.formula.specs.Formula.{Unary, Binary, Formula, not, next, always, eventually, always_for, within, and, or, implies, until}
use Rattle.formula.specs.Table.{Placed}
use Rattle.formula.proofs.Faults.{cons_nil, unless_nil}
use Rattle.formula.proofs.Cases.{below_or}
use Rattle.formula.proofs.Nodes.{number_of}
use Rattle.formula.proofs.Places.{placed_one, placed_left}
use Rattle.liveness.specs.Split.{live, unless_both, temporal, faults}

-- ---- liveness
pub live_one : (o : Unary) (f : Formula) → (number_of (one_of o) ≡ 6 → ⊥) → live (one o f) ≡ live f
unfolding live
live_one not f h = refl
live_one next f h = refl
live_one always f h = refl
live_one eventually f h = absurd (h refl)
live_one (always_for b) f h = refl
live_one (within b) f h = refl

pub live_eventually : (o : Unary) (f : Formula) → number_of (one_of o) ≡ 6 → live (one o f) ≡ true
unfolding live
live_eventually not f h = absurd (omega arith)
live_eventually next f h = absurd (omega arith)
live_eventually always f h = absurd (omega arith)
live_eventually eventually f h = refl
live_eventually (always_for b) f h = absurd (omega arith)
live_eventually (within b) f h = absurd (omega arith)

pub live_two : (o : Binary) (l r : Formula) → number_of (two_of o) < 12 → live (two o l r) ≡ (live l || live r)
unfolding live
live_two and l r h = refl
live_two or l r h = refl
live_two implies l r h = refl
live_two until l r h = absurd (omega arith)

pub live_until : (o : Binary) (l r : Formula) → 12 ≤ number_of (two_of o) → live (two o l r) ≡ true
unfolding live
live_until and l r h = absurd (omega arith)
live_until or l r h = absurd (omega arith)
live_until implies l r h = absurd (omega arith)
live_until until l r h = refl

-- ---- faults
pub faults_temporal : (o : Unary) (f : Formula) → 4 ≤ number_of (one_of o) → (number_of (one_of o) ≡ 6 → ⊥) → faults (one o f) ≡ temporal (live f)
unfolding faults
faults_temporal not f g h = absurd (omega arith)
faults_temporal next f g h = refl
faults_temporal always f g h = refl
faults_temporal eventually f g h = absurd (h refl)
faults_temporal (always_for b) f g h = refl
faults_temporal (within b) f g h = refl

pub only_not : (o : Unary) → number_of (one_of o) < 4 → o ≡ not
only_not not h = refl
only_not next h = absurd (omega arith)
only_not always h = absurd (omega arith)
only_not eventually h = absurd (omega arith)
only_not (always_for b) h = absurd (omega arith)
only_not (within b) h = absurd (omega arith)

pub only_eventually : (o : Unary) → number_of (one_of o) ≡ 6 → o ≡ eventually
only_eventually not h = absurd (omega arith)
only_eventually next h = absurd (omega arith)
only_eventually always h = absurd (omega arith)
only_eventually eventually h = refl
only_eventually (always_for b) h = absurd (omega arith)
only_eventually (within b) h = absurd (omega arith)

pub only_until : (o : Binary) → 12 ≤ number_of (two_of o) → o ≡ until
only_until and h = absurd (omega arith)
only_until or h = absurd (omega arith)
only_until implies h = absurd (omega arith)
only_until until h = refl

pub faults_two : (o : Binary) (l r : Formula) → number_of (two_of o) < 12 → faults (two o l r) ≡ faults l ++ faults r
unfolding faults
faults_two and l r h = refl
faults_two or l r h = refl
faults_two implies l r h = refl
faults_two until l r h = absurd (omega arith)

-- a formula without faults has no temporal operator but `eventually` and `until`
pub temporal_some : (b : Bool) {B : Type 0} → temporal b ≡ [] → B
temporal_some true e = cons_nil e
temporal_some false e = cons_nil e

pub sound_eventually : (o : Unary) (f : Formula) → 4 ≤ number_of (one_of o) → faults (one o f) ≡ [] → o ≡ eventually
unfolding faults
sound_eventually not f g h = absurd (omega arith)
sound_eventually next f g h = temporal_some (live f) h
sound_eventually always f g h = temporal_some (live f) h
sound_eventually eventually f g h = refl
sound_eventually (always_for b) f g h = temporal_some (live f) h
sound_eventually (within b) f g h = temporal_some (live f) h

pub both_nil : {A : Type 0} (a b : Bool) (n : A) → unless_both a b n ≡ [] → (a ≡ true) × (b ≡ true)
both_nil true b n h = (refl, unless_nil b n h)
both_nil false b n h = cons_nil h

-- ---- places: the operand behind a word
module _ (ops nums : List ℕ) (i : ℕ) where
  pub placed_next : Placed ops nums i → 3 ≤ get_or ops i 0 → Placed ops nums (i + 1)
  placed_next p h = ⊎_elim (λ k. placed_one ops nums i p h k) (λ k. placed_left ops nums i p k) (below_or (get_or ops i 0) 9)
