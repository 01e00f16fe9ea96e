-- How lent memory holds a split, and what decomposing a formula leaves.
--     skeleton    two numbers an entry, in prefix order: `safety_entry` and the place of a safety leaf; `owed_entry` and the number of an
--                 obligation; for a word its number in a formula table and 0
--     owed        three numbers an obligation: `eventually_kind` and a place, or `until_kind` and two places
--     splitting   the result for what is lent, with refusals 1 and 2, and both slices afterwards
use Rattle.std.specs.Prelude.{◌≡◌, Bool, true, false, ◌&&◌, List, [], ◌∷◌, ◌++◌, ℕ, ◌+◌, ◌*◌, ◌≤◌, leb, length}
use Rattle.std.proofs.Math.Option.{Option, none, some}
use Rattle.std.proofs.lemmas.List.Edits.{sets}
use Rattle.terms.specs.Limits.{owed_room, skeleton_room}
use Rattle.terms.specs.Ops.{not_op, and_op, or_op, implies_op}
use Rattle.terms.specs.Entries.{safety_entry, owed_entry, eventually_kind, until_kind}
use Rattle.std.specs.Prelude.{Option as Opt, Some, None}
use Rattle.std.specs.Prelude.{Result as Returned}
use Rattle.result.specs.Result.{Result, given, refused as no_result}
use Rattle.result.specs.Refusal.{told}
use Rattle.result.specs.declared.Refusal.{Refusal}
use Rattle.formula.specs.Tree.{size}
use Rattle.formula.specs.Spells.{Spells}
use Rattle.formula.specs.Formula.{Formula}
use Rattle.formula.specs.Table.{node_at, Placed, rule_of, roomy}
use Rattle.formula.specs.Pure.{pure}
use Rattle.liveness.specs.Split.{faults, Obligation, E, U, Skeleton, safety, owed, Not, And, Or, Implies, skeleton_of, obligations_of, owes, Answer, none as no-parts, parts, refused, split_of}
use Rattle.split.specs.declared.parts.Parts.{Parts}
use Rattle.split.specs.declared.parts.Filled.{Filled}

unfoldable pub entries : Skeleton → ℕ
entries (safety i a) = 1
entries (owed k) = 1
entries (Not s) = 1 + entries s
entries (And s t) = 1 + entries s + entries t
entries (Or s t) = 1 + entries s + entries t
entries (Implies s t) = 1 + entries s + entries t

unfoldable pub skeleton_cells : Skeleton → List ℕ
skeleton_cells (safety i a) = safety_entry ∷ i ∷ []
skeleton_cells (owed k) = owed_entry ∷ k ∷ []
skeleton_cells (Not s) = not_op ∷ 0 ∷ skeleton_cells s
skeleton_cells (And s t) = and_op ∷ 0 ∷ skeleton_cells s ++ skeleton_cells t
skeleton_cells (Or s t) = or_op ∷ 0 ∷ skeleton_cells s ++ skeleton_cells t
skeleton_cells (Implies s t) = implies_op ∷ 0 ∷ skeleton_cells s ++ skeleton_cells t

abbrev pub obligation_cells : Obligation → List ℕ
obligation_cells (E i f) = eventually_kind ∷ i ∷ 0 ∷ []
obligation_cells (U i f j g) = until_kind ∷ i ∷ j ∷ []

unfoldable pub owed_cells : List Obligation → List ℕ
owed_cells [] = []
owed_cells (o ∷ os) = obligation_cells o ++ owed_cells os

-- ---- the entry point: document 01's result and the lent slices afterwards
-- what is given: none where no split is asked for, or how many entries and obligations the split has
pub data Outcome : Type 0 where
  settled : Result (Opt Parts) → List ℕ → List ℕ → Outcome

-- what an answer tells, and the slices
abbrev pub outcome : Returned (Opt Parts) Refusal → List ℕ → List ℕ → Outcome
outcome r s o = settled (told r) s o

-- document 01's answer as a result and the two slices: only a split is written, from the slices' first place on
abbrev pub held : Answer → List ℕ → List ℕ → Outcome
held no-parts s o = settled (given None) s o
held (refused n) s o = settled (no_result n) s o
held (parts sk os) s o = settled (given (Some (record { skeleton = entries sk; owed = length os }))) (sets s 0 (skeleton_cells sk)) (sets o 0 (owed_cells os))

-- refusal 1: the formula table has 1,024 nodes, and each output room for 256 entries
abbrev pub roomy_split : List ℕ → List ℕ → List ℕ → List ℕ → Bool
roomy_split ops nums s o = roomy ops nums && (leb skeleton_room (length s) && leb owed_room (length o))

abbrev pub of_rule : Bool → ℕ → Option Formula → Answer
of_rule assumed first none = refused 2
of_rule assumed first (some f) = split_of assumed f first

abbrev pub unless_short : Bool → Answer → Answer
unless_short true a = a
unless_short false a = refused 1

abbrev pub answer_of : List ℕ → List ℕ → ℕ → ℕ → Bool → List ℕ → List ℕ → Answer
answer_of ops nums first count assumed s o =
    unless_short (roomy_split ops nums s o) (of_rule assumed first (rule_of ops nums first count))

unfoldable pub splitting : List ℕ → List ℕ → ℕ → ℕ → Bool → List ℕ → List ℕ → Outcome
splitting ops nums first count assumed s o =
    held (answer_of ops nums first count assumed s o) s o

-- ---- the walks
-- a pure formula stands at i
pub record Purity (ops nums : List ℕ) (i : ℕ) : Type 0 where
  pub place : Placed ops nums i
  pub is_pure : pure place.formula ≡ true

pub record Ends (ops nums : List ℕ) (i e : ℕ) : Type 0 where
  pub is : (f : Formula) → Spells (node_at ops nums) i f → e ≡ i + size f

-- a formula without faults stands at i, and the outputs have room for it from entry k and obligation o on
pub record SplitReady (ops nums : List ℕ) (i : ℕ) (s : List ℕ) (k : ℕ) (w : List ℕ) (o : ℕ) : Type 0 where
  pub place : Placed ops nums i
  pub sound : faults place.formula ≡ []
  pub room : 2 * (k + size place.formula) ≤ length s
  pub room_owed : 3 * (o + size place.formula) ≤ length w

-- what decomposing f, which stands at i, leaves: its skeleton's entries from k on, its obligations from o on, and nothing else changed
pub record SplitLaid (f : Formula) (i : ℕ) (s s' : List ℕ) (k : ℕ) (w w' : List ℕ) (o : ℕ) (r : Filled) : Type 0 where
  pub skeleton : s' ≡ sets s (2 * k) (skeleton_cells (skeleton_of f i o))
  pub owing : w' ≡ sets w (3 * o) (owed_cells (obligations_of f i))
  pub ends : r.end ≡ i + size f
  pub entered : r.entries ≡ k + entries (skeleton_of f i o)
  pub counted : r.owed ≡ o + owes f i

pub record Decomposed (ops nums : List ℕ) (i : ℕ) (s s' : List ℕ) (k : ℕ) (w w' : List ℕ) (o : ℕ) (r : Filled) : Type 0 where
  pub is : (f : Formula) → Spells (node_at ops nums) i f → faults f ≡ [] → SplitLaid f i s s' k w w' o r
