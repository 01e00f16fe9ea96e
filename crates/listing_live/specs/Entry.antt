-- A skeleton's text, entry by entry from left to right (the entries of crate split: two numbers each).
--     entry_text      what an entry adds to the text
--     entries_text    what the first n entries add
-- `entries_text_lem` (proofs/Entries.antt): over the cells of a skeleton that stands in the table this is the skeleton's text.
use Rattle.std.specs.Prelude.{◌≡◌, true, List, [], ◌∷◌, ◌++◌, ℕ, zero, suc, ◌+◌, ◌*◌, ◌≤◌, ◌<◌, ltb, length, get_or, drop, Option, Some, None, Result, Ok, Err}
use Rattle.terms.specs.Choice.{pick}
use Rattle.terms.specs.Ops.{words}
use Rattle.formula.specs.Tree.{leaf_of}
use Rattle.formula.specs.Spells.{Spells}
use Rattle.formula.specs.Table.{node_at}
use Rattle.liveness.specs.Split.{Obligation, E, U, Skeleton, safety, owed, Not, And, Or, Implies}
use Rattle.split.specs.Held.{obligation_cells, owed_cells}
use Rattle.number.specs.Digits.{decimal}
use Rattle.text.specs.Tape.{Tape, Wrote, joined}
use Rattle.spelling.specs.Scan.{node_text, Pure}
use Rattle.result.specs.Refusal.{number_of}
use Rattle.result.specs.declared.Refusal.{Refusal}
use Rattle.split.specs.declared.parts.Parts.{Parts}
use Rattle.formula.specs.Formula.{Formula, node}
use Rattle.spelling.specs.Spelling.{operand_text}
use Rattle.listing_line.specs.Line.{line, marked, absent}
use Rattle.listing_live.specs.Live.{live_word, none_word, owe_line, owe_lines}

unfoldable pub entry_text : List ℕ → List ℕ → ℕ → ℕ → List ℕ
entry_text ops nums kind n =
    pick (ltb kind 1) (115 ∷ node_text true (node_at ops nums n))
    (pick (ltb kind 2) (35 ∷ decimal n) (node_text true (node kind 0)))

unfoldable pub entries_text : List ℕ → List ℕ → ℕ → List ℕ → List ℕ
entries_text ops nums zero l = []
entries_text ops nums (suc n) l = entry_text ops nums (get_or l 0 0) (get_or l 1 0) ++ entries_text ops nums n (drop 2 l)

-- its kind is a word's number at most, and a safety leaf's place is in the table
pub record EntryIn (ops nums : List ℕ) (kind n : ℕ) : Type 0 where
  pub known : kind < words
  pub in_ops : kind < 1 → n < length ops
  pub in_nums : kind < 1 → n < length nums

-- so for the first n entries
pub record EntriesIn (ops nums l : List ℕ) (n : ℕ) : Type 0 where
  pub room : 2 * n ≤ length l
  pub entry : (k : ℕ) → k < n → EntryIn ops nums (get_or l (2 * k) 0) (get_or l (2 * k + 1) 0)

-- each safety leaf of a skeleton stands in the table, within it
unfoldable pub SkeletonStands : List ℕ → List ℕ → Skeleton → Type 0
SkeletonStands ops nums (safety i a) = (node_at ops nums i ≡ leaf_of a) × (i < length ops) × (i < length nums)
SkeletonStands ops nums (owed k) = Unit
SkeletonStands ops nums (Not s) = SkeletonStands ops nums s
SkeletonStands ops nums (And s t) = SkeletonStands ops nums s × SkeletonStands ops nums t
SkeletonStands ops nums (Or s t) = SkeletonStands ops nums s × SkeletonStands ops nums t
SkeletonStands ops nums (Implies s t) = SkeletonStands ops nums s × SkeletonStands ops nums t

-- ---- an obligation's three numbers
pub record OweReady (ops nums : List ℕ) (kind first second : ℕ) : Type 0 where
  pub left : Pure ops nums first
  pub right : 1 ≤ kind → Pure ops nums second

abbrev pub OweStands : List ℕ → List ℕ → Obligation → Type 0
OweStands ops nums (E i f) = Spells (node_at ops nums) i f × Spells (node_at ops nums) i f
OweStands ops nums (U i f j g) = Spells (node_at ops nums) i f × Spells (node_at ops nums) j g

pub record OweWrote (ops nums : List ℕ) (k kind first second : ℕ) (before after : Tape) : Type 0 where
  pub is : (o : Obligation) → kind ∷ first ∷ second ∷ [] ≡ obligation_cells o → OweStands ops nums o → Wrote before (owe_line k o) after

-- the text of the operand at i, and a mark
pub record OperandWrote (ops nums : List ℕ) (i mark : ℕ) (before after : Tape) : Type 0 where
  pub is : (f : Formula) → Spells (node_at ops nums) i f → Wrote before (marked (operand_text f) mark) after

-- ---- the line of an answer, with the skeleton's cells l
unfoldable pub live_text : List ℕ → List ℕ → Result (Option Parts) Refusal → List ℕ → List ℕ
live_text ops nums (Ok None) l = line (live_word ∷ none_word ∷ absent ∷ [])
live_text ops nums (Err r) l = line (live_word ∷ decimal (number_of r) ∷ absent ∷ [])
live_text ops nums (Ok (Some p)) l = line (live_word ∷ decimal 0 ∷ entries_text ops nums p.skeleton l ∷ [])

abbrev pub LiveReady : List ℕ → List ℕ → Result (Option Parts) Refusal → List ℕ → Type 0
LiveReady ops nums (Ok None) l = 0 < 1
LiveReady ops nums (Err r) l = 0 < 1
LiveReady ops nums (Ok (Some p)) l = EntriesIn ops nums l p.skeleton

-- ---- the obligations of a split, three numbers each
pub record OwesReady (ops nums l : List ℕ) (n : ℕ) : Type 0 where
  pub room : 3 * n ≤ length l
  pub owe : (k : ℕ) → k < n → OweReady ops nums (get_or l (3 * k) 0) (get_or l (3 * k + 1) 0) (get_or l (3 * k + 2) 0)

unfoldable pub OwesStand : List ℕ → List ℕ → List Obligation → Type 0
OwesStand ops nums [] = Unit
OwesStand ops nums (o ∷ os) = OweStands ops nums o × OwesStand ops nums os

pub record OwesWrote (ops nums l : List ℕ) (n : ℕ) (before after : Tape) : Type 0 where
  pub is : (os : List Obligation) (rest : List ℕ) → length os ≡ n → l ≡ owed_cells os ++ rest → OwesStand ops nums os → Wrote before (joined (owe_lines os 0)) after
