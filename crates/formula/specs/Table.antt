-- A formula table: an operation and a number for each place. A rule is a part of it, a first place and a count.
--     node_at    the node at a place
--     rule_of    the formula that a rule's part is, if it is one within the limits of document 01
-- That `rule_of` gives nothing is refusal 2 for a formula table: a part outside the table's first 1,024 places, an unknown operation, a part
-- that is no prefix tree covering exactly its nodes, an atom above 63, more than 256 nodes or depth 64.
use Rattle.std.specs.Prelude.{◌≡◌, Bool, true, false, ◌&&◌, List, ℕ, ◌+◌, ◌≤◌, leb, length, get_or}
use Rattle.std.proofs.Math.Option.{Option, none, some}
use Rattle.terms.specs.Choice.{pick}
use Rattle.terms.specs.Limits.{book_nodes, deepest, rule_nodes}
use Rattle.formula.specs.Tree.{tree_of, size, depth, all}
use Rattle.formula.specs.Spells.{run, Spells}
use Rattle.formula.specs.Formula.{Atom, Formula, Node, node, signal}

unfoldable pub node_at : List ℕ → List ℕ → ℕ → Node
node_at ops nums i = node (get_or ops i 0) (get_or nums i 0)

-- an atom's signal is a bit of a word of truths: at most 63
abbrev pub in_word : Atom → Bool
in_word a = leb (signal a) 63

-- what passes a test; what does not is nothing
abbrev pub keep {ℓ} : {A : Type ℓ} → Bool → Option A → Option A
keep b o = pick b o none

-- within the limits of one formula
abbrev pub limited : Option Formula → Option Formula
limited none = none
limited (some f) = keep (leb (depth f) deepest && all in_word f) (some f)

-- the part has at most 256 places, all of them among a table's first 1,024, however much is lent
abbrev pub in_table : List ℕ → List ℕ → ℕ → ℕ → Bool
in_table ops nums first count =
    leb count rule_nodes
    && (leb (first + count) book_nodes && (leb (first + count) (length ops) && leb (first + count) (length nums)))

unfoldable pub rule_of : List ℕ → List ℕ → ℕ → ℕ → Option Formula
rule_of ops nums first count =
    keep (in_table ops nums first count) (limited (tree_of (run (node_at ops nums) first count)))

-- the same as a statement: the part is in the table and spells f, which keeps the limits.
-- `rule_inv` and `rule_of_lem` (proofs/Rules.antt): `rule_of` gives f exactly where this holds
pub record Rule (ops nums : List ℕ) (first count : ℕ) (f : Formula) : Type 0 where
  pub few : count ≤ rule_nodes
  pub table_holds : first + count ≤ book_nodes
  pub in_ops : first + count ≤ length ops
  pub in_nums : first + count ≤ length nums
  pub spells : Spells (node_at ops nums) first f
  pub covers : size f ≡ count
  pub shallow : depth f ≤ deepest
  pub word_fits : all in_word f ≡ true

abbrev pub is_some {ℓ} : {A : Type ℓ} → Option A → Bool
is_some none = false
is_some (some a) = true

-- a rule's part that is a formula within the limits
pub record IsRule (ops nums : List ℕ) (first count : ℕ) : Type 0 where
  pub formula : Formula
  pub is : rule_of ops nums first count ≡ some formula

-- a formula stands at i of the table, all of it in the table: what a walk over the table asks of its place
pub record Placed (ops nums : List ℕ) (i : ℕ) : Type 0 where
  pub formula : Formula
  pub spells : Spells (node_at ops nums) i formula
  pub in_ops : i + size formula ≤ length ops
  pub in_nums : i + size formula ≤ length nums

-- refusal 1: a lent table has room for 1,024 formula nodes
abbrev pub roomy : List ℕ → List ℕ → Bool
roomy ops nums = leb book_nodes (length ops) && leb book_nodes (length nums)
