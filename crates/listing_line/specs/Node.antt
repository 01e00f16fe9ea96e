-- Document 01, "The listing": the `node` lines of a compiled rule: id, form (C range, D delayed, B obligation, A and, O or), bound, range start,
-- range end (`*` open), first signal, second signal. Absent is `-`; joined nodes have it in the five last fields. For example
--     node 0 B 3 0 * v0 v1
use Rattle.std.specs.Prelude.{◌≡◌, List, [], ◌∷◌, ◌++◌, ℕ, ◌+◌}
use Rattle.formula.specs.Tree.{leaf_of, one_of, two_of, unknown}
use Rattle.formula.specs.Spells.{Spells}
use Rattle.formula.specs.Table.{node_at}
use Rattle.monitor.specs.declared.range.End.{End}
use Rattle.monitor.specs.declared.range.End.TheVariants.{Step, Open}
use Rattle.monitor.specs.declared.node.SignalExpr.{SignalExpr}
use Rattle.monitor.specs.declared.node.SignalExpr.TheVariants.{True, At}
use Rattle.monitor.specs.declared.node.MonNode.{MonNode}
use Rattle.monitor.specs.declared.node.MonNode.TheVariants.{RangeCheck, DelayedCheck, Obligation, And as AndNode, Or as OrNode}
use Rattle.monitor.specs.Mon.{Signal, always_true, at, Check, range_check, delayed_check, obligation, Mon, check, And, Or, count, expr_of, node_of}
use Rattle.monitor.specs.Table.{Cell, join_and, join_or}
use Rattle.number.specs.Digits.{decimal}
use Rattle.text.specs.Tape.{Tape, Wrote}
use Rattle.spelling.specs.Spelling.{signal_text}
use Rattle.spelling.specs.Scan.{Pure}
use Rattle.listing_line.specs.Line.{line, marked, absent}

-- `node`
abbrev pub node_word : List ℕ
node_word = 110 ∷ 111 ∷ 100 ∷ 101 ∷ []

abbrev pub end_text : End → List ℕ
end_text (Step t) = decimal t
end_text Open = 42 ∷ []

-- the fields behind the id
abbrev pub check_fields : Check → List (List ℕ)
check_fields (range_check s r) =
    (67 ∷ []) ∷ absent ∷ decimal r.from ∷ end_text r.to ∷ signal_text s ∷ absent ∷ []
check_fields (delayed_check s t r) =
    (68 ∷ []) ∷ absent ∷ decimal r.from ∷ end_text r.to ∷ signal_text s ∷ signal_text t ∷ []
check_fields (obligation b s t r) =
    (66 ∷ []) ∷ decimal b ∷ decimal r.from ∷ end_text r.to ∷ signal_text s ∷ signal_text t ∷ []

abbrev pub join_fields : ℕ → List (List ℕ)
join_fields form = (form ∷ []) ∷ absent ∷ absent ∷ absent ∷ absent ∷ absent ∷ []

abbrev pub line_of : ℕ → List (List ℕ) → List ℕ
line_of id fields = line (node_word ∷ decimal id ∷ fields)

-- the lines of a tree's nodes in prefix order, the first of them number k
unfoldable pub node_lines : Mon → ℕ → List (List ℕ)
node_lines (check c) k = line_of k (check_fields c) ∷ []
node_lines (And m n) k = line_of k (join_fields 65) ∷ node_lines m (k + 1) ++ node_lines n (k + 1 + count m)
node_lines (Or m n) k = line_of k (join_fields 79) ∷ node_lines m (k + 1) ++ node_lines n (k + 1 + count m)

-- the same for a cell of a node table
abbrev pub cell_fields : Cell → List (List ℕ)
cell_fields (leaf_of c) = check_fields c
cell_fields (one_of n) = []
cell_fields (two_of join_and) = join_fields 65
cell_fields (two_of join_or) = join_fields 79
cell_fields unknown = []

unfoldable pub cell_line : ℕ → Cell → List ℕ
cell_line id c = line_of id (cell_fields c)

-- ---- what writing a line asks: the signals that a node names are pure formulas of the table
abbrev pub SignalReady : List ℕ → List ℕ → SignalExpr → Type 0
SignalReady ops nums True = Unit
SignalReady ops nums (At p) = Pure ops nums p

abbrev pub NodeReady : List ℕ → List ℕ → MonNode → Type 0
NodeReady ops nums (RangeCheck s r) = SignalReady ops nums s × SignalReady ops nums s
NodeReady ops nums (DelayedCheck s t r) = SignalReady ops nums s × SignalReady ops nums t
NodeReady ops nums (Obligation b s t r) = SignalReady ops nums s × SignalReady ops nums t
NodeReady ops nums AndNode = SignalReady ops nums True × SignalReady ops nums True
NodeReady ops nums OrNode = SignalReady ops nums True × SignalReady ops nums True

-- ---- what it leaves. The signals of a check stand in the formula table
abbrev pub SignalStands : List ℕ → List ℕ → Signal → Type 0
SignalStands ops nums always_true = Unit
SignalStands ops nums (at p f) = Spells (node_at ops nums) p f

abbrev pub CheckStands : List ℕ → List ℕ → Check → Type 0
CheckStands ops nums (range_check s r) = SignalStands ops nums s × SignalStands ops nums s
CheckStands ops nums (delayed_check s t r) = SignalStands ops nums s × SignalStands ops nums t
CheckStands ops nums (obligation b s t r) = SignalStands ops nums s × SignalStands ops nums t

-- the text of the signal that e names, and a mark
pub record ExprWrote (ops nums : List ℕ) (e : SignalExpr) (mark : ℕ) (before after : Tape) : Type 0 where
  pub is : (s : Signal) → e ≡ expr_of s → SignalStands ops nums s → Wrote before (marked (signal_text s) mark) after

-- the line of a node with number id
pub record NodeWrote (ops nums : List ℕ) (id : ℕ) (n : MonNode) (before after : Tape) : Type 0 where
  pub of_check : (c : Check) → n ≡ node_of c → CheckStands ops nums c → Wrote before (line_of id (check_fields c)) after
  pub of_and : n ≡ AndNode → Wrote before (line_of id (join_fields 65)) after
  pub of_or : n ≡ OrNode → Wrote before (line_of id (join_fields 79)) after
