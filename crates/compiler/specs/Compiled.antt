-- What the compiler answers and leaves in the lent output.
--     CompiledAt     the walk at one place
--     compile_call    the whole call: document 01's result, the count of nodes, and the output afterwards
use Rattle.std.specs.Prelude.{Bool, true, false, ◌&&◌, List, [], ◌∷◌, ◌≡◌, ℕ, ◌+◌, ◌*◌, ◌≤◌, leb, length, get_or}
use Rattle.std.proofs.Math.Option.{Option, none, some}
use Rattle.std.proofs.lemmas.List.Edits.{sets}
use Rattle.terms.specs.Limits.{node_cells, row_cells}
use Rattle.terms.specs.Ops.{implies_op}
use Rattle.result.specs.Result.{Result, given, refused}
use Rattle.result.specs.Refusal.{number_of, told}
use Rattle.result.specs.declared.Refusal.{Refusal}
use Rattle.formula.specs.Tree.{size}
use Rattle.formula.specs.Spells.{Spells}
use Rattle.formula.specs.Formula.{Formula}
use Rattle.formula.specs.Table.{node_at, Placed, rule_of, roomy}
use Rattle.formula.specs.Pure.{pure, unless}
use Rattle.formula.specs.Signal.{Purely}
use Rattle.std.specs.Prelude.{Some, Ok, Err}
use Rattle.std.specs.Prelude.{Result as Returned}
use Rattle.compiler.specs.declared.Scope.{Scope}
use Rattle.monitor.specs.Range.{Shiftable}
use Rattle.monitor.specs.declared.node.MonNode.{MonNode}
use Rattle.monitor.specs.declared.node.NodeTape.{NodeTape}
use Rattle.monitor.specs.Mon.{Check, Mon, check, count, node_of, rows}
use Rattle.monitor.specs.Compile.{faults, node, rule_faults, rule_node}

-- what the walk asks of its place, its range and the tape
pub record CompileReady (ops nums : List ℕ) (i : ℕ) (s : Scope) (tape : NodeTape) : Type 0 where
  pub place : Placed ops nums i
  pub room : row_cells * (tape.at + size place.formula) ≤ length tape.out.now
  pub shift : Shiftable s.range

-- an implication stands at i, whose left part is pure and ends at j
pub record Implied (ops nums : List ℕ) (i j : ℕ) (s : Scope) (tape : NodeTape) : Type 0 where
  pub ready : CompileReady ops nums i s tape
  pub word : get_or ops i 0 ≡ implies_op
  pub left : Purely ops nums (i + 1) (Some j)

-- with no refusal: where the formula ends, and the nodes' rows laid on the tape. Else the first refusal
abbrev pub LaidAt : List Refusal → Mon → ℕ → NodeTape → NodeTape → Returned ℕ Refusal → Type 0
LaidAt [] m e old new r = (r ≡ Ok e) × (new.at ≡ old.at + count m) × (new.out.now ≡ sets old.out.now (row_cells * old.at) (rows m))
LaidAt (n ∷ ns) m e old new r = r ≡ Err n

pub record CompiledAt (ops nums : List ℕ) (i : ℕ) (s : Scope) (old new : NodeTape) (r : Returned ℕ Refusal) : Type 0 where
  pub is : (f : Formula) → Spells (node_at ops nums) i f → LaidAt (faults f s.temporal) (node f i s.range s.temporal) (i + size f) old new r

-- one check laid, where the formula at p, with which the check's own ends, is pure; else refusal n
pub record CheckLaid (ops nums : List ℕ) (p : ℕ) (n : Refusal) (old : NodeTape) (row : MonNode) (new : NodeTape) (r : Returned ℕ Refusal) : Type 0 where
  pub is : (c : Check) → row ≡ node_of c → (g : Formula) → Spells (node_at ops nums) p g
      → LaidAt (unless (pure g) n) (check c) (p + size g) old new r

-- ---- the whole call
pub record Call : Type 0 where
  pub answer : Result ℕ
  pub out : List ℕ

abbrev pub refuse : ℕ → List ℕ → Call
refuse n out = record { answer = refused n; out = out }

-- the first refusal of the walk, or the nodes from the output's start on; what lies behind them stays
abbrev pub first_or : List Refusal → Mon → List ℕ → Call
first_or [] m out = record { answer = given (count m); out = sets out 0 (rows m) }
first_or (n ∷ ns) m out = refuse (number_of n) out

abbrev pub compile_formula : Option Formula → ℕ → List ℕ → Call
compile_formula none first out = refuse 2 out
compile_formula (some f) first out = first_or (rule_faults f) (rule_node f first) out

abbrev pub or_short : Bool → List ℕ → Call → Call
or_short true out c = c
or_short false out c = refuse 1 out

abbrev pub rule_call : List ℕ → List ℕ → ℕ → ℕ → List ℕ → Call
rule_call ops nums first count out = compile_formula (rule_of ops nums first count) first out

-- document 01's answer to compiling the rule at `first` of `count` nodes into `out`, for whatever is lent
unfoldable pub compile_call : List ℕ → List ℕ → ℕ → ℕ → List ℕ → Call
compile_call ops nums first count out =
    or_short (roomy ops nums && leb node_cells (length out)) out (rule_call ops nums first count out)

-- the answer and the output afterwards are those of the call
pub record Answers (c : Call) (r : Returned ℕ Refusal) (out : List ℕ) : Type 0 where
  pub answers : told r ≡ c.answer
  pub leaves : out ≡ c.out
