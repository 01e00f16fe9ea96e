-- What compiling a book's rules, one behind the other, leaves in the lent tables.
--     Made       one rule's answer, and its rows from row `at` on
--     Entered    besides, its first row, its count and its refusal in the lists
--     FilledRules     all rules
use Rattle.std.specs.Prelude.{List, [], ◌∷◌, ◌≡◌, ℕ, ◌+◌, ◌*◌, ◌≤◌, ◌<◌, length, get_or, set}
use Rattle.std.proofs.Math.Option.{some}
use Rattle.std.proofs.lemmas.List.Edits.{sets}
use Rattle.terms.specs.Limits.{book_cells, book_nodes, book_rules}
use Rattle.result.specs.Result.{Result, given, refused}
use Rattle.formula.specs.Table.{rule_of, IsRule}
use Rattle.monitor.specs.Mon.{Mon, count, rows}
use Rattle.monitor.specs.Compile.{rule_faults}
use Rattle.std.specs.Prelude.{Result as Returned}
use Rattle.result.specs.Refusal.{number_of, told}
use Rattle.result.specs.declared.Refusal.{Refusal}
use Rattle.listing_rules.specs.Rules.{Rule, refusal, mon}
use Rattle.listing_rules.specs.Tabled.{Held, Tabled}

-- by the refusals that apply and the rule's node: the result, the rows and their count
abbrev pub answer_by : List Refusal → Mon → Result ℕ
answer_by [] m = given (count m)
answer_by (n ∷ ns) m = refused (number_of n)

abbrev pub rows_by : List Refusal → Mon → List ℕ
rows_by [] m = rows m
rows_by (n ∷ ns) m = []

abbrev pub count_by : List Refusal → Mon → ℕ
count_by [] m = count m
count_by (n ∷ ns) m = 0

abbrev pub answer_of : Rule → Result ℕ
answer_of q = answer_by (rule_faults q.formula) (mon q)

abbrev pub rows_of : Rule → List ℕ
rows_of q = rows_by (rule_faults q.formula) (mon q)

abbrev pub count_of : Rule → ℕ
count_of q = count_by (rule_faults q.formula) (mon q)

-- q is the rule of `count` places at `first` of the formula table
pub record RuleStands (ops nums : List ℕ) (first count : ℕ) (q : Rule) : Type 0 where
  pub formula : rule_of ops nums first count ≡ some q.formula
  pub place : q.first ≡ first

-- ---- one rule
pub record Made (ops nums : List ℕ) (first count at : ℕ) (nodes nodes' : List ℕ) (r : Returned ℕ Refusal) : Type 0 where
  pub answers : (q : Rule) → RuleStands ops nums first count q → told r ≡ answer_of q
  pub leaves : (q : Rule) → RuleStands ops nums first count q → nodes' ≡ sets nodes (7 * at) (rows_of q)

-- what entering rule r asks: it is a rule, its rows have room, and it is in the lists
pub record Enterable (ops nums firsts counts nodes nfirsts ncounts refusals : List ℕ) (r at : ℕ) : Type 0 where
  pub ops_long : length ops ≡ book_nodes
  pub nums_long : length nums ≡ book_nodes
  pub rule : IsRule ops nums (get_or firsts r 0) (get_or counts r 0)
  pub room : at ≤ book_nodes
  pub in_nodes : book_cells ≤ length nodes
  pub in_firsts : r < length firsts
  pub in_counts : r < length counts
  pub in_nfirsts : r < length nfirsts
  pub in_ncounts : r < length ncounts
  pub in_refusals : r < length refusals

pub record Entered (q : Rule) (r at at' : ℕ) (nodes nodes' nfirsts nfirsts' ncounts ncounts' refusals refusals' : List ℕ) : Type 0 where
  pub ends : at' ≡ at + count_of q
  pub rows_are : nodes' ≡ sets nodes (7 * at) (rows_of q)
  pub first_is : nfirsts' ≡ set nfirsts r at
  pub count_is : ncounts' ≡ set ncounts r (count_of q)
  pub refusal_is : refusals' ≡ set refusals r (refusal q)

pub record Entering (ops nums : List ℕ) (first count r at at' : ℕ) (nodes nodes' nfirsts nfirsts' ncounts ncounts' refusals refusals' : List ℕ) : Type 0 where
  pub is : (q : Rule) → RuleStands ops nums first count q → Entered q r at at' nodes nodes' nfirsts nfirsts' ncounts ncounts' refusals refusals'

-- ---- all rules
-- some rules stand in the formula table, and there is room for their numbers and rows: 1,024, and 256 past the last start
pub record Fillable (ops nums kinds firsts counts nodes nfirsts ncounts refusals : List ℕ) (n : ℕ) : Type 0 where
  pub rules : ℕ → Rule
  pub held : Held ops nums kinds firsts counts rules n
  pub in_nodes : book_cells ≤ length nodes
  pub in_nfirsts : book_rules ≤ length nfirsts
  pub in_ncounts : book_rules ≤ length ncounts
  pub in_refusals : book_rules ≤ length refusals

pub record FilledRules (ops nums kinds firsts counts nodes nfirsts ncounts refusals : List ℕ) (n : ℕ) : Type 0 where
  pub is : (R : ℕ → Rule) → Held ops nums kinds firsts counts R n → Tabled ops nums firsts counts nodes nfirsts ncounts refusals R n
