-- The lines of one rule: `rule`, then `node` where it compiles, then `live`, then `owe`.
use Rattle.std.specs.Prelude.{Bool, true, List, ◌++◌, ◌≡◌, ℕ, ◌≤◌, length, Option, Result, Err}
use Rattle.std.proofs.Math.Option.{some}
use Rattle.terms.specs.Limits.{book_nodes, owed_room, skeleton_room}
use Rattle.terms.specs.Choice.{pick}
use Rattle.formula.specs.Formula.{Formula}
use Rattle.formula.specs.Table.{rule_of}
use Rattle.monitor.specs.Table.{compiled_of}
use Rattle.liveness.specs.Split.{Answer, split_of}
use Rattle.result.specs.declared.Refusal.{Refusal}
use Rattle.split.specs.declared.parts.Parts.{Parts}
use Rattle.split.specs.Held.{outcome, held}
use Rattle.text.specs.Tape.{Tape, Wrote, joined}
use Rattle.listing_line.specs.declared.rule.Compiled.{Compiled}
use Rattle.listing_line.specs.Rule.{compiled_as}
use Rattle.listing_live.specs.Live.{live_line, owe_lines}
use Rattle.listing_rules.specs.Rules.{Rule, compiles, refusal, mon}
use Rattle.listing_head.specs.Head.{owes_of, nodes_text, section_text}

-- ---- the split of a rule
-- a rule's formula stands in a table with room
pub record Split (ops nums : List ℕ) (first count : ℕ) : Type 0 where
  pub in_ops : book_nodes ≤ length ops
  pub in_nums : book_nodes ≤ length nums
  pub formula : Formula
  pub is : rule_of ops nums first count ≡ some formula

abbrev pub split_text : Answer → List ℕ
split_text x = live_line x ++ joined (owe_lines (owes_of x) 0)

pub record SplitWrote (ops nums : List ℕ) (first count : ℕ) (assumed : Bool) (before after : Tape) : Type 0 where
  pub is : (f : Formula) → rule_of ops nums first count ≡ some f → Wrote before (split_text (split_of assumed f first)) after

-- the `owe` lines of an answer whose obligations stand in `owed`
pub record Owing (ops nums : List ℕ) (first count : ℕ) (assumed : Bool) (r : Result (Option Parts) Refusal) (owed : List ℕ) : Type 0 where
  pub split : Split ops nums first count
  pub skeleton : List ℕ
  pub s : List ℕ
  pub o : List ℕ
  pub wide : skeleton_room ≤ length s
  pub room : owed_room ≤ length o
  pub is : outcome r skeleton owed ≡ held (split_of assumed split.formula first) s o

pub record OwingWrote (ops nums : List ℕ) (first count : ℕ) (assumed : Bool) (before after : Tape) : Type 0 where
  pub is : (f : Formula) → rule_of ops nums first count ≡ some f → Wrote before (joined (owe_lines (owes_of (split_of assumed f first)) 0)) after

-- ---- the whole rule
-- the tables hold rule q, and c is what compiling gave
pub record Listable (ops nums nodes label : List ℕ) (kind first count nfirst ncount : ℕ) (c : Result Compiled ℕ) (q : Rule) : Type 0 where
  pub in_ops : book_nodes ≤ length ops
  pub in_nums : book_nodes ≤ length nums
  pub label_is : q.label ≡ label
  pub kind_is : q.kind ≡ kind
  pub first_is : q.first ≡ first
  pub formula_is : rule_of ops nums first count ≡ some q.formula
  pub compiled : compiles q ≡ true → compiled_of ops nums first count nodes nfirst ncount ≡ some (mon q)
  pub first_bit : ℕ
  pub bits : ℕ
  pub alike : Option ℕ
  pub gave : c ≡ pick (compiles q) (compiled_as first_bit bits alike) (Err (refusal q))

pub record Readied (ops nums nodes label : List ℕ) (kind first count nfirst ncount : ℕ) (c : Result Compiled ℕ) : Type 0 where
  pub rule : Rule
  pub is : Listable ops nums nodes label kind first count nfirst ncount c rule

pub record NodesPut (ops nums nodes label : List ℕ) (kind first count nfirst ncount : ℕ) (c : Result Compiled ℕ) (before after : Tape) : Type 0 where
  pub is : (q : Rule) → Listable ops nums nodes label kind first count nfirst ncount c q → Wrote before (nodes_text q) after

pub record RulePut (ops nums nodes label : List ℕ) (number kind first count nfirst ncount : ℕ) (c : Result Compiled ℕ) (before after : Tape) : Type 0 where
  pub is : (q : Rule) → Listable ops nums nodes label kind first count nfirst ncount c q → Wrote before (section_text number q c) after
