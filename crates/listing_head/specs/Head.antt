-- Document 01, "The listing": the lines of the rules.
--     rule_text     a rule's lines: `rule`, `node`, `live`, `owe`
--     rules_text    those of all rules, in book order
use Rattle.std.proofs.Math.Bool as bool
use Rattle.std.specs.Prelude.{List, [], ◌++◌, ℕ, zero, suc, Result}
use Rattle.terms.specs.Choice.{pick}
use Rattle.liveness.specs.Split.{Obligation, Answer, none as no_split, parts, refused as split-refused, split_of}
use Rattle.text.specs.Tape.{joined}
use Rattle.listing_line.specs.declared.rule.Compiled.{Compiled}
use Rattle.listing_line.specs.Node.{node_lines}
use Rattle.listing_line.specs.Rule.{rule_line}
use Rattle.listing_live.specs.Live.{live_line, owe_lines}
use Rattle.listing_rules.specs.Rules.{Rule, property, compiles, mon, compiling_of}

-- the texts of 0 to n - 1, one behind the other
unfoldable pub upto : (ℕ → List ℕ) → ℕ → List ℕ
upto f zero = []
upto f (suc n) = upto f n ++ f n

-- ---- a rule's lines
abbrev pub split_answer : Rule → Answer
split_answer q = split_of (bool.not (property q)) q.formula q.first

abbrev pub owes_of : Answer → List Obligation
owes_of no_split = []
owes_of (parts sk os) = os
owes_of (split-refused n) = []

-- a rule that does not compile has no `node` lines
unfoldable pub nodes_text : Rule → List ℕ
nodes_text q = pick (compiles q) (joined (node_lines (mon q) 0)) []

unfoldable pub live_text : Rule → List ℕ
live_text q = live_line (split_answer q)

unfoldable pub owes_text : Rule → List ℕ
owes_text q = joined (owe_lines (owes_of (split_answer q)) 0)

-- a rule with its number and what compiling gave
abbrev pub section_text : ℕ → Rule → Result Compiled ℕ → List ℕ
section_text r q c = rule_line r q.label q.kind c ++ (nodes_text q ++ (live_text q ++ owes_text q))

-- rule r of n, the monitors beginning at bit `base`
unfoldable pub rule_text : ℕ → (ℕ → Rule) → ℕ → ℕ → List ℕ
rule_text base R n r = section_text r (R r) (compiling_of base R n r)

unfoldable pub rules_text : ℕ → (ℕ → Rule) → ℕ → List ℕ
rules_text base R n = upto (rule_text base R n) n
