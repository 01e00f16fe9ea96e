-- How lent tables hold a book's rules.
--     Held      the rule list and the formula table hold the rules
--     Tabled    besides, one node table holds the compiled rules one behind the other
--     Placed    besides, first bits and bits stand in their lists, the monitors beginning at bit `base`
use Rattle.std.specs.Prelude.{true, List, ◌≡◌, ℕ, ◌+◌, ◌≤◌, ◌<◌, length, get_or}
use Rattle.std.proofs.Math.Option.{some}
use Rattle.terms.specs.Limits.{book_nodes, book_rules}
use Rattle.formula.specs.Table.{rule_of}
use Rattle.monitor.specs.Table.{compiled_of}
use Rattle.listing_rules.specs.Rules.{Rule, compiles, refusal, mon, bits_of, first_bit_of}

-- the first n rules of R stand in the formula table, one behind the other, each with its kind, its first place and its count
pub record Held (ops nums kinds firsts counts : List ℕ) (R : ℕ → Rule) (n : ℕ) : Type 0 where
  pub few : n ≤ book_rules
  pub ops_long : length ops ≡ book_nodes
  pub nums_long : length nums ≡ book_nodes
  pub in_kinds : book_rules ≤ length kinds
  pub in_firsts : book_rules ≤ length firsts
  pub in_counts : book_rules ≤ length counts
  pub kind : (r : ℕ) → r < n → (R r).kind ≡ get_or kinds r 0
  pub first : (r : ℕ) → r < n → (R r).first ≡ get_or firsts r 0
  pub formula : (r : ℕ) → r < n → rule_of ops nums (get_or firsts r 0) (get_or counts r 0) ≡ some (R r).formula
  pub apart : (r : ℕ) → r + 1 < n → get_or firsts r 0 + get_or counts r 0 ≤ get_or firsts (r + 1) 0

-- the refusals of the first n rules, and the rows of those that compile: at most 1,024, no two rules sharing one
pub record Tabled (ops nums firsts counts nodes nfirsts ncounts refusals : List ℕ) (R : ℕ → Rule) (n : ℕ) : Type 0 where
  pub few : n ≤ book_rules
  pub in_firsts : book_rules ≤ length firsts
  pub in_counts : book_rules ≤ length counts
  pub in_nfirsts : book_rules ≤ length nfirsts
  pub in_ncounts : book_rules ≤ length ncounts
  pub in_refusals : book_rules ≤ length refusals
  pub refused : (r : ℕ) → r < n → get_or refusals r 0 ≡ refusal (R r)
  pub compiled : (r : ℕ) → r < n → compiles (R r) ≡ true → compiled_of ops nums (get_or firsts r 0) (get_or counts r 0) nodes (get_or nfirsts r 0) (get_or ncounts r 0) ≡ some (mon (R r))
  pub room : (r : ℕ) → r < n → compiles (R r) ≡ true → get_or nfirsts r 0 + get_or ncounts r 0 ≤ book_nodes
  pub apart : (q r : ℕ) → q < r → r < n → compiles (R q) ≡ true → compiles (R r) ≡ true → get_or nfirsts q 0 + get_or ncounts q 0 ≤ get_or nfirsts r 0

-- first bits and bits of the rules that compile
pub record Placed (base : ℕ) (R : ℕ → Rule) (n : ℕ) (starts bits : List ℕ) : Type 0 where
  pub in_starts : book_rules ≤ length starts
  pub in_bits : book_rules ≤ length bits
  pub start : (r : ℕ) → r < n → compiles (R r) ≡ true → get_or starts r 0 ≡ first_bit_of base R n r
  pub bit : (r : ℕ) → r < n → compiles (R r) ≡ true → get_or bits r 0 ≡ bits_of (R r)
