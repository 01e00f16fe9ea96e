-- What the parts of a listing ask and leave.
use Rattle.std.specs.Prelude.{List, ℕ, ◌≤◌, length}
use Rattle.terms.specs.Limits.{book_bytes, book_cells, book_rules}
use Rattle.reader.specs.Steps.{steps_from}
use Rattle.reader.specs.BookTables.{BookTables}
use Rattle.text.specs.Tape.{Tape, Wrote}
use Rattle.listing_rules.specs.Rules.{Rule}
use Rattle.listing_rules.specs.Tabled.{Tabled}
use Rattle.listing_head.specs.Head.{rules_text}
use Rattle.listing_reports.specs.Reports.{book_reports, kinds_of}
use Rattle.listing_reports.specs.Tail.{tail_text}
use Rattle.listing.specs.LentLists.{HoldsRules}

-- the rule list and the formula table hold n rules
pub record KnownBook (t : BookTables) (n : ℕ) : Type 0 where
  pub rules : ℕ → Rule
  pub is : HoldsRules t rules n

-- room for the compiled rules
pub record Roomed (nodes nfirsts ncounts refusals : List ℕ) : Type 0 where
  pub in_nodes : book_cells ≤ length nodes
  pub in_nfirsts : book_rules ≤ length nfirsts
  pub in_ncounts : book_rules ≤ length ncounts
  pub in_refusals : book_rules ≤ length refusals

-- the rules' lines are written, the monitors beginning at bit `base`, and the rules are compiled
pub record HeadListed (t : BookTables) (n base : ℕ) (nodes nfirsts ncounts refusals : List ℕ) (before after : Tape) : Type 0 where
  pub text : (R : ℕ → Rule) → HoldsRules t R n → Wrote before (rules_text base R n) after
  pub tabled : (R : ℕ → Rule) → HoldsRules t R n → Tabled t.ops t.nums t.firsts t.counts nodes nfirsts ncounts refusals R n

-- the compiled rules, and a text that is not too long for a book
pub record Compiled (text ops nums firsts counts nodes nfirsts ncounts refusals : List ℕ) (n : ℕ) : Type 0 where
  pub short : length text ≤ book_bytes
  pub rules : ℕ → Rule
  pub is : Tabled ops nums firsts counts nodes nfirsts ncounts refusals rules n

-- the lines of the steps from a place of the text on are written
pub record TailListed (text : List ℕ) (from : ℕ) (ops nums firsts counts nodes nfirsts ncounts refusals : List ℕ) (n : ℕ) (before after : Tape) : Type 0 where
  pub is :
      (R : ℕ → Rule) → Tabled ops nums firsts counts nodes nfirsts ncounts refusals R n
      → Wrote before (tail_text (kinds_of R) (book_reports R n (steps_from text from))) after
