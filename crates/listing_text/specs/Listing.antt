-- Document 01, "The listing": from a book's bytes to the bytes that cavewatch prints.
--     listing    rules, `plan` (document 02, order 1), reports, `end`; or the one `refused` line
use Rattle.std.specs.Prelude.{List, [], ◌++◌, ℕ, length, get_or}
use Rattle.std.proofs.Math.Option.{Option, none, some}
use Rattle.formula.specs.Tree.{leaf}
use Rattle.formula.specs.Formula.{Formula, var}
use Rattle.formula.specs.Table.{rule_of}
use Rattle.encoding.specs.Encoding.{monitors_base}
use Rattle.book.specs.Book.{Book, StepLine, count_in, Outcome, accepted, refused, read}
use Rattle.listing_line.specs.Plan.{plan_line}
use Rattle.listing_rules.specs.Rules.{Rule, encoding_for}
use Rattle.listing_head.specs.Head.{rules_text}
use Rattle.listing_reports.specs.Reports.{book_reports, kinds_of}
use Rattle.listing_reports.specs.Tail.{tail_text, refused_line}

-- with a count of states and slots of widths ws before the monitors
unfoldable pub rules_listing : ℕ → List ℕ → (ℕ → Rule) → ℕ → List StepLine → List ℕ
rules_listing count ws R n steps =
    rules_text (monitors_base count ws) R n ++ (plan_line (encoding_for count ws R n) ++ tail_text (kinds_of R) (book_reports R n steps))

-- rule r of a book. (Each rule of an accepted book is a formula, so the atom is never taken: `book_rules`, crate listing_size)
abbrev pub formula_or : Option Formula → Formula
formula_or none = leaf (var 0)
formula_or (some f) = f

unfoldable pub rule_at : Book → ℕ → Rule
rule_at b r = record {
  label = get_or b.labels r [];
  kind = get_or b.kinds r 0;
  first = get_or b.firsts r 0;
  formula = formula_or (rule_of b.ops b.nums (get_or b.firsts r 0) (get_or b.counts r 0));
}

abbrev pub listing_of : Outcome → List ℕ
listing_of (accepted b) = rules_listing (count_in b.states) b.widths (rule_at b) (length b.labels) b.steps
listing_of (refused n k) = refused_line n k

unfoldable pub listing : List ℕ → List ℕ
listing text = listing_of (read text)
