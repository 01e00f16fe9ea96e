-- The listing of a text without opening lines, beside what document 01 alone lists: the same lines, with `plan` put in before the reports.
--     lists_before    document 01's listing: first bits from bit 0, and no `plan`
--     PlanPutIn      one text is another with a line put in
use Rattle.std.specs.Prelude.{◌≡◌, List, [], ◌++◌, ℕ, length}
use Rattle.book.specs.Book.{Book, Outcome, accepted, refused}
use Rattle.listing_line.specs.Plan.{plan_line}
use Rattle.listing_rules.specs.Rules.{encoding_for}
use Rattle.listing_head.specs.Head.{rules_text}
use Rattle.listing_reports.specs.Reports.{book_reports, kinds_of}
use Rattle.listing_reports.specs.Tail.{tail_text, refused_line}
use Rattle.listing_text.specs.Listing.{rule_at}

-- the rules' lines; the reports and `end`
abbrev pub head_before : Book → List ℕ
head_before b = rules_text 0 (rule_at b) (length b.labels)

abbrev pub tail_before : Book → List ℕ
tail_before b = tail_text (kinds_of (rule_at b)) (book_reports (rule_at b) (length b.labels) b.steps)

abbrev pub lists_before : Outcome → List ℕ
lists_before (accepted b) = head_before b ++ tail_before b
lists_before (refused n k) = refused_line n k

pub record PlanPutIn (plan head tail old new : List ℕ) : Type 0 where
  pub was : old ≡ head ++ tail
  pub is : new ≡ head ++ (plan ++ tail)

-- a book that is accepted has its `plan` line put in, with no state and no slot; one that is refused lists as it did
abbrev pub ListsAsBefore : Outcome → List ℕ → Type 0
ListsAsBefore (accepted b) l =
    PlanPutIn (plan_line (encoding_for 0 [] (rule_at b) (length b.labels))) (head_before b) (tail_before b) (lists_before (accepted b)) l
ListsAsBefore (refused n k) l = l ≡ lists_before (refused n k)
