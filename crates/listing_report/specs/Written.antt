-- The line of a report is written from its step, its rule and its culprit.
use Rattle.std.specs.Prelude.{◌≡◌, ℕ, ℤ}
use Rattle.text.specs.Tape.{Tape, Wrote}
use Rattle.listing_reports.specs.Reports.{Report}
use Rattle.listing_reports.specs.Tail.{report_line}

pub record ReportWrote (step rule : ℕ) (culprit : ℤ) (before after : Tape) : Type 0 where
  pub is : (p : Report) → p.at.number ≡ step → p.rule ≡ rule → p.culprit ≡ culprit → Wrote before (report_line p) after
