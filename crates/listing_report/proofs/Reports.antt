-- The `report`, `end` and `refused` lines, from what the code writes one behind the other.
use mathlib.Core.Path.{ap, ap₂, subst, ◌∙◌}
use mathlib.Core.List.{List, [], ◌∷◌, ◌++◌}
use Prim.Native.Nat.{ℕ}
use mir.Syntax.{w64}
use mir.Val.{SFits, to_z, of_z}
use mir.Facts.{to_z-of_z}
use lib.IntN.{ℤ}
use Rattle.number.specs.Digits.{decimal}
use Rattle.text.specs.Tape.{Tape, Wrote, signed}
use Rattle.text.proofs.Tapes.{as_text, then}
use Rattle.listing_line.specs.Line.{line, tabbed, marked}
use Rattle.listing_line.proofs.Fields.{more, done, group}
use Rattle.listing_reports.specs.Tail.{report_word, report_line, end_line, refused_line}
use Rattle.listing_report.specs.Written.{ReportWrote}

abbrev head_of : ℕ → ℕ → List (List ℕ)
head_of step rule = report_word ∷ decimal step ∷ decimal rule ∷ []

pub report_wrote :
    (a b c d : Tape) (step rule : ℕ) (culprit : ℤ) → SFits w64 culprit → Wrote a (tabbed (head_of step rule)) b
    → Wrote b (signed (to_z w64 (of_z w64 culprit))) c → Wrote c (10 ∷ []) d → ReportWrote step rule culprit a d
unfolding report_line
report_wrote a b c d step rule culprit f p q' r = record {
  is = λ x u v w.
      let q : Wrote b (signed culprit) c = subst (λ (z : ℤ). Wrote b (signed z) c) (to_z-of_z f) q' in
      as_text a d (ap₂ (λ (i j : ℕ). line (head_of i j ++ signed x.culprit ∷ [])) u v ∙ ap (λ (z : ℤ). line (head_of step rule ++ signed z ∷ [])) w)
      (group (head_of step rule) (signed culprit) [] p (done (signed culprit) (then q r)));
}

pub end_wrote : (a b c : Tape) (n : ℕ) → Wrote a (101 ∷ 110 ∷ 100 ∷ 9 ∷ []) b → Wrote b (marked (decimal n) 10) c → Wrote a (end_line n) c
unfolding end_line
end_wrote a b c n p q = more (101 ∷ 110 ∷ 100 ∷ []) (decimal n) [] p (done (decimal n) q)

pub refused_wrote :
    (a b c d : Tape) (n k : ℕ) → Wrote a (114 ∷ 101 ∷ 102 ∷ 117 ∷ 115 ∷ 101 ∷ 100 ∷ 9 ∷ []) b → Wrote b (marked (decimal n) 9) c
    → Wrote c (marked (decimal k) 10) d → Wrote a (refused_line n k) d
unfolding refused_line
refused_wrote a b c d n k p q r =
    more (114 ∷ 101 ∷ 102 ∷ 117 ∷ 115 ∷ 101 ∷ 100 ∷ []) (decimal n) (decimal k ∷ []) p (more (decimal n) (decimal k) [] q (done (decimal k) r))
