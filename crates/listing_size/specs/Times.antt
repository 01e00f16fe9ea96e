-- How often a list of reports names a rule: at most once, by `each_once` (proofs/ReportOnce.antt).
use Rattle.std.specs.Prelude.{List, [], ◌∷◌, ℕ, ◌+◌, eqb}
use Rattle.terms.specs.Choice.{pick}
use Rattle.listing_reports.specs.Reports.{Report}

abbrev pub times_of : ℕ → List Report → ℕ
times_of r [] = 0
times_of r (p ∷ ps) = pick (eqb p.rule r) 1 0 + times_of r ps
