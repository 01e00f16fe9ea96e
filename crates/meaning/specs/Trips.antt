-- Document 01, "Trips to try": the starred trips that concern stepping, as rows of one table.
--     Trip      a rule, its words in order, and the report that is expected: its step and culprit, or none
--     kept      the rule compiles, and its monitor stepped from fresh over the words gives that report
use Rattle.std.specs.Prelude.{Bool, true, false, ◌&&◌, List, [], ◌∷◌, ℕ, eqb, ℤ, pos, negsuc}
use Rattle.std.proofs.Math.Option.{Option, none, some}
use Rattle.result.specs.declared.Refusal.{Refusal}
use Rattle.formula.specs.Tree.{leaf, one, two}
use Rattle.formula.specs.Formula.{Formula, var, next, always, always_for, within, or, implies}
use Rattle.monitor.specs.Compile.{rule_faults, rule_node}
use Rattle.meaning.specs.Culprit.{minus_one}
use Rattle.meaning.specs.State.{initial_state}
use Rattle.meaning.specs.Calls.{first_report}

pub record Trip : Type 0 where
  pub rule : Formula
  pub truths : List ℕ
  pub report : Option (ℕ × ℤ)

-- ---- the table
abbrev v0 : Formula
v0 = leaf (var 0)

abbrev v1 : Formula
v1 = leaf (var 1)

abbrev report_at : ℕ → ℤ → Option (ℕ × ℤ)
report_at s c = some (s, c)

abbrev row : Formula → List ℕ → Option (ℕ × ℤ) → Trip
row f ws r = record { rule = f; truths = ws; report = r }

-- the whole case
abbrev trip : Formula
trip = one always (two implies v0 (one (within 3) v1))

abbrev pub trips : List Trip
trips =
    row (one always (one (within 0) v1)) (0 ∷ []) (report_at 0 (pos 0)) ∷
    row (one always (one (within 1) v1)) (0 ∷ []) (report_at 0 (pos 0)) ∷
    row trip (1 ∷ 0 ∷ 0 ∷ []) (report_at 2 (pos 0)) ∷
    row trip (1 ∷ 0 ∷ 2 ∷ []) none ∷
    row (one always (two implies v0 (one (within 2) v1))) (1 ∷ 1 ∷ []) (report_at 1 (pos 0)) ∷
    row (one always (two or v0 v1)) (1 ∷ 2 ∷ 0 ∷ []) (report_at 2 minus_one) ∷
    row (one always (two implies v0 (one next v1))) (1 ∷ 0 ∷ []) (report_at 1 minus_one) ∷
    row (two or (one always v0) (one always v1)) (2 ∷ 1 ∷ []) none ∷
    row v0 (1 ∷ 0 ∷ []) (report_at 1 minus_one) ∷
    row (one (within 2) v0) (0 ∷ 0 ∷ []) (report_at 1 (pos 0)) ∷
    row (one (within 2) v0) (1 ∷ 0 ∷ 0 ∷ 0 ∷ []) none ∷
    row (one (always_for 1) (two implies v0 (one next v1))) (0 ∷ 1 ∷ 0 ∷ []) none ∷
    []

-- ---- the test of a row
abbrev pub same_number : ℤ → ℤ → Bool
same_number (pos a) (pos b) = eqb a b
same_number (pos a) (negsuc b) = false
same_number (negsuc a) (pos b) = false
same_number (negsuc a) (negsuc b) = eqb a b

abbrev pub same_report : Option (ℕ × ℤ) → Option (ℕ × ℤ) → Bool
same_report none none = true
same_report none (some y) = false
same_report (some x) none = false
same_report (some x) (some y) = eqb x.0 y.0 && same_number x.1 y.1

abbrev pub no_faults : List Refusal → Bool
no_faults [] = true
no_faults (n ∷ ns) = false

unfoldable pub kept : Trip → Bool
kept t =
    let m = rule_node t.rule 0 in
    no_faults (rule_faults t.rule) && same_report (first_report m (initial_state m) 0 t.truths) t.report

unfoldable pub all_kept : List Trip → Bool
all_kept [] = true
all_kept (t ∷ ts) = kept t && all_kept ts
