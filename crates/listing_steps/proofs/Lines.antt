-- All rules at a step line: the loop over them, and what it keeps.
use mathlib.Core.Path.{◌≡◌, refl, sym, ap, ap₂, subst, ◌∙◌}
use mathlib.Core.List.{List, [], ◌∷◌, ◌++◌, append_assoc}
use Prim.Native.Nat.{ℕ, ◌+◌, ◌≤◌, ◌<◌}
use native.Mathlib.Omega.{arith}
use native.Mathlib.Numerals.{add-one}
use lib.ListN.{length, get_or, length-append}
use Rattle.meaning.specs.State.{State}
use Rattle.node_step.specs.Memory.{Memory}
use Rattle.text.specs.Tape.{Tape, Wrote}
use Rattle.text.proofs.Tapes.{as_text, then, nothing}
use Rattle.listing_rules.specs.Rules.{Rule, mon}
use Rattle.book.specs.Book.{StepLine}
use Rattle.listing_reports.specs.Reports.{States, Report, reports_at}
use Rattle.listing_reports.specs.Tail.{report_line, report_lines}
use Rattle.listing_steps.specs.Holding.{Rows, HoldsState, Holding}
use Rattle.listing_steps.specs.Stepped.{line_of, stepped, report_if, Due, OneStepped, LineDue, LineStepped}
use Rattle.listing_steps.proofs.Turns.{step_below, step_from}

pub lines_append : (a b : List Report) → report_lines (a ++ b) ≡ report_lines a ++ report_lines b
unfolding report_lines
lines_append [] b = refl
lines_append (p ∷ a) b = ap (λ (t : List ℕ). report_line p ++ t) (lines_append a b) ∙ sym (append_assoc (report_line p) (report_lines a) (report_lines b))

reports_next : (R : ℕ → Rule) (st : States R) (i : ℕ) (x : StepLine) (r : ℕ) → reports_at R st i x (r + 1) ≡ reports_at R st i x r ++ report_if R st i x r
unfolding reports_at
reports_next R st i x r = ap (reports_at R st i x) (add-one r)

-- the first r rules have stepped
pub record Upto (ops nums nodes nfirsts refusals : List ℕ) (n : ℕ) (mem : Memory) (s w : ℕ) (before : Tape) (r : ℕ) (mem' : Memory) (after : Tape) (written : ℕ) : Type 0 where
  pub high : r ≤ n
  pub few : written ≤ r
  pub holding :
      (R : ℕ → Rule) (st : States R) → Rows ops nums nodes nfirsts refusals R n → Holding nfirsts R n st mem
      → Holding nfirsts R n (stepped R st (line_of s w) r) mem'
  pub wrote :
      (R : ℕ → Rule) (st : States R) (i : ℕ) → Rows ops nums nodes nfirsts refusals R n → Holding nfirsts R n st mem
      → Wrote before (report_lines (reports_at R st i (line_of s w) r)) after
  pub counted :
      (R : ℕ → Rule) (st : States R) (i : ℕ) → Rows ops nums nodes nfirsts refusals R n → Holding nfirsts R n st mem
      → written ≡ length (reports_at R st i (line_of s w) r)

module _ (ops nums nodes nfirsts refusals : List ℕ) (n : ℕ) (mem : Memory) (s w : ℕ) where
  pub upto_first : (a : Tape) → Upto ops nums nodes nfirsts refusals n mem s w a 0 mem a 0
  unfolding reports_at report_lines
  upto_first a = record {
    high = omega arith;
    few = omega arith;
    holding = λ R st u v. record {
      inside = v.inside;
      rule = λ q l c. subst (λ (z : State (mon (R q))). HoldsState (mon (R q)) (get_or nfirsts q 0) z mem) (sym (step_from R st (line_of s w) 0 q (omega arith))) (v.rule q l c);
    };
    wrote = λ R st i u v. nothing a;
    counted = λ R st i u v. refl;
  }

  module _ (a : Tape) (r : ℕ) (mem' : Memory) (b : Tape) (written : ℕ) (g : Upto ops nums nodes nfirsts refusals n mem s w a r mem' b written) where
    pub upto_due : LineDue ops nums nodes nfirsts refusals n mem s → r < n → Due ops nums nodes nfirsts refusals n r mem' s w
    upto_due d h = record {
      rules = d.rules;
      states = d.states;
      rows = d.rows;
      holding = g.holding d.rules d.states d.rows d.holding;
      inside = h;
      below = d.below;
    }

    pub upto_next :
        (mem'' : Memory) (c : Tape) (one : ℕ) → r < n → OneStepped ops nums nodes nfirsts refusals n r mem' s w b mem'' c one
        → Upto ops nums nodes nfirsts refusals n mem s w a (r + 1) mem'' c (written + one)
    upto_next mem'' c one h o = record {
      high = omega arith;
      few = omega (arith, g.few, o.few);
      holding = λ R st u v. o.holding R st u (g.holding R st u v);
      wrote = λ R st i u v.
          as_text a c (ap report_lines (reports_next R st i (line_of s w) r) ∙ lines_append (reports_at R st i (line_of s w) r) (report_if R st i (line_of s w) r))
          (then (g.wrote R st i u v) (o.wrote R st i u (g.holding R st u v)));
      counted = λ R st i u v.
          ap₂ ◌+◌ (g.counted R st i u v) (o.counted R st i u (g.holding R st u v))
          ∙ sym (ap length (reports_next R st i (line_of s w) r) ∙ length-append (reports_at R st i (line_of s w) r) (report_if R st i (line_of s w) r));
    }

    pub upto_all : LineDue ops nums nodes nfirsts refusals n mem s → n ≤ r → LineStepped ops nums nodes nfirsts refusals n mem s w a mem' b written
    upto_all d h =
        let e : r ≡ n = omega (arith, g.high) in
        record {
          few = omega (arith, g.few, g.high, d.rows.few);
          holding = λ R st u v. record {
            inside = (g.holding R st u v).inside;
            rule = λ q l c.
                subst (λ (z : State (mon (R q))). HoldsState (mon (R q)) (get_or nfirsts q 0) z mem') (step_below R st (line_of s w) r q (omega arith)) ((g.holding R st u v).rule q l c);
          };
          wrote = λ R st i u v. as_text a b (ap (λ (k : ℕ). report_lines (reports_at R st i (line_of s w) k)) (sym e)) (g.wrote R st i u v);
          counted = λ R st i u v. g.counted R st i u v ∙ ap (λ (k : ℕ). length (reports_at R st i (line_of s w) k)) e;
        }
