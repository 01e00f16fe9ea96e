-- All step lines: the loop over them, and what it keeps.
use mathlib.Core.Path.{◌≡◌, refl, sym, ap, ap₂, subst, ◌∙◌}
use mathlib.Core.List.{List, [], ◌∷◌, ◌++◌, append_assoc}
use Prim.Native.Nat.{ℕ, suc, ◌+◌, ◌*◌, ◌≤◌}
use native.Mathlib.Omega.{arith}
use lib.ListN.{length, length-append}
use Rattle.node_step.specs.Memory.{Memory}
use Rattle.text.specs.Tape.{Tape, Wrote}
use Rattle.text.proofs.Tapes.{as_text, then, nothing}
use Rattle.listing_rules.specs.Rules.{Rule}
use Rattle.book.specs.Book.{StepLine}
use Rattle.result.specs.Result.{given}
use Rattle.reader.specs.Steps.{next_step, result_of, steps_from}
use Rattle.std.specs.Prelude.{Option as Opt, Some, None}
use Rattle.reader.specs.declared.steps.StepLine as code
use Rattle.listing_reports.specs.Reports.{States, next_states, Report, reports_at, reports, end_count}
use Rattle.listing_reports.specs.Tail.{report_lines}
use Rattle.listing_steps.specs.Holding.{Rows, Holding}
use Rattle.listing_steps.specs.Stepped.{line_of, LineDue, LineStepped, last_states, LinesDue, LinesStepped}
use Rattle.listing_steps.proofs.Lines.{lines_append}
use Rattle.reader.proofs.StepsOfBook.{none_left, one_more}
use Rattle.listing_steps.proofs.Steps.{from_few, step_low, fewer}

-- the states at the cursor, the place of its line, and the reports before it
pub record PartRun (text : List ℕ) (from : ℕ) (nfirsts : List ℕ) (R : ℕ → Rule) (n : ℕ) (st : States R) (before : Tape) (cursor : ℕ) (mem : Memory)
    (after : Tape) (written : ℕ) : Type 0 where
  pub states : States R
  pub place : ℕ
  pub past : List Report
  pub holding : Holding nfirsts R n states mem
  pub all : reports R n st 0 (steps_from text from) ≡ past ++ reports R n states place (steps_from text cursor)
  pub last : last_states R st (steps_from text from) ≡ last_states R states (steps_from text cursor)
  pub wrote : Wrote before (report_lines past) after
  pub counted : written ≡ length past

-- the lines before the cursor have been stepped; at most 64 reports for each of them
pub record Ran (text : List ℕ) (from : ℕ) (ops nums nodes nfirsts refusals : List ℕ) (n : ℕ) (mem : Memory) (before : Tape) (cursor : ℕ)
    (mem' : Memory) (after : Tape) (written : ℕ) : Type 0 where
  pub few : written + 64 * length (steps_from text cursor) ≤ 4194240
  pub part :
      (R : ℕ → Rule) (st : States R) → Rows ops nums nodes nfirsts refusals R n → Holding nfirsts R n st mem
      → PartRun text from nfirsts R n st before cursor mem' after written

module _ (text : List ℕ) (from : ℕ) (ops nums nodes nfirsts refusals : List ℕ) (n : ℕ) (mem : Memory) (a : Tape) where
  pub ran_first : LinesDue text ops nums nodes nfirsts refusals n mem → Ran text from ops nums nodes nfirsts refusals n mem a from mem a 0
  unfolding report_lines
  ran_first d = record {
    few = omega (arith, d.short, from_few text from);
    part = λ R st u v. record { states = st; place = 0; past = []; holding = v; all = refl; last = refl; wrote = nothing a; counted = refl };
  }

  module _ (cursor : ℕ) (mem' : Memory) (b : Tape) (written : ℕ) (g : Ran text from ops nums nodes nfirsts refusals n mem a cursor mem' b written)
      (read : Opt code.StepLine) (h : result_of read ≡ given (next_step text cursor)) where
    pub ran_end : read ≡ None → LinesStepped text from ops nums nodes nfirsts refusals n mem a mem' b written
    unfolding reports last_states end_count
    ran_end e = record {
      holding = λ R st u v.
          let p = g.part R st u v in
          subst (λ (z : States R). Holding nfirsts R n z mem') (sym (p.last ∙ ap (last_states R p.states) (none_left text cursor read h e))) p.holding;
      wrote = λ R st u v. as_text a b (ap report_lines (none_after R st u v)) (g.part R st u v).wrote;
      counted = λ R st u v. (g.part R st u v).counted ∙ ap length (sym (none_after R st u v));
    }
      where
        nil : (l : List Report) → l ++ [] ≡ l
        nil [] = refl
        nil (x ∷ l) = ap (x ∷◌) (nil l)

        none_after :
            (R : ℕ → Rule) (st : States R) (u : Rows ops nums nodes nfirsts refusals R n) (v : Holding nfirsts R n st mem)
            → reports R n st 0 (steps_from text from) ≡ (g.part R st u v).past
        none_after R st u v =
            let p = g.part R st u v in
            p.all ∙ ap (λ (xs : List StepLine). p.past ++ reports R n p.states p.place xs) (none_left text cursor read h e) ∙ nil p.past

    module _ (x : code.StepLine) (e : read ≡ Some x) where
      pub ran_due : LinesDue text ops nums nodes nfirsts refusals n mem → LineDue ops nums nodes nfirsts refusals n mem' x.step
      ran_due d = record {
        rules = d.rules;
        states = (g.part d.rules d.states d.rows d.holding).states;
        rows = d.rows;
        holding = (g.part d.rules d.states d.rows d.holding).holding;
        below = step_low text cursor read h x e;
      }

      pub ran_next :
          (mem'' : Memory) (c : Tape) (more : ℕ) → LineStepped ops nums nodes nfirsts refusals n mem' x.step x.truths b mem'' c more
          → Ran text from ops nums nodes nfirsts refusals n mem a x.next mem'' c (written + more)
      unfolding reports last_states
      ran_next mem'' c more l = record {
        few = omega (arith, g.few, l.few, fewer text cursor read h x e);
        part = λ R st u v.
            let p = g.part R st u v in
            let now_at = line_of x.step x.truths in
            let now = reports_at R p.states p.place now_at n in
            record {
              states = next_states R p.states now_at;
              place = suc p.place;
              past = p.past ++ now;
              holding = l.holding R p.states u p.holding;
              all = p.all
                  ∙ ap (λ (xs : List StepLine). p.past ++ reports R n p.states p.place xs) (one_more text cursor read h x e)
                  ∙ sym (append_assoc p.past now (reports R n (next_states R p.states now_at) (suc p.place) (steps_from text x.next)));
              last = p.last ∙ ap (last_states R p.states) (one_more text cursor read h x e);
              wrote = as_text a c (lines_append p.past now) (then p.wrote (l.wrote R p.states p.place u p.holding));
              counted = ap₂ ◌+◌ p.counted (l.counted R p.states p.place u p.holding) ∙ sym (length-append p.past now);
            };
      }
