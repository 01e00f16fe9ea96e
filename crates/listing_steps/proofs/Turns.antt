-- One rule's turn at a step line: what it keeps, and what is written of it.
use mathlib.Core.Path.{◌≡◌, refl, sym, ap, subst, ◌∙◌}
use mathlib.Core.Bool.{Bool, true, false, ◌&&◌}
use mathlib.Core.List.{List, [], ◌∷◌}
use mathlib.Core.Logic.{⊎_elim}
use Prim.Native.Nat.{ℕ, ◌+◌, ◌≤◌, ◌<◌}
use native.Mathlib.Omega.{arith}
use mir.Syntax.{w64}
use mir.Val.{SFits, to_z, of_z}
use mir.Facts.{to_z-of_z}
use lib.IntN.{ℤ, pos}
use lib.ListN.{length, get_or}
use borrow.Author.Tests.{lt-ltb, le-ltb}
use Rattle.terms.specs.Choice.{pick}
use Rattle.formula.proofs.Cases.{below_or, true_false}
use Rattle.monitor.specs.Mon.{Mon, count}
use Rattle.meaning.specs.State.{State, step, newly_failed}
use Rattle.node_step.specs.Memory.{Memory, get, Inside}
use Rattle.lent.specs.Nodes.{NodesAt}
use Rattle.stepping.specs.Walk.{read_mon, write_mon, Walkable}
use Rattle.node_step.proofs.Entries.{inside_less}
use Rattle.stepping.proofs.Memories.{inside_write, write_before, write_past, SameFrom, count_pos}
use Rattle.book.specs.Book.{StepLine}
use Rattle.text.specs.Tape.{Tape, Wrote, Culprit}
use Rattle.text.proofs.Tapes.{as_text, append-nil, nothing}
use Rattle.listing_rules.specs.Rules.{Rule, compiles, mon}
use Rattle.listing_rules.proofs.Refusals.{zero_is_none, other_is_one}
use Rattle.listing_reports.specs.Reports.{States, next_states, breaks, report_of}
use Rattle.listing_reports.specs.Tail.{report_line, report_lines}
use Rattle.listing_report.specs.Written.{ReportWrote}
use Rattle.listing_steps.specs.Holding.{Rows, HoldsState, Holding}
use Rattle.listing_steps.specs.Stepped.{line_of, stepped, report_if, RuleStepped, Due, OneStepped}
use Rattle.listing_steps.proofs.HeldState.{holds_same, holds_step, holds_culprit, holds_newly, shaped_culprit}

-- ---- the states while a step line is in hand
module _ (R : ℕ → Rule) (st : States R) (x : StepLine) (r q : ℕ) where
  pub step_below : q < r → stepped R st x r q ≡ next_states R st x q
  unfolding stepped
  step_below h = ap (λ (b : Bool). pick b (next_states R st x q) (st q)) (lt-ltb q r h)

  pub step_from : r ≤ q → stepped R st x r q ≡ st q
  unfolding stepped
  step_from h = ap (λ (b : Bool). pick b (next_states R st x q) (st q)) (le-ltb q r h)

module _ (ops nums nodes nfirsts refusals : List ℕ) (n r : ℕ) (mem : Memory) (s w : ℕ) where
  -- ---- what the rules and states are, for any that the tables and the memory hold
  module _ (R : ℕ → Rule) (st : States R) (u : Rows ops nums nodes nfirsts refusals R n) (v : Holding nfirsts R n (stepped R st (line_of s w) r) mem) (h : r < n) where
    abbrev x : StepLine
    x = line_of s w

    abbrev m : Mon
    m = mon (R r)

    abbrev k : ℕ
    k = get_or nfirsts r 0

    -- a rule that does not compile has nothing to keep
    refused_next : compiles (R r) ≡ false → Holding nfirsts R n (stepped R st x (r + 1)) mem
    refused_next f = record { inside = v.inside; rule = go }
      where
        go : (q : ℕ) → q < n → compiles (R q) ≡ true → HoldsState (mon (R q)) (get_or nfirsts q 0) (stepped R st x (r + 1) q) mem
        go q l c = ⊎_elim
            (λ (a : q < r). subst (λ (z : State (mon (R q))). HoldsState (mon (R q)) (get_or nfirsts q 0) z mem) (step_below R st x r q a ∙ sym (step_below R st x (r + 1) q (omega arith))) (v.rule q l c))
            (λ (a : r ≤ q). ⊎_elim
            (λ (b : r < q). subst (λ (z : State (mon (R q))). HoldsState (mon (R q)) (get_or nfirsts q 0) z mem) (step_from R st x r q a ∙ sym (step_from R st x (r + 1) q (omega arith))) (v.rule q l c))
            (λ (b : q ≤ r).
            let e : q ≡ r = omega arith in
            true_false (subst (λ (i : ℕ). compiles (R i) ≡ true) e c) f)
            (below_or r q))
            (below_or q r)

    module _ (c : compiles (R r) ≡ true) where
      own : HoldsState m k (st r) mem
      own = subst (λ (z : State m). HoldsState m k z mem) (step_from R st x r r (omega arith)) (v.rule r h c)

      own_inside : Inside mem (k + count m)
      own_inside = inside_less mem (k + count m) 1024 (u.room r h c) v.inside

      pub own_walks : s < 9223372036854775808 → Walkable ops nums nodes 0 mem k s
      own_walks b =
          let z : k ≡ 0 + k = omega arith in
          record {
            mon = m;
            stands = subst (λ (i : ℕ). NodesAt ops nums nodes i m) z (u.stands r h c);
            in_nodes = omega (arith, u.in_nodes r h c);
            inside = own_inside;
            shaped = own.shaped;
            below = b;
          }

      module _ (mem' : Memory) (broken : Bool) (g : RuleStepped ops nums nodes mem k s w mem' broken) where
        after_is : mem' ≡ write_mon m (step m (read_mon m mem k) s w).state mem k
        after_is = (g.is m (u.stands r h c) own.shaped own_inside).1

        is_broken : broken ≡ breaks R st x r
        unfolding breaks
        is_broken = (g.is m (u.stands r h c) own.shaped own_inside).0 ∙ holds_newly m k (st r) mem own s w ∙ ap (λ (b : Bool). b && newly_failed m (st r) s w) (sym c)

        own_next : HoldsState m k (next_states R st x r) mem'
        own_next = subst (λ (y : Memory). HoldsState m k (next_states R st x r) y) (sym after_is) (holds_step m k (st r) mem own s w own_inside)

        -- the entries of the other rules stay
        others_before : (q : ℕ) → q < r → compiles (R q) ≡ true → SameFrom mem' mem (get_or nfirsts q 0) (count (mon (R q)))
        others_before q a d j o p =
            ap (λ (y : Memory). get y j) after_is ∙ write_before m (step m (read_mon m mem k) s w).state mem k j (omega (arith, u.apart q r a h d c))

        others_past : (q : ℕ) → r < q → q < n → compiles (R q) ≡ true → SameFrom mem' mem (get_or nfirsts q 0) (count (mon (R q)))
        others_past q a l d j o p =
            ap (λ (y : Memory). get y j) after_is ∙ write_past m (step m (read_mon m mem k) s w).state mem k j (omega (arith, u.apart r q a l c d))

        stepped_next : Holding nfirsts R n (stepped R st x (r + 1)) mem'
        stepped_next = record {
          inside = subst (λ (y : Memory). Inside y 1024) (sym after_is) (inside_write m (step m (read_mon m mem k) s w).state mem k 1024 v.inside);
          rule = go;
        }
          where
            here : HoldsState m k (stepped R st x (r + 1) r) mem'
            here = subst (λ (z : State m). HoldsState m k z mem') (sym (step_below R st x (r + 1) r (omega arith))) own_next

            go : (q : ℕ) → q < n → compiles (R q) ≡ true → HoldsState (mon (R q)) (get_or nfirsts q 0) (stepped R st x (r + 1) q) mem'
            go q l d = ⊎_elim
                (λ (a : q < r). subst (λ (z : State (mon (R q))). HoldsState (mon (R q)) (get_or nfirsts q 0) z mem') (step_below R st x r q a ∙ sym (step_below R st x (r + 1) q (omega arith))) (holds_same (mon (R q)) (get_or nfirsts q 0) (stepped R st x r q) mem (v.rule q l d) mem' (others_before q a d)))
                (λ (a : r ≤ q). ⊎_elim
                (λ (b : r < q). subst (λ (z : State (mon (R q))). HoldsState (mon (R q)) (get_or nfirsts q 0) z mem') (step_from R st x r q a ∙ sym (step_from R st x (r + 1) q (omega arith))) (holds_same (mon (R q)) (get_or nfirsts q 0) (stepped R st x r q) mem (v.rule q l d) mem' (others_past q b l d)))
                (λ (b : q ≤ r).
                let e : r ≡ q = omega arith in
                subst (λ (i : ℕ). HoldsState (mon (R i)) (get_or nfirsts i 0) (stepped R st x (r + 1) i) mem') e here)
                (below_or r q))
                (below_or q r)

        -- the report's line
        reported : (i : ℕ) (a b : Tape) → broken ≡ true → ReportWrote s r (get mem' k).culprit a b → Wrote a (report_lines (report_if R st i x r)) b
        unfolding report_of report_lines
        reported i a b f p =
            let t : Wrote a (report_line (report_of R st i x r)) b = p.is (report_of R st i x r) refl refl (sym (holds_culprit m k (next_states R st x r) mem' own_next)) in
            as_text a b (ap (λ (y : Bool). report_lines (pick y (report_of R st i x r ∷ []) [])) (sym is_broken ∙ f) ∙ append-nil (report_line (report_of R st i x r))) t

        reported_one : (i : ℕ) → broken ≡ true → 1 ≡ length (report_if R st i x r)
        reported_one i f = sym (ap (λ (y : Bool). length (pick y (report_of R st i x r ∷ []) [])) (sym is_broken ∙ f))

        unreported : (i : ℕ) (a : Tape) → broken ≡ false → Wrote a (report_lines (report_if R st i x r)) a
        unfolding report_lines
        unreported i a f = as_text a a (ap (λ (y : Bool). report_lines (pick y (report_of R st i x r ∷ []) [])) (sym is_broken ∙ f)) (nothing a)

        unreported_none : (i : ℕ) → broken ≡ false → 0 ≡ length (report_if R st i x r)
        unreported_none i f = sym (ap (λ (y : Bool). length (pick y (report_of R st i x r ∷ []) [])) (sym is_broken ∙ f))

    -- of a rule that does not compile nothing is reported
    refused_nothing : (i : ℕ) (a : Tape) → compiles (R r) ≡ false → Wrote a (report_lines (report_if R st i x r)) a
    unfolding breaks report_lines
    refused_nothing i a f = as_text a a (ap (λ (y : Bool). report_lines (pick (y && newly_failed m (st r) s w) (report_of R st i x r ∷ []) [])) f) (nothing a)

    refused_none : (i : ℕ) → compiles (R r) ≡ false → 0 ≡ length (report_if R st i x r)
    unfolding breaks
    refused_none i f = sym (ap (λ (y : Bool). length (pick (y && newly_failed m (st r) s w) (report_of R st i x r ∷ []) [])) f)

  -- ---- the test on the refusal
  does : (R : ℕ → Rule) → Rows ops nums nodes nfirsts refusals R n → r < n → get_or refusals r 0 ≡ 0 → compiles (R r) ≡ true
  does R u h z = zero_is_none (R r) (sym (u.refused r h) ∙ z)

  does_not : (R : ℕ → Rule) → Rows ops nums nodes nfirsts refusals R n → r < n → (get_or refusals r 0 ≡ 0 → ⊥) → compiles (R r) ≡ false
  does_not R u h z = other_is_one (R r) (λ e. z (u.refused r h ∙ e))

  -- ---- the three ways of a turn
  pub turn_refused : (a : Tape) → Due ops nums nodes nfirsts refusals n r mem s w → (get_or refusals r 0 ≡ 0 → ⊥) → OneStepped ops nums nodes nfirsts refusals n r mem s w a mem a 0
  turn_refused a d z = record {
    few = omega arith;
    holding = λ R st u v. refused_next R st u v d.inside (does_not R u d.inside z);
    wrote = λ R st i u v. refused_nothing R st u v d.inside i a (does_not R u d.inside z);
    counted = λ R st i u v. refused_none R st u v d.inside i (does_not R u d.inside z);
  }

  module _ (d : Due ops nums nodes nfirsts refusals n r mem s w) (z : get_or refusals r 0 ≡ 0) where
    pub turn_walks : Walkable ops nums nodes 0 mem (get_or nfirsts r 0) s
    turn_walks = own_walks d.rules d.states d.rows d.holding d.inside (does d.rules d.rows d.inside z) d.below

    pub turn_low : get_or nfirsts r 0 < 1024
    turn_low =
        let c = does d.rules d.rows d.inside z in
        omega (arith, d.rows.room r d.inside c, count_pos (mon (d.rules r)))

    pub turn_room : Inside mem (get_or nfirsts r 0 + 1)
    turn_room = inside_less mem (get_or nfirsts r 0 + 1) 1024 (omega (arith, turn_low)) d.holding.inside

    module _ (mem' : Memory) (broken : Bool) (g : RuleStepped ops nums nodes mem (get_or nfirsts r 0) s w mem' broken) where
      abbrev blamed : ℤ
      blamed = get_or mem'.culprits (get_or nfirsts r 0) (pos 0)

      pub turn_culprit : Culprit blamed
      turn_culprit =
          let o = own_next d.rules d.states d.rows d.holding d.inside (does d.rules d.rows d.inside z) mem' broken g in
          shaped_culprit (mon (d.rules r)) mem' (get_or nfirsts r 0) o.shaped

      pub turn_broken :
          (a b : Tape) → broken ≡ true → SFits w64 blamed → ReportWrote s r (to_z w64 (of_z w64 blamed)) a b
          → OneStepped ops nums nodes nfirsts refusals n r mem s w a mem' b 1
      turn_broken a b f o p' =
          let p : ReportWrote s r blamed a b = subst (λ (z : ℤ). ReportWrote s r z a b) (to_z-of_z o) p' in
          record {
            few = omega arith;
            holding = λ R st u v. stepped_next R st u v d.inside (does R u d.inside z) mem' broken g;
            wrote = λ R st i u v. reported R st u v d.inside (does R u d.inside z) mem' broken g i a b f p;
            counted = λ R st i u v. reported_one R st u v d.inside (does R u d.inside z) mem' broken g i f;
          }

      pub turn_kept : (a : Tape) → broken ≡ false → OneStepped ops nums nodes nfirsts refusals n r mem s w a mem' a 0
      turn_kept a f = record {
        few = omega arith;
        holding = λ R st u v. stepped_next R st u v d.inside (does R u d.inside z) mem' broken g;
        wrote = λ R st i u v. unreported R st u v d.inside (does R u d.inside z) mem' broken g i a f;
        counted = λ R st i u v. unreported_none R st u v d.inside (does R u d.inside z) mem' broken g i f;
      }
