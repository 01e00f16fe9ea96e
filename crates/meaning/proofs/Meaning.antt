-- The meaning of a report: the theorems of this crate, each by the laws of the files beside this one.
-- Of alarms, culprits and reports `Alarm`, `Culprit` and `Report` (specs/Alarm, specs/Culprit) speak, of the whole of demand 3 `Demand` (specs/Demand, with `meets` in Machines.antt).
use mathlib.Core.Path.{◌≡◌, refl}
use mathlib.Core.Bool.{true, false, ◌&&◌}
use mathlib.Core.List.{List}
use mathlib.Core.Logic.{◌⊎◌, ◌↔◌}
use Prim.Native.Nat.{ℕ, suc, ◌+◌, ◌≤◌, ◌<◌}
use lib.IntN.{ℤ, pos}
use lib.ListN.{length, get_or}
use Rattle.formula.specs.Formula.{Formula}
use Rattle.monitor.specs.declared.range.AnchorRange.{AnchorRange}
use Rattle.monitor.specs.Range.{contains_of}
use Rattle.monitor.specs.Mon.{Signal, delayed_check, obligation, Mon, check}
use Rattle.monitor.specs.Compile.{rule_node, faults, consequent, implication, node}
use Rattle.formula.specs.Pure.{pure, value}
use Rattle.formula.specs.Tree.{size}
use Rattle.meaning.specs.Alarm.{Record, truth, Alarm, First}
use Rattle.meaning.specs.Culprit.{Culprit, Report}
use Rattle.meaning.specs.State.{DelayedState, ObligationState, State, failed, culprit, initial_state, step, newly_failed, after, WellShaped, EachNode, EachObligation, check_step, joined_step, obligation_step, unfailed_step}
use Rattle.meaning.specs.Logic.{Holds, Fails}
use Rattle.meaning.specs.Plain.{Plain}
use Rattle.meaning.specs.Calls.{first_report}
use Rattle.meaning.specs.Meaning.{Sound, NodeSound, Judged, PlainMeans, Ticks, Closes, Opens}
use Rattle.meaning.specs.Trips.{trips, kept, all_kept}
use Rattle.meaning.proofs.Steps as steps_of
use Rattle.meaning.proofs.Culprits as culprits-of
use Rattle.meaning.proofs.Calls as calls-of
use Rattle.meaning.proofs.Shapes as shapes-of
use Rattle.meaning.proofs.Logics.{not_both}
use Rattle.meaning.proofs.Plains.{plain_faults, plain_exact}

-- ---- one step over a record
module _ (m : Mon) (rec : Record) where
  -- the answer at s is the alarm at s
  pub answer_is_alarm : (s : ℕ) → ((step m (after m rec s) s (rec s)).now ≡ true) ↔ Alarm m rec s
  answer_is_alarm s = steps_of.answers m rec s

  -- it reads the record up to s alone
  pub alarm_local : (other : Record) (s : ℕ) → ((i : ℕ) → i ≤ s → rec i ≡ other i) → Alarm m rec s → Alarm m other s
  alarm_local other s = steps_of.alarm_local m rec other s

  pub alarm_decided : (s : ℕ) → Dec (Alarm m rec s)
  alarm_decided s = steps_of.decides m rec s

  -- a node is marked exactly where its alarm has held; each obligation names what it should
  pub marked_iff : (k : ℕ) → (failed m (after m rec k) ≡ true) ↔ ((s : ℕ) × (s < k) × Alarm m rec s)
  marked_iff k = steps_of.marked m rec k

  pub each_node : (k : ℕ) → EachNode (NodeSound rec k) m (after m rec k)
  each_node k = calls-of.nodes_sound m rec k

  pub each_obligation : (k : ℕ) → EachObligation (Sound rec k) m (after m rec k)
  each_obligation k = calls-of.obligations_sound m rec k

  -- a call reports the first alarm and no other, with its culprit
  pub report_is_first : (s : ℕ) → (newly_failed m (after m rec s) s (rec s) ≡ true) ↔ First (Alarm m rec) s
  report_is_first s = steps_of.reports m rec s

  pub report_of_record : (s : ℕ) → First (Alarm m rec) s → Report m rec s (culprit m (after m rec (suc s)))
  report_of_record s h = record { first = h; culprit = culprits-of.culprits m rec (suc s) }

  pub culprit_unique : (k : ℕ) (c d : ℤ) → Culprit m rec k c → Culprit m rec k d → c ≡ d
  culprit_unique k c d = culprits-of.culprit_unique m rec k c d

  -- stepping over words of the record from step s on finds its report
  pub judged : (s : ℕ) (ws : List ℕ) → ((i : ℕ) → i < length ws → get_or ws i 0 ≡ rec (s + i)) → Judged m rec s (length ws) (first_report m (after m rec s) s ws)
  judged s ws h = calls-of.judged m rec s ws h

-- what holds of each node of a tree holds of its root
pub at_root : (P : (m : Mon) → State m → Type 0) (m : Mon) (st : State m) → EachNode P m st → P m st
at_root P m st h = calls-of.at_root P m st h

-- ---- one call from any well-shaped state
module _ (m : Mon) where
  pub fresh_shaped : WellShaped m (initial_state m)
  fresh_shaped = shapes-of.fresh_shaped m

  module _ (st : State m) (s w : ℕ) where
    pub step_shaped : WellShaped m st → WellShaped m (step m st s w).state
    step_shaped h = shapes-of.step_shaped m st s w h

    -- marks stay, and a failed root reports no more
    pub stays_marked : failed m st ≡ true → failed m (step m st s w).state ≡ true
    stays_marked h = shapes-of.stays_marked m st s w h

    pub reports_once : failed m st ≡ true → newly_failed m st s w ≡ false
    reports_once h = shapes-of.reports_once m st s w h

-- failed delayed checks and obligations stay alarmed; a delayed check looks at the antecedent of the call before
module _ (p q : Signal) (r : AnchorRange) (st : DelayedState) (s w : ℕ) where
  pub delayed_stays : st.failed ≡ true → (step (check (delayed_check p q r)) st s w).now ≡ true
  delayed_stays h = shapes-of.delayed_stays p q r st s w h

  pub delayed_remembers : (step (check (delayed_check p q r)) st s w).state.prev_antecedent ≡ truth p w
  delayed_remembers = shapes-of.delayed_remembers p q r st s w

  pub delayed_looks_back : st.failed ≡ false
      → ((step (check (delayed_check p q r)) st s w).now ≡ true) ↔ ((contains_of r s ≡ true) × (st.prev_antecedent ≡ true) × (truth q w ≡ false))
  delayed_looks_back h = shapes-of.delayed_looks_back p q r st s w h

module _ (b : ℕ) (p q : Signal) (r : AnchorRange) (st : ObligationState) (s w : ℕ) where
  pub obligation_stays : st.failed ≡ true → (step (check (obligation b p q r)) st s w).now ≡ true
  obligation_stays h = shapes-of.obligation_stays b p q r st s w h

  -- an open window takes one from remaining at each call without its body and fails at zero
  pub window_ticks : WellShaped (check (obligation b p q r)) st → st.failed ≡ false → st.pending ≡ true → truth q w ≡ false
      → Ticks st (step (check (obligation b p q r)) st s w).state
  window_ticks = shapes-of.window_ticks b p q r st s w

  pub window_closes : WellShaped (check (obligation b p q r)) st → st.failed ≡ false → st.pending ≡ true → truth q w ≡ true
      → Closes st (step (check (obligation b p q r)) st s w).state
  window_closes = shapes-of.window_closes b p q r st s w

  pub window_opens : 1 ≤ b → st.failed ≡ false → st.pending ≡ false → contains_of r s ≡ true → truth p w ≡ true
      → Opens b s (truth q w) (step (check (obligation b p q r)) st s w).state
  window_opens = shapes-of.window_opens b p q r st s w

-- bound 0: it fails at the trigger's own step or stays as it is, and names a step only on failing
module _ (p q : Signal) (r : AnchorRange) (st : ObligationState) (s w : ℕ) where
  pub zero_fails : st.failed ≡ false → contains_of r s ≡ true → truth p w ≡ true → truth q w ≡ false
      → ((step (check (obligation 0 p q r)) st s w).now ≡ true) × ((step (check (obligation 0 p q r)) st s w).state.culprit ≡ pos s)
  zero_fails = shapes-of.zero_fails p q r st s w

  pub zero_stays : st.failed ≡ false → ((contains_of r s && truth p w) ≡ false) ⊎ (truth q w ≡ true) → (step (check (obligation 0 p q r)) st s w).state ≡ st
  zero_stays = shapes-of.zero_stays p q r st s w

-- ---- plain rules: demand 3, last part
pub plain_rules : {f : Formula} → Plain f → (i : ℕ) (rec : Record) → PlainMeans f i rec
plain_rules {f} p i rec =
    let m : Mon = rule_node f i in
    let x = plain_exact p rec i in
    record {
      compiles = plain_faults p;
      false_at_0 = (λ h. x.complete h, λ (s, a). x.sound s a);
      true_at_0 = (λ h s a. not_both f rec 0 h (x.sound s a), λ h. x.silent h);
      reported = (
        λ h. let (s, a) = x.complete h in let (t, b) = steps_of.first_alarm m rec s a in (t, (report_is_first m rec t).1 b),
        λ (s, e). x.sound s ((report_is_first m rec s).0 e).here,
      );
      at_first = report_is_first m rec;
    }

-- a formula is never both true and false
pub never_both : (f : Formula) (rec : Record) (t : ℕ) → Holds f rec t → Fails f rec t → ⊥
never_both f rec t h k = not_both f rec t h k

-- ---- the starred trips
pub trips_kept : all_kept trips ≡ true
unfolding all_kept kept faults consequent node implication pure value truth first_report step check_step joined_step obligation_step unfailed_step size
trips_kept = refl
