-- A monitor that goes on from a given state: the theorems of this crate, each by the laws of the files beside this one.
-- Of alarms and culprits since then `AlarmSince` and `CulpritSince` (specs/Since) speak.
use mathlib.Core.Path.{◌≡◌, refl, sym, ◌∙◌}
use mathlib.Core.Bool.{true, false}
use mathlib.Core.List.{List, [], ◌∷◌}
use mathlib.Core.Logic.{inr, ⊎_elim, ◌↔◌}
use Prim.Native.Nat.{ℕ, ◌<◌}
use lib.IntN.{ℤ, pos}
use Rattle.monitor.specs.declared.range.AnchorRange.{AnchorRange}
use Rattle.monitor.specs.Mon.{Signal, obligation, Mon, check}
use Rattle.meaning.specs.Alarm.{First}
use Rattle.meaning.specs.Culprit.{minus_one, LatestAt}
use Rattle.meaning.specs.State.{ObligationState, State, step, newly_failed, WellKept, CheckShaped, WellShaped}
use Rattle.meaning.specs.Calls.{Call, refused, accepted, step_all, words_of, step_count}
use Rattle.resumed.specs.Since.{Since, during, triggers, BlamedSince, AlarmSince, CheckCulpritSince, CulpritSince, Unblamed, going, SaysSince, EachSince, steps_of, calls_since}
use Rattle.resumed.proofs.Windows.{open_blames_none}
use Rattle.resumed.proofs.Steps.{going_resumed, answers, reports, going_first}
use Rattle.resumed.proofs.Culprits.{unique, each}

module _ (m : Mon) (start : State m) (shaped : WellShaped m start) (unblamed : Unblamed m start) (c : Since) (k : ℕ) where
  -- every node is marked failed exactly where its alarm has held since, and names its culprit since
  pub since : EachSince m start c k (going m start c k)
  unfolding going
  since = each m c (going m start c) (going_resumed m start c shaped unblamed) k

  -- a call answers whether the alarm holds at it
  pub answer_since : ((step m (going m start c k) (c.step k) (c.word k)).now ≡ true) ↔ AlarmSince m start c k
  unfolding going
  answer_since = answers m c (going m start c) (going_resumed m start c shaped unblamed) k

  -- a call reports the first alarm since and no other
  pub report_since : (newly_failed m (going m start c k) (c.step k) (c.word k) ≡ true) ↔ First (AlarmSince m start c) k
  unfolding going
  report_since = reports m c (going m start c) (going_resumed m start c shaped unblamed) k

-- a node names at most one culprit
pub culprit_since_unique : (m : Mon) (start : State m) (c : Since) (k : ℕ) (x y : ℤ) → CulpritSince m start c k x → CulpritSince m start c k y → x ≡ y
culprit_since_unique = unique

-- ---- what an obligation names
module _ (b : ℕ) (p q : Signal) (r : AnchorRange) (start : ObligationState) (kept : WellKept b start) (unfailed : start.failed ≡ false) (unnamed : start.culprit ≡ minus_one) (c : Since) where
  says : (k : ℕ) → SaysSince (check (obligation b p q r)) start c k (going (check (obligation b p q r)) start c k)
  unfolding EachSince WellShaped CheckShaped Unblamed
  says = since (check (obligation b p q r)) start kept (unfailed, unnamed) c

  -- open at the start and failed by that window: no step, at every later call
  pub open_names_none : start.pending ≡ true → ((u : ℕ) → u < start.remaining → during q c u ≡ false) → (k : ℕ) → (going (check (obligation b p q r)) start c k).culprit ≡ minus_one
  unfolding CulpritSince CheckCulpritSince
  open_names_none o h k = ⊎_elim
      (λ n. n.1)
      (λ (i, l, e). absurd (open_blames_none b start (triggers r p c) (during q c) o h i l.here))
      (says k).named

  -- a window that opens since, the latest to do so: the step of that call
  pub later_names_opening : (k i : ℕ) → LatestAt (BlamedSince b start (triggers r p c) (during q c)) k i → (going (check (obligation b p q r)) start c k).culprit ≡ pos (c.step i)
  unfolding CulpritSince CheckCulpritSince
  later_names_opening k i l = unique (check (obligation b p q r)) start c k _ _ (says k).named (inr (i, l, refl))

-- ---- a list of calls goes on over its accepted ones: refused ones leave no trace
pub going_calls : (m : Mon) (start : State m) (cs : List Call) → step_all m start cs ≡ going m start (calls_since cs) (step_count cs)
unfolding step_all words_of steps_of going
going_calls m start [] = refl
going_calls m start (refused ∷ cs) = going_calls m start cs
going_calls m start (accepted s w ∷ cs) =
    going_calls m (step m start s w).state cs ∙ sym (going_first m start (calls_since (accepted s w ∷ cs)) (step_count cs))
