-- The calls on a monitor that fits a rule, over whatever tables hold that rule.
--     stays_ready        below 2^63 it is accepted, and ready again afterwards
--     answered           a call is refused and leaves the monitor, or it is the step of a ready monitor
--     refused_leaves     a refused call leaves the monitor
--     accepted_windows   an accepted call steps each window of the monitor's obligations as crates/meaning says
use mathlib.Core.Path.{◌≡◌, sym, ap, subst, ◌∙◌}
use mathlib.Core.Bool.{Bool}
use Prim.Native.Nat.{ℕ, ◌+◌, ◌<◌}
use native.Mathlib.Omega.{arith}
use lib.Dec.{ltb}
use borrow.Author.Tests.{lt-ltb, ltb-true}
use Rattle.std.specs.Prelude.{Ok, Err}
use Rattle.result.specs.declared.Refusal.{Refusal}
use Rattle.result.specs.declared.Refusal.TheVariants.{Late}
use Rattle.monitor.specs.Mon.{Mon, check, range_check, delayed_check, obligation, And, Or, count}
use Rattle.meaning.specs.State.{State, WellShaped, step, joined_step, newly_failed}
use Rattle.meaning.proofs.Meaning.{step_shaped, window_ticks, window_closes, window_opens, stays_marked}
use Rattle.node_step.specs.Memory.{Inside}
use Rattle.lent.specs.Lent.{LentTables, LentMonitor, HoldsRule, Ready}
use Rattle.lent.proofs.Standings.{monitor_room_lem, room_back, rule_inside}
use Rattle.stepping.specs.Walk.{read_mon, write_mon}
use Rattle.stepping.specs.Fitted.{Windows, StepTaken}
use Rattle.stepping.specs.Call.{Effect, refuse, or_refuse, accept, step_call, with}
use Rattle.stepping.proofs.Memories.{inside_write, read_back, blameless_write}
use Rattle.stepping.proofs.Fitting.{fits_inv, fits_by}
use Rattle.stepping.proofs.Calling.{Went, stops, late, goes, ready_called, went}

pub inside_own : (t : LentTables) (k : LentMonitor) (m : Mon) → HoldsRule t m → Ready k m → Inside k.memory (0 + count m)
inside_own t k m a d = rule_inside t k m a.rule d.room

-- a well-shaped state, written, leaves a monitor that is ready again
ready_written : (t : LentTables) (k : LentMonitor) (m : Mon) → HoldsRule t m → Ready k m → (st : State m) → WellShaped m st → Ready (with k (write_mon m st k.memory 0)) m
ready_written t k m a d st h =
    let i = inside_own t k m a d in
    let (e, f) = fits_inv m k d.fit in
    let r = monitor_room_lem k.forms k.bounds k.memory d.room in
    record {
      fit = fits_by m (with k (write_mon m st k.memory 0)) e (record {
        own = f.own;
        blameless = blameless_write m st k.memory 0 i f.blameless;
        kept = subst (WellShaped m) (sym (read_back m st k.memory 0 i)) h;
      });
      room = room_back k.forms k.bounds (write_mon m st k.memory 0) (record { forms_in = r.forms_in; bounds_in = r.bounds_in; inside = inside_write m st k.memory 0 256 r.inside });
    }

pub record Stays (t : LentTables) (k : LentMonitor) (m : Mon) (s w : ℕ) : Type 0 where
  pub accepted : step_call t k s w ≡ accept m k.memory s w
  pub again : Ready (with k (step_call t k s w).memory) m

module _ (t : LentTables) (k : LentMonitor) (m : Mon) (a : HoldsRule t m) (d : Ready k m) (s w : ℕ) where
  pub ready_call : step_call t k s w ≡ or_refuse (ltb s 9223372036854775808) Late k.memory (accept m k.memory s w)
  unfolding step_call
  ready_call = ready_called t k (ltb s 9223372036854775808) (λ n. accept n k.memory s w) m a d

  pub stays_ready : s < 9223372036854775808 → Stays t k m s w
  stays_ready h =
      let e : step_call t k s w ≡ accept m k.memory s w = ready_call ∙ ap (λ (b : Bool). or_refuse b Late k.memory (accept m k.memory s w)) (lt-ltb s 9223372036854775808 h) in
      record {
        accepted = e;
        again = subst (λ (c : Effect Bool). Ready (with k c.memory) m) (sym e) (ready_written t k m a d (step m (read_mon m k.memory 0) s w).state (step_shaped m (read_mon m k.memory 0) s w (fits_inv m k d.fit).1.kept));
      }

-- ---- whatever is lent
pub data Answered (t : LentTables) (k : LentMonitor) (s w : ℕ) (c : Effect Bool) : Type 0 where
  no_step : (r : Refusal) → c ≡ refuse r k.memory → Answered t k s w c
  steps : (m : Mon) → HoldsRule t m → Ready k m → s < 9223372036854775808 → c ≡ accept m k.memory s w → Answered t k s w c

module _ (t : LentTables) (k : LentMonitor) (s w : ℕ) where
  pub answered : Answered t k s w (step_call t k s w)
  unfolding step_call
  answered = go (went t k (ltb s 9223372036854775808) (λ m. accept m k.memory s w))
    where
      go : Went t k (ltb s 9223372036854775808) (λ m. accept m k.memory s w) (step_call t k s w) → Answered t k s w (step_call t k s w)
      go (stops n e q) = no_step n q
      go (late m a d h q) = no_step Late q
      go (goes m a d h q) = steps m a d (ltb-true s 9223372036854775808 h) q

  pub refused_leaves : (r : Refusal) → (step_call t k s w).answer ≡ Err r → (step_call t k s w).memory ≡ k.memory
  refused_leaves r q = go answered
    where
      go : Answered t k s w (step_call t k s w) → (step_call t k s w).memory ≡ k.memory
      go (no_step i e) = ap (λ (c : Effect Bool). c.memory) e
      go (steps m a d h e) =
          let p : (step_call t k s w).answer ≡ Ok (newly_failed m (read_mon m k.memory 0) s w) = ap (λ (c : Effect Bool). c.answer) e in
          let z : ◌≡◌ {A = ℕ} 0 1 = cc in
          absurd (omega arith)

-- ---- an accepted call
step_windows : (m : Mon) (st : State m) (s w : ℕ) → WellShaped m st → Windows m s w st (step m st s w).state
unfolding Windows WellShaped step joined_step
step_windows (check (range_check p r)) st s w h = tt
step_windows (check (delayed_check p q r)) st s w h = tt
step_windows (check (obligation b p q r)) st s w h = record {
  ticks = λ f o e. window_ticks b p q r st s w h f o e;
  closes = λ f o e. window_closes b p q r st s w h f o e;
  opens = λ i f o c e. window_opens b p q r st s w i f o c e;
  stays_failed = λ f. stays_marked (check (obligation b p q r)) st s w f;
}
step_windows (And m n) st s w h = (step_windows m st.left s w h.0, step_windows n st.right s w h.1)
step_windows (Or m n) st s w h = (step_windows m st.left s w h.0, step_windows n st.right s w h.1)

pub accepted_windows : (t : LentTables) (k : LentMonitor) (s w : ℕ) (broken : Bool) → (step_call t k s w).answer ≡ Ok broken → StepTaken t k s w broken
accepted_windows t k s w broken q = go (answered t k s w)
  where
    go : Answered t k s w (step_call t k s w) → StepTaken t k s w broken
    go (no_step n e) =
        let p : (step_call t k s w).answer ≡ Err n = ap (λ (c : Effect Bool). c.answer) e in
        let z : ◌≡◌ {A = ℕ} 0 1 = cc in
        absurd (omega arith)
    go (steps m a d h e) =
        let st = read_mon m k.memory 0 in
        let g : WellShaped m st = (fits_inv m k d.fit).1.kept in
        let r : read_mon m (step_call t k s w).memory 0 ≡ (step m st s w).state = ap (λ (c : Effect Bool). read_mon m c.memory 0) e ∙ read_back m (step m st s w).state k.memory 0 (inside_own t k m a d) in
        let p : (step_call t k s w).answer ≡ Ok (newly_failed m st s w) = ap (λ (c : Effect Bool). c.answer) e in
        record {
          mon = m;
          rule = a.rule;
          before = g;
          steps = r;
          reports = cc;
          after = subst (WellShaped m) (sym r) (step_shaped m st s w g);
          windows = subst (Windows m s w st) (sym r) (step_windows m st s w g);
        }
