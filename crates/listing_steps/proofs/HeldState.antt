-- A monitor's state in the memory: kept by writes elsewhere, and stepped by its own.
use mathlib.Core.Path.{◌≡◌, refl, sym, ap, subst, ◌∙◌}
use mathlib.Core.Bool.{Bool, true, false, ◌&&◌}
use mathlib.Core.Bool as bool
use mathlib.Core.List.{List}
use Prim.Native.Nat.{ℕ, zero, suc, ◌+◌}
use native.Mathlib.Omega.{arith}
use lib.IntN.{ℤ, pos, negsuc}
use lib.ListN.{get_or}
use Rattle.monitor.specs.Mon.{range_check, delayed_check, obligation, Mon, check, And, Or, count}
use Rattle.meaning.specs.Culprit.{minus_one}
use Rattle.meaning.specs.State.{State, FromMinusOne, CheckShaped, WellShaped, step, newly_failed, failed, culprit}
use Rattle.meaning.proofs.Meaning.{step_shaped}
use Rattle.stepping.specs.declared.walk.NodeOut.{NodeOut}
use Rattle.node_step.specs.Memory.{Memory, get, Inside}
use Rattle.lent.specs.Nodes.{NodesAt}
use Rattle.stepping.specs.Walk.{Blameless, ShapedAt, read_mon, write_mon, NodeStepped}
use Rattle.stepping.proofs.Memories.{SameFrom, read_same, shaped_same, shaped_write, read_back, culprit_read, failed_read}
use Rattle.text.specs.Tape.{Culprit, nobody, step as at_step}
use Rattle.listing_steps.specs.Holding.{HoldsState}
use Rattle.listing_steps.specs.Stepped.{RuleStepped}

-- ---- a state that is held
module _ (m : Mon) (k : ℕ) (st : State m) (mem : Memory) (h : HoldsState m k st mem) where
  pub holds_same : (mem' : Memory) → SameFrom mem' mem k (count m) → HoldsState m k st mem'
  holds_same mem' s = record {
    reads = read_same m mem' mem k s ∙ h.reads;
    shaped = shaped_same m mem mem' k (λ j a b. sym (s j a b)) h.shaped;
    kept = h.kept;
  }

  pub holds_step : (s w : ℕ) → Inside mem (k + count m) → HoldsState m k (step m st s w).state (write_mon m (step m (read_mon m mem k) s w).state mem k)
  holds_step s w d =
      let e : (step m (read_mon m mem k) s w).state ≡ (step m st s w).state = ap (λ (x : State m). (step m x s w).state) h.reads in
      let g : WellShaped m (step m st s w).state = step_shaped m st s w h.kept in
      record {
        reads = read_back m (step m (read_mon m mem k) s w).state mem k d ∙ e;
        shaped = shaped_write m (step m (read_mon m mem k) s w).state mem k d h.shaped (subst (WellShaped m) (sym e) g);
        kept = g;
      }

  pub holds_culprit : (get mem k).culprit ≡ culprit m st
  holds_culprit = sym (culprit_read m mem k h.shaped.blameless) ∙ ap (culprit m) h.reads

  pub holds_newly : (s w : ℕ) → newly_failed m (read_mon m mem k) s w ≡ newly_failed m st s w
  holds_newly s w = ap (λ (x : State m). newly_failed m x s w) h.reads

-- ---- a culprit is minus 1 or a step
from_culprit : (c : ℤ) → FromMinusOne c → Culprit c
from_culprit (pos n) h = at_step n
from_culprit (negsuc zero) h = nobody
from_culprit (negsuc (suc n)) h = absurd h

minus_culprit : (c : ℤ) → c ≡ minus_one → Culprit c
minus_culprit c e = subst Culprit (sym e) nobody

pub shaped_culprit : (m : Mon) (mem : Memory) (k : ℕ) → ShapedAt m mem k → Culprit (get mem k).culprit
unfolding Blameless WellShaped CheckShaped read_mon
shaped_culprit (check (range_check p r)) mem k h = minus_culprit (get mem k).culprit h.blameless
shaped_culprit (check (delayed_check p q r)) mem k h = minus_culprit (get mem k).culprit h.blameless
shaped_culprit (check (obligation b p q r)) mem k h = from_culprit (get mem k).culprit h.kept.culprit
shaped_culprit (And m n) mem k h = from_culprit (get mem k).culprit h.kept.2
shaped_culprit (Or m n) mem k h = from_culprit (get mem k).culprit h.kept.2

-- ---- the walk from the root, and the mark before and after it
module _ (ops nums nodes : List ℕ) (mem : Memory) (k s w : ℕ) where
  module _ (mem' : Memory) (o : NodeOut) (g : NodeStepped ops nums nodes 0 mem k s w mem' o) where
    -- the memory and the mark after the walk
    walked :
        (m : Mon) → NodesAt ops nums nodes k m → ShapedAt m mem k → Inside mem (k + count m)
        → (mem' ≡ write_mon m (step m (read_mon m mem k) s w).state mem k) × ((get mem' k).failed ≡ failed m (step m (read_mon m mem k) s w).state)
    walked m a h d =
        let z : k ≡ 0 + k = omega arith in
        let e : mem' ≡ write_mon m (step m (read_mon m mem k) s w).state mem k = (g.is m (subst (λ (i : ℕ). NodesAt ops nums nodes i m) z a) h d).2 in
        (e, sym (failed_read m mem' k) ∙ ap (failed m) (ap (λ (y : Memory). read_mon m y k) e ∙ read_back m (step m (read_mon m mem k) s w).state mem k d))

    pub stepped_before : get_or mem.failed k false ≡ true → RuleStepped ops nums nodes mem k s w mem' false
    stepped_before b = record {
      is = λ m a h d.
          let (e, f) = walked m a h d in
          (sym (ap (λ (x : Bool). failed m (step m (read_mon m mem k) s w).state && bool.not x) (failed_read m mem k ∙ b) ∙ and_false (failed m (step m (read_mon m mem k) s w).state)), e);
    }
      where
        and_false : (x : Bool) → (x && false) ≡ false
        and_false true = refl
        and_false false = refl

    pub stepped_after : get_or mem.failed k false ≡ false → RuleStepped ops nums nodes mem k s w mem' (get_or mem'.failed k false)
    stepped_after b = record {
      is = λ m a h d.
          let (e, f) = walked m a h d in
          (f ∙ sym (ap (λ (x : Bool). failed m (step m (read_mon m mem k) s w).state && bool.not x) (failed_read m mem k ∙ b) ∙ and_true (failed m (step m (read_mon m mem k) s w).state)), e);
    }
      where
        and_true : (x : Bool) → (x && true) ≡ x
        and_true true = refl
        and_true false = refl
