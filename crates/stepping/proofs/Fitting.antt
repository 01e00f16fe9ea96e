-- Refusal 2 of a monitor (`fits_mon`, crates/lent, specs/Shape.antt) and the well-shaped states of crates/meaning: both ways.
--     fits_iff           a monitor's entries fit a rule exactly where they are `Fitted`
--     monitor_fits_iff   a monitor fits it exactly where it also has the rule's count
use mathlib.Core.Path.{◌≡◌, refl, sym, ap, ap₂, ◌∙◌}
use mathlib.Core.Bool.{Bool, true, false, ◌&&◌, ◌||◌}
use mathlib.Core.Bool as bool
use mathlib.Core.List.{List}
use mathlib.Core.Logic.{◌↔◌}
use Prim.Native.Nat.{ℕ, zero, suc, ◌+◌}
use lib.Dec.{leb, eqb}
use lib.IntN.{ℤ, pos, negsuc}
use lib.ListN.{get_or}
use borrow.Author.Tests.{leb-true, le-leb, eqb-true, eq-eqb}
use Rattle.formula.proofs.Cases.{true_false}
use Rattle.formula.proofs.Walks.{both_true}
use Rattle.monitor.specs.declared.node.MonNode.TheVariants.{And as AndNode, Or as OrNode}
use Rattle.monitor.specs.Mon.{Check, range_check, delayed_check, obligation, Mon, check, And, Or, count, node_of}
use Rattle.meaning.specs.Culprit.{minus_one}
use Rattle.meaning.specs.State.{FromMinusOne, WellKept, CheckShaped, WellShaped}
use Rattle.node_step.specs.declared.state.MonState.{MonState}
use Rattle.node_step.specs.Memory.{Memory, get}
use Rattle.node_step.specs.Check.{obligation_of, read_check}
use Rattle.lent.specs.Shape.{is_minus_one, from_minus_one, window_kept, entry_fits, fits_mon}
use Rattle.lent.specs.Lent.{LentMonitor, fits}
use Rattle.stepping.specs.Walk.{BlamelessEntry, Blameless, ShapedAt, read_mon}
use Rattle.stepping.specs.Fitted.{OwnNode, OwnForms, Fitted}

-- ---- culprits and windows
minus_one_is : (c : ℤ) → is_minus_one c ≡ true → c ≡ minus_one
minus_one_is (pos n) h = true_false h refl
minus_one_is (negsuc zero) h = refl
minus_one_is (negsuc (suc n)) h = true_false h refl

from_minus_one_lem : (c : ℤ) → from_minus_one c ≡ true → FromMinusOne c
from_minus_one_lem (pos n) h = tt
from_minus_one_lem (negsuc zero) h = tt
from_minus_one_lem (negsuc (suc n)) h = true_false h refl

from_back : (c : ℤ) → FromMinusOne c → from_minus_one c ≡ true
from_back (pos n) h = refl
from_back (negsuc zero) h = refl
from_back (negsuc (suc n)) h = absurd h

module _ (b : ℕ) (st : MonState) where
  in_window : (x y : Bool) → st.held ≡ x → st.failed ≡ y → window_kept b st ≡ (bool.not x || (y || (leb 1 st.remaining && leb st.remaining b)))
  in_window x y p q = ap₂ (λ (u v : Bool). bool.not u || (v || (leb 1 st.remaining && leb st.remaining b))) p q

  kept_is : from_minus_one st.culprit ≡ true → window_kept b st ≡ true → WellKept b (obligation_of st)
  kept_is c h = record {
    window = λ p q.
        let (x, y) = both_true (leb 1 st.remaining) (leb st.remaining b) (sym (in_window true false p q) ∙ h) in
        (leb-true _ _ x, leb-true _ _ y);
    culprit = from_minus_one_lem st.culprit c;
  }

  kept_back : WellKept b (obligation_of st) → window_kept b st ≡ true
  kept_back h = go st.held st.failed refl refl
    where
      go : (x y : Bool) → st.held ≡ x → st.failed ≡ y → window_kept b st ≡ true
      go false y p q = in_window false y p q
      go true true p q = in_window true true p q
      go true false p q =
          let w = h.window p q in
          in_window true false p q ∙ ap₂ ◌&&◌ (le-leb 1 st.remaining w.0) (le-leb st.remaining b w.1)

-- ---- one check's entry
record FittedCheck (c : Check) (form bound : ℕ) (e : MonState) : Type 0 where
  own : OwnNode (node_of c) form bound
  blameless : BlamelessEntry c e
  kept : CheckShaped c (read_check c e)

check_fitted : (c : Check) (form bound : ℕ) (e : MonState) → entry_fits (node_of c) form bound e ≡ true → FittedCheck c form bound e
unfolding CheckShaped
check_fitted (range_check p r) form bound e h =
    let (x, y) = both_true (eqb form 0) _ h in
    record { own = eqb-true form 0 x; blameless = minus_one_is e.culprit y; kept = tt }
check_fitted (delayed_check p q r) form bound e h =
    let (x, y) = both_true (eqb form 1) _ h in
    record { own = eqb-true form 1 x; blameless = minus_one_is e.culprit y; kept = tt }
check_fitted (obligation b p q r) form bound e h =
    let (x, k) = both_true (eqb form 2) _ h in
    let (y, l) = both_true (eqb bound b) _ k in
    let (u, v) = both_true (from_minus_one e.culprit) (window_kept b e) l in
    record { own = (eqb-true form 2 x, eqb-true bound b y); blameless = tt; kept = kept_is b e u v }

check_fits : (c : Check) (form bound : ℕ) (e : MonState) → FittedCheck c form bound e → entry_fits (node_of c) form bound e ≡ true
unfolding CheckShaped
check_fits (range_check p r) form bound e h = ap₂ ◌&&◌ (eq-eqb form 0 h.own) (ap is_minus_one h.blameless)
check_fits (delayed_check p q r) form bound e h = ap₂ ◌&&◌ (eq-eqb form 1 h.own) (ap is_minus_one h.blameless)
check_fits (obligation b p q r) form bound e h =
    ap₂ ◌&&◌ (eq-eqb form 2 h.own.0) (ap₂ ◌&&◌ (eq-eqb bound b h.own.1) (ap₂ ◌&&◌ (from_back e.culprit h.kept.culprit) (kept_back b e h.kept)))

-- ---- a tree's entries
module _ (forms bounds : List ℕ) (mem : Memory) where
  pub fits_fitted : (m : Mon) (i : ℕ) → fits_mon m forms bounds mem i ≡ true → Fitted m forms bounds mem i
  unfolding fits_mon OwnForms Blameless WellShaped read_mon
  fits_fitted (check c) i h =
      let x = check_fitted c (get_or forms i 0) (get_or bounds i 0) (get mem i) h in
      record { own = x.own; blameless = x.blameless; kept = x.kept }
  fits_fitted (And m n) i h =
      let (x, y) = both_true (entry_fits AndNode (get_or forms i 0) (get_or bounds i 0) (get mem i)) _ h in
      let (p, q) = both_true (fits_mon m forms bounds mem (i + 1)) _ y in
      let (f, c) = both_true (eqb (get_or forms i 0) 3) _ x in
      let l = fits_fitted m (i + 1) p in
      let r = fits_fitted n (i + 1 + count m) q in
      record { own = (eqb-true _ _ f, l.own, r.own); blameless = (l.blameless, r.blameless); kept = (l.kept, r.kept, from_minus_one_lem (get mem i).culprit c) }
  fits_fitted (Or m n) i h =
      let (x, y) = both_true (entry_fits OrNode (get_or forms i 0) (get_or bounds i 0) (get mem i)) _ h in
      let (p, q) = both_true (fits_mon m forms bounds mem (i + 1)) _ y in
      let (f, c) = both_true (eqb (get_or forms i 0) 4) _ x in
      let l = fits_fitted m (i + 1) p in
      let r = fits_fitted n (i + 1 + count m) q in
      record { own = (eqb-true _ _ f, l.own, r.own); blameless = (l.blameless, r.blameless); kept = (l.kept, r.kept, from_minus_one_lem (get mem i).culprit c) }

  pub fitted_fits : (m : Mon) (i : ℕ) → Fitted m forms bounds mem i → fits_mon m forms bounds mem i ≡ true
  unfolding fits_mon OwnForms Blameless WellShaped read_mon
  fitted_fits (check c) i h = check_fits c (get_or forms i 0) (get_or bounds i 0) (get mem i) (record { own = h.own; blameless = h.blameless; kept = h.kept })
  fitted_fits (And m n) i h =
      ap₂ ◌&&◌ (ap₂ ◌&&◌ (eq-eqb (get_or forms i 0) 3 h.own.0) (from_back (get mem i).culprit h.kept.2))
      (ap₂ ◌&&◌ (fitted_fits m (i + 1) (record { own = h.own.1; blameless = h.blameless.0; kept = h.kept.0 }))
      (fitted_fits n (i + 1 + count m) (record { own = h.own.2; blameless = h.blameless.1; kept = h.kept.1 })))
  fitted_fits (Or m n) i h =
      ap₂ ◌&&◌ (ap₂ ◌&&◌ (eq-eqb (get_or forms i 0) 4 h.own.0) (from_back (get mem i).culprit h.kept.2))
      (ap₂ ◌&&◌ (fitted_fits m (i + 1) (record { own = h.own.1; blameless = h.blameless.0; kept = h.kept.0 }))
      (fitted_fits n (i + 1 + count m) (record { own = h.own.2; blameless = h.blameless.1; kept = h.kept.1 })))

  pub fits_iff : (m : Mon) (i : ℕ) → (fits_mon m forms bounds mem i ≡ true) ↔ Fitted m forms bounds mem i
  fits_iff m i = (fits_fitted m i, fitted_fits m i)

  -- what the walk asks for
  pub fits_shaped : (m : Mon) (i : ℕ) → fits_mon m forms bounds mem i ≡ true → ShapedAt m mem i
  fits_shaped m i h = let x = fits_fitted m i h in record { blameless = x.blameless; kept = x.kept }

-- ---- a whole monitor
module _ (m : Mon) (k : LentMonitor) where
  pub fits_inv : fits m k ≡ true → (k.size ≡ count m) × Fitted m k.forms k.bounds k.memory 0
  fits_inv h =
      let (x, y) = both_true (eqb k.size (count m)) (fits_mon m k.forms k.bounds k.memory 0) h in
      (eqb-true _ _ x, fits_fitted k.forms k.bounds k.memory m 0 y)

  pub fits_by : k.size ≡ count m → Fitted m k.forms k.bounds k.memory 0 → fits m k ≡ true
  fits_by e h = ap₂ ◌&&◌ (eq-eqb k.size (count m) e) (fitted_fits k.forms k.bounds k.memory m 0 h)

  pub monitor_fits_iff : (fits m k ≡ true) ↔ ((k.size ≡ count m) × Fitted m k.forms k.bounds k.memory 0)
  monitor_fits_iff = (fits_inv, λ (e, h). fits_by e h)
