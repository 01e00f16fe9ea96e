-- Two states of a rule that are alike in all that has bits, and in the marks of obligations and delayed checks.
--     step_alike     alike states answer a step alike, and are alike again
--     Like           two rules of the same forms, whose obligations have the same bounds: one monitor's entries fit both or none
use mathlib.Core.Path.{◌≡◌, refl, sym, ap, ap₂, subst, ◌∙◌}
use mathlib.Core.Bool.{Bool, true, false, ◌&&◌, ◌||◌, cond}
use mathlib.Core.Bool as bool
use mathlib.Core.List.{List, [], ◌∷◌, ◌++◌}
use mathlib.Core.Logic.{⊎_elim}
use Prim.Native.Nat.{ℕ, zero, suc, ◌+◌, ◌-◌}
use native.Mathlib.Omega.{arith}
use lib.Dec.{eqb}
use Rattle.formula.proofs.Cases.{true_or, true_false}
use Rattle.monitor.specs.declared.range.AnchorRange.{AnchorRange}
use Rattle.monitor.specs.Range.{contains_of}
use Rattle.monitor.specs.Mon.{Signal, Check, range_check, delayed_check, obligation, Mon, check, And, Or, count}
use Rattle.plan.specs.Width.{width}
use Rattle.meaning.specs.Alarm.{truth}
use Rattle.meaning.specs.State.{DelayedState, ObligationState, CheckState, State, WellShaped, CheckShaped, failed, obligation_step, check_step, joined_step, step, newly_failed}
use Rattle.meaning.proofs.Windows.{obligation_failed, obligation_open_body, obligation_open_without, obligation_idle, obligation_opens_body, obligation_opens, obligation_zero_fails, obligation_zero_body, obligation_zero_idle}
use Rattle.meaning.proofs.Steps.{step_marks}
use Rattle.node_step.specs.Memory.{Memory}
use Rattle.stepping.specs.Walk.{read_mon, Blameless}
use Rattle.lent.specs.Lent.{LentMonitor, fits}
use Rattle.stepping.specs.Fitted.{OwnForms}
use Rattle.stepping.proofs.Fitting.{fits_inv, fits_by}
use Rattle.bits.specs.Bits.{digits}
use Rattle.kept.specs.Kept.{window_written, keeps, state_bits_of, spent_from}
use Rattle.saving_laws.proofs.Keeps.{state_parts, spent_parts}

-- ---- alike states
pub record AlikeWindow (o o' : ObligationState) : Type 0 where
  pub pending : o.pending ≡ o'.pending
  pub failed : o.failed ≡ o'.failed
  pub remaining : o.pending ≡ true → o.remaining ≡ o'.remaining

pub record AlikeDelayed (d d' : DelayedState) : Type 0 where
  pub remembered : d.prev_antecedent ≡ d'.prev_antecedent
  pub failed : d.failed ≡ d'.failed

abbrev pub AlikeCheck : (c : Check) → CheckState c → CheckState c → Type 0
AlikeCheck (range_check p r) st st' = Unit {0}
AlikeCheck (delayed_check p q r) st st' = AlikeDelayed st st'
AlikeCheck (obligation b p q r) st st' = AlikeWindow st st'

unfoldable pub Alike : (m : Mon) → State m → State m → Type 0
Alike (check c) st st' = AlikeCheck c st st'
Alike (And m n) st st' = Alike m st.left st'.left × Alike n st.right st'.right
Alike (Or m n) st st' = Alike m st.left st'.left × Alike n st.right st'.right

-- ---- one step
module _ (s : ℕ) (due body : Bool) (o o' : ObligationState) (a : AlikeWindow o o') where
  by : {x y x' y' : ObligationState} → x ≡ x' → y ≡ y' → AlikeWindow x' y' → AlikeWindow x y
  by {x} {y} {x'} {y'} p q w = subst (λ (z : ObligationState). AlikeWindow z y) (sym p) (subst (λ (z : ObligationState). AlikeWindow x' z) (sym q) w)

  still : o.failed ≡ false → o'.failed ≡ false
  still f = sym a.failed ∙ f

  window_zero : o.failed ≡ false → AlikeWindow (obligation_step zero s due body o) (obligation_step zero s due body o')
  window_zero f = ⊎_elim
      (λ d. ⊎_elim
      (λ q. by (obligation_zero_body s due body o f d q) (obligation_zero_body s due body o' (still f) d q) a)
      (λ q. by (obligation_zero_fails s due body o f d q) (obligation_zero_fails s due body o' (still f) d q)
      (record { pending = a.pending; failed = refl; remaining = a.remaining }))
      (true_or body))
      (λ d. by (obligation_zero_idle s due body o f d) (obligation_zero_idle s due body o' (still f) d) a)
      (true_or due)

  window_open : (b : ℕ) → o.failed ≡ false → o.pending ≡ true → AlikeWindow (obligation_step (suc b) s due body o) (obligation_step (suc b) s due body o')
  window_open b f p =
      let p' : o'.pending ≡ true = sym a.pending ∙ p in
      ⊎_elim
      (λ q. by (obligation_open_body b s due body o f p q) (obligation_open_body b s due body o' (still f) p' q)
      (record { pending = refl; failed = a.failed; remaining = λ z. true_false z refl }))
      (λ q. by (obligation_open_without b s due body o f p q) (obligation_open_without b s due body o' (still f) p' q)
      (record { pending = refl; failed = ap (λ (n : ℕ). eqb (n - 1) 0) (a.remaining p); remaining = λ z. ap (λ (n : ℕ). n - 1) (a.remaining p) }))
      (true_or body)

  window_shut : (b : ℕ) → o.failed ≡ false → o.pending ≡ false → AlikeWindow (obligation_step (suc b) s due body o) (obligation_step (suc b) s due body o')
  window_shut b f p =
      let p' : o'.pending ≡ false = sym a.pending ∙ p in
      ⊎_elim
      (λ d. ⊎_elim
      (λ q. by (obligation_opens_body b s due body o f p d q) (obligation_opens_body b s due body o' (still f) p' d q)
      (record { pending = refl; failed = a.failed; remaining = λ z. refl }))
      (λ q. by (obligation_opens b s due body o f p d q) (obligation_opens b s due body o' (still f) p' d q)
      (record { pending = refl; failed = refl; remaining = λ z. refl }))
      (true_or body))
      (λ d. by (obligation_idle b s due body o f p d) (obligation_idle b s due body o' (still f) p' d) a)
      (true_or due)

  window_unfailed : (b : ℕ) → o.failed ≡ false → AlikeWindow (obligation_step b s due body o) (obligation_step b s due body o')
  window_unfailed zero f = window_zero f
  window_unfailed (suc b) f = ⊎_elim (window_open b f) (window_shut b f) (true_or o.pending)

  pub window_alike : (b : ℕ) → AlikeWindow (obligation_step b s due body o) (obligation_step b s due body o')
  window_alike b = ⊎_elim
      (λ f. by (obligation_failed b s due body o f) (obligation_failed b s due body o' (sym a.failed ∙ f)) a)
      (window_unfailed b)
      (true_or o.failed)

pub record StepAlike (m : Mon) (st st' : State m) (s w : ℕ) : Type 0 where
  pub now : (step m st s w).now ≡ (step m st' s w).now
  pub again : Alike m (step m st s w).state (step m st' s w).state

pub step_alike : (m : Mon) (st st' : State m) (s w : ℕ) → Alike m st st' → StepAlike m st st' s w
unfolding Alike step check_step joined_step
step_alike (check (range_check p r)) st st' s w a = record { now = refl; again = tt }
step_alike (check (delayed_check p q r)) st st' s w a =
    let now : Bool → Bool → Bool = λ f m. f || (contains_of r s && (m && bool.not (truth q w))) in
    let e : now st.failed st.prev_antecedent ≡ now st'.failed st'.prev_antecedent = ap₂ now a.failed a.remembered in
    record { now = e; again = record { remembered = refl; failed = e } }
step_alike (check (obligation b p q r)) st st' s w a =
    let x = window_alike s (contains_of r s && truth p w) (truth q w) st st' a b in
    record { now = x.failed; again = x }
step_alike (And m n) st st' s w a =
    let l = step_alike m st.left st'.left s w a.0 in
    let r = step_alike n st.right st'.right s w a.1 in
    record { now = ap₂ ◌||◌ l.now r.now; again = (l.again, r.again) }
step_alike (Or m n) st st' s w a =
    let l = step_alike m st.left st'.left s w a.0 in
    let r = step_alike n st.right st'.right s w a.1 in
    record { now = ap₂ ◌&&◌ l.now r.now; again = (l.again, r.again) }

module _ (m : Mon) (st st' : State m) (s w : ℕ) (a : Alike m st st') (e : failed m st ≡ failed m st') where
  -- with the root marked alike, the mark after the step and the report
  pub marks_alike : failed m (step m st s w).state ≡ failed m (step m st' s w).state
  marks_alike = step_marks m st s w ∙ ap₂ ◌||◌ e (step_alike m st st' s w a).now ∙ sym (step_marks m st' s w)

  pub reports_alike : newly_failed m st s w ≡ newly_failed m st' s w
  reports_alike = ap₂ (λ (x y : Bool). x && bool.not y) marks_alike e

-- ---- the bits of alike states
pending_alike : (h h' : Bool) (r r' : ℕ) → h ≡ h' → (h ≡ true → r ≡ r') → cond h r 0 ≡ cond h' r' 0
pending_alike true h' r r' e q = q refl ∙ ap (λ (x : Bool). cond x r' 0) e
pending_alike false h' r r' e q = ap (λ (x : Bool). cond x r' 0) e

window_bits : (b : ℕ) (h h' : Bool) (r r' : ℕ) → h ≡ h' → (h ≡ true → r ≡ r') → window_written b h r ≡ window_written b h' r'
window_bits zero h h' r r' e q = refl
window_bits (suc b) h h' r r' e q = λ i. e i ∷ digits (width (suc b)) (pending_alike h h' r r' e q i)

module _ (a b : Memory) where
  pub bits_alike : (m : Mon) (i : ℕ) → Alike m (read_mon m a i) (read_mon m b i) → state_bits_of (keeps m) a.held a.remaining i ≡ state_bits_of (keeps m) b.held b.remaining i
  unfolding Alike read_mon keeps state_bits_of
  bits_alike (check (range_check p r)) i x = refl
  bits_alike (check (delayed_check p q r)) i x = ap (λ (h : Bool). h ∷ []) x.remembered
  bits_alike (check (obligation c p q r)) i x = ap (λ (w : List Bool). w ++ []) (window_bits c _ _ _ _ x.pending x.remaining)
  bits_alike (And m n) i x =
      state_parts a.held a.remaining m n i
      ∙ ap₂ ◌++◌ (bits_alike m (i + 1) x.0) (bits_alike n (i + 1 + count m) x.1)
      ∙ sym (state_parts b.held b.remaining m n i)
  bits_alike (Or m n) i x =
      state_parts a.held a.remaining m n i
      ∙ ap₂ ◌++◌ (bits_alike m (i + 1) x.0) (bits_alike n (i + 1 + count m) x.1)
      ∙ sym (state_parts b.held b.remaining m n i)

  pub spent_alike : (m : Mon) (i : ℕ) → Alike m (read_mon m a i) (read_mon m b i) → spent_from (keeps m) a.failed i ≡ spent_from (keeps m) b.failed i
  unfolding Alike read_mon keeps spent_from
  spent_alike (check (range_check p r)) i x = refl
  spent_alike (check (delayed_check p q r)) i x = ap (λ (h : Bool). h || false) x.failed
  spent_alike (check (obligation c p q r)) i x = ap (λ (h : Bool). h || false) x.failed
  spent_alike (And m n) i x =
      spent_parts a.failed m n i
      ∙ ap₂ ◌||◌ (spent_alike m (i + 1) x.0) (spent_alike n (i + 1 + count m) x.1)
      ∙ sym (spent_parts b.failed m n i)
  spent_alike (Or m n) i x =
      spent_parts a.failed m n i
      ∙ ap₂ ◌||◌ (spent_alike m (i + 1) x.0) (spent_alike n (i + 1 + count m) x.1)
      ∙ sym (spent_parts b.failed m n i)

-- ---- rules of the same forms and bounds
pub data Like : Mon → Mon → Type 0 where
  like_range : (p p' : Signal) (r r' : AnchorRange) → Like (check (range_check p r)) (check (range_check p' r'))
  like_delayed : (p q p' q' : Signal) (r r' : AnchorRange) → Like (check (delayed_check p q r)) (check (delayed_check p' q' r'))
  like_owed : (b : ℕ) (p q p' q' : Signal) (r r' : AnchorRange) → Like (check (obligation b p q r)) (check (obligation b p' q' r'))
  like_and : {m n m' n' : Mon} → Like m m' → Like n n' → Like (And m n) (And m' n')
  like_or : {m n m' n' : Mon} → Like m m' → Like n n' → Like (Or m n) (Or m' n')

like_count : {m m' : Mon} → Like m m' → count m ≡ count m'
unfolding count
like_count (like_range p p' r r') = refl
like_count (like_delayed p q p' q' r r') = refl
like_count (like_owed b p q p' q' r r') = refl
like_count (like_and l r) = ap₂ (λ (x y : ℕ). 1 + x + y) (like_count l) (like_count r)
like_count (like_or l r) = ap₂ (λ (x y : ℕ). 1 + x + y) (like_count l) (like_count r)

-- the forms of a monitor determine its rule's
module _ (forms bounds : List ℕ) where
  own_like : (m m' : Mon) (i : ℕ) → OwnForms m forms bounds i → OwnForms m' forms bounds i → Like m m'
  unfolding OwnForms count
  own_like (check (range_check p r)) (check (range_check p' r')) i a b = like_range p p' r r'
  own_like (check (delayed_check p q r)) (check (delayed_check p' q' r')) i a b = like_delayed p q p' q' r r'
  own_like (check (obligation c p q r)) (check (obligation c' p' q' r')) i a b =
      subst (λ (x : ℕ). Like (check (obligation c p q r)) (check (obligation x p' q' r'))) (sym a.1 ∙ b.1) (like_owed c p q p' q' r r')
  own_like (And m n) (And m' n') i a b =
      let l = own_like m m' (i + 1) a.1 b.1 in
      like_and l (own_like n n' (i + 1 + count m) a.2 (subst (λ (x : ℕ). OwnForms n' forms bounds (i + 1 + x)) (sym (like_count l)) b.2))
  own_like (Or m n) (Or m' n') i a b =
      let l = own_like m m' (i + 1) a.1 b.1 in
      like_or l (own_like n n' (i + 1 + count m) a.2 (subst (λ (x : ℕ). OwnForms n' forms bounds (i + 1 + x)) (sym (like_count l)) b.2))
  own_like (check (range_check p r)) (check (delayed_check p' q' r')) i a b = absurd (omega (arith, a, b))
  own_like (check (range_check p r)) (check (obligation c' p' q' r')) i a b = absurd (omega (arith, a, b.0))
  own_like (check (delayed_check p q r)) (check (range_check p' r')) i a b = absurd (omega (arith, a, b))
  own_like (check (delayed_check p q r)) (check (obligation c' p' q' r')) i a b = absurd (omega (arith, a, b.0))
  own_like (check (obligation c p q r)) (check (range_check p' r')) i a b = absurd (omega (arith, a.0, b))
  own_like (check (obligation c p q r)) (check (delayed_check p' q' r')) i a b = absurd (omega (arith, a.0, b))
  own_like (check (range_check p r)) (And m' n') i a b = absurd (omega (arith, a, b.0))
  own_like (check (delayed_check p q r)) (And m' n') i a b = absurd (omega (arith, a, b.0))
  own_like (check (obligation c p q r)) (And m' n') i a b = absurd (omega (arith, a.0, b.0))
  own_like (check (range_check p r)) (Or m' n') i a b = absurd (omega (arith, a, b.0))
  own_like (check (delayed_check p q r)) (Or m' n') i a b = absurd (omega (arith, a, b.0))
  own_like (check (obligation c p q r)) (Or m' n') i a b = absurd (omega (arith, a.0, b.0))
  own_like (And m n) (check (range_check p' r')) i a b = absurd (omega (arith, a.0, b))
  own_like (And m n) (check (delayed_check p' q' r')) i a b = absurd (omega (arith, a.0, b))
  own_like (And m n) (check (obligation c' p' q' r')) i a b = absurd (omega (arith, a.0, b.0))
  own_like (Or m n) (check (range_check p' r')) i a b = absurd (omega (arith, a.0, b))
  own_like (Or m n) (check (delayed_check p' q' r')) i a b = absurd (omega (arith, a.0, b))
  own_like (Or m n) (check (obligation c' p' q' r')) i a b = absurd (omega (arith, a.0, b.0))
  own_like (And m n) (Or m' n') i a b = absurd (omega (arith, a.0, b.0))
  own_like (Or m n) (And m' n') i a b = absurd (omega (arith, a.0, b.0))

-- what one rule's monitor has, a like rule's has
own_over : {m m' : Mon} → Like m m' → (forms bounds : List ℕ) (i : ℕ) → OwnForms m forms bounds i → OwnForms m' forms bounds i
unfolding OwnForms
own_over (like_range p p' r r') forms bounds i a = a
own_over (like_delayed p q p' q' r r') forms bounds i a = a
own_over (like_owed b p q p' q' r r') forms bounds i a = a
own_over (like_and {n' = n'} l r) forms bounds i a =
    (a.0, own_over l forms bounds (i + 1) a.1, subst (λ (x : ℕ). OwnForms n' forms bounds (i + 1 + x)) (like_count l) (own_over r forms bounds _ a.2))
own_over (like_or {n' = n'} l r) forms bounds i a =
    (a.0, own_over l forms bounds (i + 1) a.1, subst (λ (x : ℕ). OwnForms n' forms bounds (i + 1 + x)) (like_count l) (own_over r forms bounds _ a.2))

blameless_over : {m m' : Mon} → Like m m' → (mem : Memory) (i : ℕ) → Blameless m mem i → Blameless m' mem i
unfolding Blameless
blameless_over (like_range p p' r r') mem i a = a
blameless_over (like_delayed p q p' q' r r') mem i a = a
blameless_over (like_owed b p q p' q' r r') mem i a = a
blameless_over (like_and {n' = n'} l r) mem i a =
    (blameless_over l mem (i + 1) a.0, subst (λ (x : ℕ). Blameless n' mem (i + 1 + x)) (like_count l) (blameless_over r mem _ a.1))
blameless_over (like_or {n' = n'} l r) mem i a =
    (blameless_over l mem (i + 1) a.0, subst (λ (x : ℕ). Blameless n' mem (i + 1 + x)) (like_count l) (blameless_over r mem _ a.1))

shaped_over : {m m' : Mon} → Like m m' → (mem : Memory) (i : ℕ) → WellShaped m (read_mon m mem i) → WellShaped m' (read_mon m' mem i)
unfolding WellShaped CheckShaped read_mon
shaped_over (like_range p p' r r') mem i a = a
shaped_over (like_delayed p q p' q' r r') mem i a = a
shaped_over (like_owed b p q p' q' r r') mem i a = a
shaped_over (like_and {n' = n'} l r) mem i a =
    (shaped_over l mem (i + 1) a.0, subst (λ (x : ℕ). WellShaped n' (read_mon n' mem (i + 1 + x))) (like_count l) (shaped_over r mem _ a.1), a.2)
shaped_over (like_or {n' = n'} l r) mem i a =
    (shaped_over l mem (i + 1) a.0, subst (λ (x : ℕ). WellShaped n' (read_mon n' mem (i + 1 + x))) (like_count l) (shaped_over r mem _ a.1), a.2)

pub alike_over : {m m' : Mon} → Like m m' → (a b : Memory) (i : ℕ) → Alike m (read_mon m a i) (read_mon m b i) → Alike m' (read_mon m' a i) (read_mon m' b i)
unfolding Alike read_mon
alike_over (like_range p p' r r') a b i x = x
alike_over (like_delayed p q p' q' r r') a b i x = x
alike_over (like_owed c p q p' q' r r') a b i x = x
alike_over (like_and {n' = n'} l r) a b i x =
    (alike_over l a b (i + 1) x.0, subst (λ (y : ℕ). Alike n' (read_mon n' a (i + 1 + y)) (read_mon n' b (i + 1 + y))) (like_count l) (alike_over r a b _ x.1))
alike_over (like_or {n' = n'} l r) a b i x =
    (alike_over l a b (i + 1) x.0, subst (λ (y : ℕ). Alike n' (read_mon n' a (i + 1 + y)) (read_mon n' b (i + 1 + y))) (like_count l) (alike_over r a b _ x.1))

-- two monitors that fit one rule fit the same rules
pub fits_like : (m m' : Mon) (k : LentMonitor) → fits m k ≡ true → fits m' k ≡ true → Like m m'
fits_like m m' k f g = own_like k.forms k.bounds m m' 0 (fits_inv m k f).1.own (fits_inv m' k g).1.own

pub fits_over : (m m' : Mon) (k : LentMonitor) → Like m m' → fits m k ≡ true → fits m' k ≡ true
fits_over m m' k l f =
    let (e, h) = fits_inv m k f in
    fits_by m' k (e ∙ like_count l) (record {
      own = own_over l k.forms k.bounds 0 h.own;
      blameless = blameless_over l k.memory 0 h.blameless;
      kept = shaped_over l k.memory 0 h.kept;
    })
