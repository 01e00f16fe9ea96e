-- One step of a check on its entry in the memory, for each way through the code.
use mathlib.Core.Path.{◌≡◌, refl, sym, ap, ap₂, subst, ◌∙◌}
use mathlib.Core.Bool.{Bool, true, false, ◌&&◌, ◌||◌}
use mathlib.Core.Bool as bool
use mathlib.Core.List.{List}
use Prim.Native.Nat.{ℕ, zero, suc, ◌+◌, ◌≤◌}
use native.Mathlib.Omega.{arith}
use native.Mathlib.Nat.{pos_of_ne-zero}
use lib.IntN.{pos}
use lib.ListN.{set}
use lib.Seq.{set-get_or, set-set}
use Rattle.terms.specs.Choice.{pick}
use Rattle.formula.specs.Signal.{Signalled, Valued}
use Rattle.formula.specs.declared.signal.Value.{Value}
use Rattle.formula.specs.Formula.{Formula}
use Rattle.monitor.specs.declared.range.AnchorRange.{AnchorRange}
use Rattle.monitor.specs.declared.node.SignalExpr.{SignalExpr}
use Rattle.monitor.specs.declared.node.SignalExpr.TheVariants.{True, At}
use Rattle.monitor.specs.declared.node.MonNode.TheVariants.{RangeCheck, DelayedCheck, Obligation}
use Rattle.monitor.specs.Range.{contains_of}
use Rattle.monitor.specs.Mon.{Signal, always_true, at, Check, range_check, delayed_check, obligation, expr_of, node_of}
use Rattle.meaning.specs.Alarm.{truth}
use Rattle.meaning.specs.State.{ObligationState, CheckShaped, WellKept, check_step, opened, ticked, at_once, unfailed_step, obligation_step}
use Rattle.node_step.specs.declared.state.MonState.{MonState}
use Rattle.node_step.specs.Memory.{Memory, get, put, Inside, entries}
use Rattle.node_step.specs.Check.{obligation_of, entry_of, read_check, write_check, Grounded, Named, SignalSays, GroundedCheck, Steppable, Checkable, CheckStepped, DelayedNow, Opened, Tickable, Ticked, DoneAtOnce}
use Rattle.node_step.proofs.Entries.{get_put_same, inside_put, put_get}

-- ---- signals
at_place : {p q : ℕ} → At p ≡ At q → p ≡ q
at_place e = cc

true_at : {p : ℕ} {B : Type 0} → True ≡ At p → B
true_at e = let z : ◌≡◌ {A = ℕ} 0 1 = cc in absurd (omega arith)

module _ (ops nums : List ℕ) (e : SignalExpr) (w : ℕ) where
  pub says_true : e ≡ True → SignalSays ops nums e w true
  unfolding truth
  says_true q = record { is = go }
    where
      go : (x : Signal) → expr_of x ≡ e → Grounded ops nums x → true ≡ truth x w
      go always_true h g = refl
      go (at p f) h g = true_at (sym (h ∙ q))

  signalled : (x : Signal) (p : ℕ) → expr_of x ≡ At p → Grounded ops nums x → (f : Formula) × (x ≡ at p f) × Signalled ops nums p
  signalled always_true p h g = true_at h
  signalled (at q f) p h g =
      let k : q ≡ p = at_place h in
      (f, ap (λ (n : ℕ). at n f) k, subst (Signalled ops nums) k (record { place = record { formula = f; spells = g.spells; in_ops = g.in_ops; in_nums = g.in_nums }; is_pure = g.is_pure; word_fits = g.word_fits }))

  pub signal_here : (p : ℕ) → Named ops nums e → e ≡ At p → Signalled ops nums p
  signal_here p n q = (signalled n.signal p (n.is ∙ q) n.stands).2

  pub says_value : (p : ℕ) (v : Value) → e ≡ At p → Valued ops nums p w v → SignalSays ops nums e w v.value
  unfolding truth
  says_value p v q k = record { is = go }
    where
      go : (x : Signal) → expr_of x ≡ e → Grounded ops nums x → v.value ≡ truth x w
      go always_true h g = true_at (h ∙ q)
      go (at o f) h g =
          let m : o ≡ p = at_place (h ∙ q) in
          (k.is f (subst (λ (n : ℕ). Rattle.formula.specs.Spells.Spells (Rattle.formula.specs.Table.node_at ops nums) n f) m g.spells)).0

-- ---- what a check's signals are named by
module _ (ops nums : List ℕ) (st : MonState) (s : ℕ) where
  module _ (b : ℕ) (e e' : SignalExpr) (r : AnchorRange) (d : Steppable ops nums (Obligation b e e' r) st s) where
    owed_names : Named ops nums e × Named ops nums e' × WellKept b (obligation_of st)
    unfolding CheckShaped
    owed_names = go d.check d.is d.stands d.shaped
      where
        go : (c : Check) → node_of c ≡ Obligation b e e' r → GroundedCheck ops nums c → CheckShaped c (read_check c st) → Named ops nums e × Named ops nums e' × WellKept b (obligation_of st)
        go (range_check p q) h g k = let z : ◌≡◌ {A = ℕ} 0 1 = cc in absurd (omega arith)
        go (delayed_check p p' q) h g k = let z : ◌≡◌ {A = ℕ} 0 1 = cc in absurd (omega arith)
        go (obligation b' p p' q) h g k = (record { signal = p; is = (cc); stands = g.0 }, record { signal = p'; is = (cc); stands = g.1 }, subst (λ (n : ℕ). WellKept n (obligation_of st)) (cc) k)

    pub trigger_named : Named ops nums e
    trigger_named = owed_names.0

    pub body_named : Named ops nums e'
    body_named = owed_names.1

    pub owed_kept : WellKept b (obligation_of st)
    owed_kept = owed_names.2

-- ---- the steps
or_false : (b : Bool) → (b || false) ≡ b
or_false true = refl
or_false false = refl

or_true : (b : Bool) → (b || true) ≡ true
or_true true = refl
or_true false = refl

-- a column that keeps its entry
module _ (mem : Memory) (k : ℕ) where
  held_kept : (b : Bool) → (get mem k).held ≡ b → mem.held ≡ set mem.held k b
  held_kept b h = sym (set-get_or mem.held k false) ∙ ap (set mem.held k) h

  failed_kept : (b : Bool) → (get mem k).failed ≡ b → mem.failed ≡ set mem.failed k b
  failed_kept b h = sym (set-get_or mem.failed k false) ∙ ap (set mem.failed k) h

  remaining_kept : mem.remaining ≡ set mem.remaining k (get mem k).remaining
  remaining_kept = sym (set-get_or mem.remaining k 0)

  culprits_kept : mem.culprits ≡ set mem.culprits k (get mem k).culprit
  culprits_kept = sym (set-get_or mem.culprits k (pos 0))

module _ (ops nums : List ℕ) (mem : Memory) (k s w : ℕ) where
  -- ---- a range check
  module _ (e : SignalExpr) (r : AnchorRange) where
    abbrev range_now : Signal → Bool
    range_now x = contains_of r s && bool.not (truth x w)

    -- from its one truth value
    range_by : (mem' : Memory) (now : Bool) → ((x : Signal) → expr_of x ≡ e → Grounded ops nums x → (mem' ≡ put mem k (record { held = (get mem k).held; remaining = (get mem k).remaining; failed = (get mem k).failed || range_now x; culprit = (get mem k).culprit })) × (now ≡ range_now x)) → CheckStepped ops nums (RangeCheck e r) mem k s w mem' now
    unfolding check_step
    range_by mem' now f = record { is = go }
      where
        range_eq : {a b : SignalExpr} {x y : AnchorRange} → RangeCheck a x ≡ RangeCheck b y → x ≡ y
        range_eq h = cc

        expr_eq : {a b : SignalExpr} {x y : AnchorRange} → RangeCheck a x ≡ RangeCheck b y → a ≡ b
        expr_eq h = cc

        go : (c : Check) → node_of c ≡ RangeCheck e r → GroundedCheck ops nums c → (mem' ≡ put mem k (write_check c (check_step c (read_check c (get mem k)) s w).state (get mem k))) × (now ≡ (check_step c (read_check c (get mem k)) s w).now)
        go (range_check p q) h g =
            subst (λ (y : AnchorRange). (mem' ≡ put mem k (write_check (range_check p y) (check_step (range_check p y) (read_check (range_check p y) (get mem k)) s w).state (get mem k))) × (now ≡ (check_step (range_check p y) (read_check (range_check p y) (get mem k)) s w).now)) (sym (range_eq h)) (f p (expr_eq h) g)
        go (delayed_check p p' q) h g = let z : ◌≡◌ {A = ℕ} 0 1 = cc in absurd (omega arith)
        go (obligation b p p' q) h g = let z : ◌≡◌ {A = ℕ} 0 1 = cc in absurd (omega arith)

    -- not failing now: the entry stays
    quiet : ((x : Signal) → expr_of x ≡ e → Grounded ops nums x → range_now x ≡ false) → CheckStepped ops nums (RangeCheck e r) mem k s w mem false
    quiet f = range_by mem false λ x u g. (
      λ i. record {
        held = held_kept mem k _ refl i;
        remaining = remaining_kept mem k i;
        failed = failed_kept mem k _ (sym (ap (λ (b : Bool). (get mem k).failed || b) (f x u g) ∙ or_false (get mem k).failed)) i;
        culprits = culprits_kept mem k i;
      },
      sym (f x u g),
    )

    pub range_out : (b : Bool) → b ≡ contains_of r s → b ≡ false → CheckStepped ops nums (RangeCheck e r) mem k s w mem false
    range_out b h q = quiet (λ x u g. ap (λ (y : Bool). y && bool.not (truth x w)) (sym h ∙ q))

    module _ (b t : Bool) (h : b ≡ contains_of r s) (q : b ≡ true) (v : SignalSays ops nums e w t) where
      by : (x : Signal) → expr_of x ≡ e → Grounded ops nums x → range_now x ≡ bool.not t
      by x u g = ap (λ (y : Bool). y && bool.not (truth x w)) (sym h ∙ q) ∙ ap bool.not (sym (v.is x u g))

      pub range_holds : t ≡ true → CheckStepped ops nums (RangeCheck e r) mem k s w mem false
      range_holds z = quiet (λ x u g. by x u g ∙ ap bool.not z)

      pub range_fails : t ≡ false → CheckStepped ops nums (RangeCheck e r) mem k s w (entries mem.held mem.remaining (set mem.failed k true) mem.culprits) true
      range_fails z = range_by _ true λ x u g.
          let n : range_now x ≡ true = by x u g ∙ ap bool.not z in (
            λ i. record {
              held = held_kept mem k _ refl i;
              remaining = remaining_kept mem k i;
              failed = set mem.failed k (sym (ap (λ (c : Bool). (get mem k).failed || c) n ∙ or_true (get mem k).failed) i);
              culprits = culprits_kept mem k i;
            },
            sym n,
          )

  -- ---- a delayed check
  pub delayed_steps : (e e' : SignalExpr) (r : AnchorRange) (st : MonState) (n t : Bool) → st ≡ get mem k → DelayedNow ops nums e' r st s w n
      → SignalSays ops nums e w t
      → CheckStepped ops nums (DelayedCheck e e' r) mem k s w (entries (set mem.held k t) mem.remaining (set mem.failed k n) mem.culprits) n
  unfolding check_step
  delayed_steps e e' r st n t l f v = record { is = go }
    where
      range_eq : {a b a' b' : SignalExpr} {x y : AnchorRange} → DelayedCheck a a' x ≡ DelayedCheck b b' y → x ≡ y
      range_eq h = cc

      first_eq : {a b a' b' : SignalExpr} {x y : AnchorRange} → DelayedCheck a a' x ≡ DelayedCheck b b' y → a ≡ b
      first_eq h = cc

      second_eq : {a b a' b' : SignalExpr} {x y : AnchorRange} → DelayedCheck a a' x ≡ DelayedCheck b b' y → a' ≡ b'
      second_eq h = cc

      go : (c : Check) → node_of c ≡ DelayedCheck e e' r → GroundedCheck ops nums c → (◌≡◌ {A = Memory} (entries (set mem.held k t) mem.remaining (set mem.failed k n) mem.culprits) (put mem k (write_check c (check_step c (read_check c (get mem k)) s w).state (get mem k)))) × (n ≡ (check_step c (read_check c (get mem k)) s w).now)
      go (range_check p q) h g = let z : ◌≡◌ {A = ℕ} 0 1 = cc in absurd (omega arith)
      go (delayed_check p p' q) h g =
          let m : n ≡ ((get mem k).failed || (contains_of q s && ((get mem k).held && bool.not (truth p' w)))) =
          f.is p' (second_eq h) g.1
          ∙ ap (λ (y : MonState). y.failed || (contains_of r s && (y.held && bool.not (truth p' w)))) l
          ∙ ap (λ (y : AnchorRange). (get mem k).failed || (contains_of y s && ((get mem k).held && bool.not (truth p' w)))) (sym (range_eq h)) in
          (λ i. record { held = set mem.held k (v.is p (first_eq h) g.0 i); remaining = remaining_kept mem k i; failed = set mem.failed k (m i); culprits = culprits_kept mem k i }, m)
      go (obligation b p p' q) h g = let z : ◌≡◌ {A = ℕ} 0 1 = cc in absurd (omega arith)

-- ---- an obligation
put_put : (mem : Memory) (k : ℕ) (x y : MonState) → put (put mem k x) k y ≡ put mem k y
put_put mem k x y = λ j. record {
  held = set-set mem.held k x.held y.held j;
  remaining = set-set mem.remaining k x.remaining y.remaining j;
  failed = set-set mem.failed k x.failed y.failed j;
  culprits = set-set mem.culprits k x.culprit y.culprit j;
}

opened_failed : (p d : Bool) (b s : ℕ) (o : ObligationState) → (opened p d b s o).failed ≡ o.failed
opened_failed true d b s o = refl
opened_failed false true b s o = refl
opened_failed false false b s o = refl

positive : (b s : ℕ) (due body : Bool) (o : ObligationState) → (b ≡ 0 → ⊥) → unfailed_step b s due body o ≡ (let p = opened o.pending due b s o in ticked p.pending body p)
unfolding unfailed_step
positive zero s due body o k = absurd (k refl)
positive (suc b) s due body o k = refl

at_zero : (b s : ℕ) (due body : Bool) (o : ObligationState) → b ≡ 0 → unfailed_step b s due body o ≡ at_once due body s o
unfolding unfailed_step
at_zero b s due body o e = ap (λ (n : ℕ). unfailed_step n s due body o) e

unfailed_step_lem : (b s : ℕ) (due body : Bool) (o : ObligationState) → o.failed ≡ false → obligation_step b s due body o ≡ unfailed_step b s due body o
unfolding obligation_step
unfailed_step_lem b s due body o f = ap (λ (x : Bool). pick x o (unfailed_step b s due body o)) f

remains : (b s : ℕ) (o : ObligationState) → WellKept b o → o.failed ≡ false → (b ≡ 0 → ⊥) → (p d : Bool) → o.pending ≡ p → (opened p d b s o).pending ≡ true → 1 ≤ (opened p d b s o).remaining
remains b s o k f n true d e q = (k.window e f).0
remains b s o k f n false true e q = pos_of_ne-zero n
remains b s o k f n false false e q = let z : ◌≡◌ {A = Bool} true false = sym q ∙ e in let z' : ◌≡◌ {A = ℕ} 0 1 = cc in absurd (omega arith)

module _ (ops nums : List ℕ) (b : ℕ) (e e' : SignalExpr) (r : AnchorRange) (mem : Memory) (k s w : ℕ) where
  abbrev owes : ObligationState
  owes = obligation_of (get mem k)

  abbrev due_of : Signal → Bool
  due_of x = contains_of r s && truth x w

  owed_by : (mem' : Memory) (now : Bool) → ((x y : Signal) → expr_of x ≡ e → Grounded ops nums x → expr_of y ≡ e' → Grounded ops nums y → (mem' ≡ put mem k (entry_of (obligation_step b s (due_of x) (truth y w) owes))) × (now ≡ (obligation_step b s (due_of x) (truth y w) owes).failed)) → CheckStepped ops nums (Obligation b e e' r) mem k s w mem' now
  unfolding check_step
  owed_by mem' now f = record { is = go }
    where
      bound_eq : {a b a' b' : SignalExpr} {x y : AnchorRange} {m n : ℕ} → Obligation m a a' x ≡ Obligation n b b' y → m ≡ n
      bound_eq h = cc

      range_eq : {a b a' b' : SignalExpr} {x y : AnchorRange} {m n : ℕ} → Obligation m a a' x ≡ Obligation n b b' y → x ≡ y
      range_eq h = cc

      first_eq : {a b a' b' : SignalExpr} {x y : AnchorRange} {m n : ℕ} → Obligation m a a' x ≡ Obligation n b b' y → a ≡ b
      first_eq h = cc

      second_eq : {a b a' b' : SignalExpr} {x y : AnchorRange} {m n : ℕ} → Obligation m a a' x ≡ Obligation n b b' y → a' ≡ b'
      second_eq h = cc

      go : (c : Check) → node_of c ≡ Obligation b e e' r → GroundedCheck ops nums c → (mem' ≡ put mem k (write_check c (check_step c (read_check c (get mem k)) s w).state (get mem k))) × (now ≡ (check_step c (read_check c (get mem k)) s w).now)
      go (range_check p x) h g = let z : ◌≡◌ {A = ℕ} 0 1 = cc in absurd (omega arith)
      go (delayed_check p p' x) h g = let z : ◌≡◌ {A = ℕ} 0 1 = cc in absurd (omega arith)
      go (obligation b' p p' x) h g =
          let same : obligation_step b s (due_of p) (truth p' w) owes ≡ obligation_step b' s (contains_of x s && truth p w) (truth p' w) owes =
          ap₂ (λ (n : ℕ) (y : AnchorRange). obligation_step n s (contains_of y s && truth p w) (truth p' w) owes) (sym (bound_eq h)) (sym (range_eq h)) in
          let (u, v) = f p p' (first_eq h) g.0 (second_eq h) g.1 in
          (u ∙ ap (λ (o : ObligationState). put mem k (entry_of o)) same, v ∙ ap (λ (o : ObligationState). o.failed) same)

  pub owed_failed : (get mem k).failed ≡ true → CheckStepped ops nums (Obligation b e e' r) mem k s w mem true
  unfolding obligation_step
  owed_failed h = owed_by mem true λ x y u g u' g'. (
    sym (ap (λ (z : Bool). put mem k (entry_of (pick z owes (unfailed_step b s (due_of x) (truth y w) owes)))) h ∙ put_get mem k),
    sym (ap (λ (z : Bool). (pick z owes (unfailed_step b s (due_of x) (truth y w) owes)).failed) h ∙ h),
  )

  module _ (c : Checkable ops nums (Obligation b e e' r) mem k s) (f : (get mem k).failed ≡ false) where
    pub owed_zero : (mem' : Memory) (now : Bool) → b ≡ 0 → DoneAtOnce ops nums e e' r mem k s w mem' now → CheckStepped ops nums (Obligation b e e' r) mem k s w mem' now
    owed_zero mem' now q d = owed_by mem' now λ x y u g u' g'.
        let same : obligation_step b s (due_of x) (truth y w) owes ≡ at_once (due_of x) (truth y w) s owes = unfailed_step_lem b s (due_of x) (truth y w) owes f ∙ at_zero b s (due_of x) (truth y w) owes q in
        let (m, n) = d.is x y u g u' g' in
        (m ∙ ap (λ (o : ObligationState). put mem k (entry_of o)) (sym same), n ∙ ap (λ (o : ObligationState). o.failed) (sym same))

    module _ (n : b ≡ 0 → ⊥) (mid : Memory) (on : Bool) (d : Opened ops nums b e r mem k s w mid on) where
      abbrev open_by : Signal → ObligationState
      open_by x = opened (get mem k).held (due_of x) b s owes

      step_is : (x y : Signal) → obligation_step b s (due_of x) (truth y w) owes ≡ ticked (open_by x).pending (truth y w) (open_by x)
      step_is x y = unfailed_step_lem b s (due_of x) (truth y w) owes f ∙ positive b s (due_of x) (truth y w) owes n

      pub owed_closed : on ≡ false → CheckStepped ops nums (Obligation b e e' r) mem k s w mid false
      owed_closed q = owed_by mid false λ x y u g u' g'.
          let (m, l) = d.is x u g in
          let same : obligation_step b s (due_of x) (truth y w) owes ≡ open_by x = step_is x y ∙ ap (λ (z : Bool). ticked z (truth y w) (open_by x)) (sym l ∙ q) in
          (m ∙ ap (λ (o : ObligationState). put mem k (entry_of o)) (sym same), sym (ap (λ (o : ObligationState). o.failed) same ∙ opened_failed (get mem k).held (due_of x) b s owes ∙ f))

      module _ (q : on ≡ true) where
        mid_entry : (x : Signal) → expr_of x ≡ e → Grounded ops nums x → get mid k ≡ entry_of (open_by x)
        mid_entry x u g = ap (λ (m : Memory). get m k) (d.is x u g).0 ∙ get_put_same mem k (entry_of (open_by x)) c.inside

        pub owed_tickable : Tickable ops nums e' mid k
        owed_tickable =
            let name = trigger_named ops nums (get mem k) s b e e' r c.steps in
            let x = name.signal in
            let (m, l) = d.is x name.is name.stands in
            let at_mid = mid_entry x name.is name.stands in
            record {
              inside = subst (λ (y : Memory). Inside y (k + 1)) (sym m) (inside_put mem k (entry_of (open_by x)) (k + 1) c.inside);
              names = body_named ops nums (get mem k) s b e e' r c.steps;
              is_open = ap (λ (y : MonState). y.held) at_mid ∙ sym l ∙ q;
              unfailed = ap (λ (y : MonState). y.failed) at_mid ∙ opened_failed (get mem k).held (due_of x) b s owes ∙ f;
              remains = subst (λ (y : MonState). 1 ≤ y.remaining) (sym at_mid) (remains b s owes (owed_kept ops nums (get mem k) s b e e' r c.steps) f n (get mem k).held (due_of x) refl (sym l ∙ q));
            }

        pub owed_ticks : (mem' : Memory) (now : Bool) → Ticked ops nums e' mid k w mem' now → CheckStepped ops nums (Obligation b e e' r) mem k s w mem' now
        owed_ticks mem' now t = owed_by mem' now λ x y u g u' g'.
            let (m, l) = d.is x u g in
            let (m', l') = t.is y u' g' in
            let at_mid = mid_entry x u g in
            let same : ticked true (truth y w) (obligation_of (get mid k)) ≡ obligation_step b s (due_of x) (truth y w) owes =
            ap (λ (o : MonState). ticked true (truth y w) (obligation_of o)) at_mid
            ∙ ap (λ (z : Bool). ticked z (truth y w) (open_by x)) (sym (sym l ∙ q))
            ∙ sym (step_is x y) in (
              m' ∙ ap (λ (a : Memory). put a k (entry_of (ticked true (truth y w) (obligation_of (get mid k))))) m
                  ∙ put_put mem k (entry_of (open_by x)) _
                  ∙ ap (λ (o : ObligationState). put mem k (entry_of o)) same,
              l' ∙ ap (λ (o : ObligationState). o.failed) same,
            )
