-- A call on a monitor: its tests in their order, and what it does; and the step call.
--     ready_called    over tables that hold the rule of a ready monitor: 24, else what the call does
--     went            the three ways that a call goes
use mathlib.Core.Path.{◌≡◌, refl, sym, ap, subst, ◌∙◌}
use mathlib.Core.Bool.{Bool, true, false, ◌&&◌}
use mathlib.Core.Bool as bool
use mathlib.Core.Option.{Option, none, some}
use Rattle.std.specs.Prelude.{None, Option as Opt, Some, Result, Ok, Err}
use Prim.Native.Nat.{ℕ, ◌+◌, ◌≤◌, ◌<◌}
use native.Mathlib.Omega.{arith}
use lib.Dec.{eqb, ltb}
use lib.ListN.{get_or}
use borrow.Author.Tests.{lt-ltb, le-ltb, ltb-true}
use Rattle.terms.specs.Choice.{pick}
use Rattle.formula.proofs.Walks.{both_true}
use Rattle.monitor.specs.Mon.{Mon, count}
use Rattle.meaning.specs.State.{step, failed, newly_failed}
use Rattle.stepping.specs.declared.walk.NodeOut.{NodeOut}
use Rattle.result.specs.declared.Refusal.{Refusal}
use Rattle.result.specs.declared.Refusal.TheVariants.{Short, Unfit, Late}
use Rattle.node_step.specs.Memory.{Memory}
use Rattle.lent.specs.Nodes.{NodesAt}
use Rattle.stepping.specs.Walk.{read_mon, write_mon, Walkable, NodeStepped}
use Rattle.lent.specs.Shape.{fits_mon}
use Rattle.lent.specs.Lent.{LentTables, LentMonitor, is_lent, rule_mon, fits, unfit, refusal_of, HoldsRule, Ready}
use Rattle.lent.proofs.Standings.{lent_both, rule_stood, rule_inside}
use Rattle.lent.proofs.Refusals.{not_refused}
use Rattle.stepping.specs.Call.{Effect, refuse, or_refuse, over_rule, called, accept, step_call, Answers, Fit, accept_mon, accept_of}
use Rattle.stepping.proofs.Memories.{failed_read, read_back}
use Rattle.stepping.proofs.Fitting.{fits_shaped}

-- ---- any call
answers_by : {A : Type 0} {c d : Effect A} {r : Result A Refusal} {mem : Memory} → c ≡ d → Answers d r mem → Answers c r mem
answers_by {r = r} {mem = mem} e a = subst (λ (x : Effect _). Answers x r mem) (sym e) a

refused_by : {A : Type 0} {c : Effect A} {r : Refusal} {mem : Memory} → c ≡ refuse r mem → Answers c (Err r) mem
refused_by e = answers_by e (record { answers = refl; leaves = refl })

module _ {A : Type 0} (t : LentTables) (k : LentMonitor) (timely : Bool) (does : Mon → Effect A) where
  pub refused_called : (r : Refusal) → refusal_of t k ≡ Some r → called t k timely does ≡ refuse r k.memory
  unfolding refusal_of
  refused_called r e = lent (is_lent t k) (rule_mon t) e
    where
      same : {a b : Refusal} → Some a ≡ Some b → a ≡ b
      same q = cc

      fit : (m : Mon) (b : Bool) → pick b None (Some Unfit) ≡ Some r → or_refuse b Unfit k.memory (or_refuse timely Late k.memory (does m)) ≡ refuse r k.memory
      fit m true q = cc
      fit m false q = ap (λ (i : Refusal). refuse i k.memory) (same q)

      lent : (b : Bool) (o : Option Mon) → pick b (unfit o k) (Some Short) ≡ Some r → or_refuse b Short k.memory (over_rule o k timely does) ≡ refuse r k.memory
      lent true none q = ap (λ (i : Refusal). refuse i k.memory) (same q)
      lent true (some m) q = fit m (fits m k) q
      lent false o q = ap (λ (i : Refusal). refuse i k.memory) (same q)

  pub ready_called : (m : Mon) → HoldsRule t m → Ready k m → called t k timely does ≡ or_refuse timely Late k.memory (does m)
  ready_called m a d =
      ap (λ (b : Bool). or_refuse b Short k.memory (over_rule (rule_mon t) k timely does)) (lent_both t k m a d)
      ∙ ap (λ (o : Option Mon). over_rule o k timely does) a.rule
      ∙ ap (λ (b : Bool). or_refuse b Unfit k.memory (or_refuse timely Late k.memory (does m))) d.fit

-- what is lent is refused, or a step is late, or the call does what it does
pub data Went {A : Type 0} (t : LentTables) (k : LentMonitor) (timely : Bool) (does : Mon → Effect A) (c : Effect A) : Type 0 where
  stops : (r : Refusal) → refusal_of t k ≡ Some r → c ≡ refuse r k.memory → Went t k timely does c
  late : (m : Mon) → HoldsRule t m → Ready k m → timely ≡ false → c ≡ refuse Late k.memory → Went t k timely does c
  goes : (m : Mon) → HoldsRule t m → Ready k m → timely ≡ true → c ≡ does m → Went t k timely does c

module _ {A : Type 0} (t : LentTables) (k : LentMonitor) (timely : Bool) (does : Mon → Effect A) where
  pub went : Went t k timely does (called t k timely does)
  went = go (refusal_of t k) refl
    where
      timed : (m : Mon) → HoldsRule t m → Ready k m → (b : Bool) → timely ≡ b → Went t k timely does (called t k timely does)
      timed m a d true e = goes m a d e (ready_called t k timely does m a d ∙ ap (λ (x : Bool). or_refuse x Late k.memory (does m)) e)
      timed m a d false e = late m a d e (ready_called t k timely does m a d ∙ ap (λ (x : Bool). or_refuse x Late k.memory (does m)) e)

      go : (o : Opt Refusal) → refusal_of t k ≡ o → Went t k timely does (called t k timely does)
      go None e = let (m, a, d) = not_refused t k e in timed m a d timely refl
      go (Some r) e = stops r e (refused_called t k timely does r e)

  module _ (o : Opt Refusal) (e : o ≡ refusal_of t k) where
    pub call_refused : (r : Refusal) → o ≡ Some r → Answers (called t k timely does) (Err r) k.memory
    call_refused r h = refused_by (refused_called t k timely does r (sym e ∙ h))

    module _ (z : o ≡ None) where
      pub call_fits : timely ≡ true → Fit t k timely
      call_fits h = let (m, a, d) = not_refused t k (sym e ∙ z) in record { mon = m; holds = a; ready = d; on_time = h }

      pub call_late : timely ≡ false → Answers (called t k timely does) (Err Late) k.memory
      call_late h =
          let (m, a, d) = not_refused t k (sym e ∙ z) in
          refused_by (ready_called t k timely does m a d ∙ ap (λ (x : Bool). or_refuse x Late k.memory (does m)) h)

      pub call_goes : timely ≡ true → (c : Effect A) → ((m : Mon) → rule_mon t ≡ some m → does m ≡ c) → (r : Result A Refusal) (mem' : Memory) → Answers c r mem'
          → Answers (called t k timely does) r mem'
      call_goes h c f r mem' a =
          let (m, b, d) = not_refused t k (sym e ∙ z) in
          answers_by (ready_called t k timely does m b d ∙ ap (λ (x : Bool). or_refuse x Late k.memory (does m)) h ∙ f m b.rule) a

-- ---- the step

module _ (t : LentTables) (k : LentMonitor) (s : ℕ) (d : Fit t k (ltb s 9223372036854775808)) where
  pub fit_walk : Walkable t.ops t.nums t.nodes t.nfirst k.memory 0 s
  fit_walk =
      let o = rule_stood t d.mon d.holds.rule in
      let (p, q) = both_true (eqb k.size (count d.mon)) (fits_mon d.mon k.forms k.bounds k.memory 0) d.ready.fit in
      let z : t.nfirst ≡ t.nfirst + 0 = omega arith in
      record {
        mon = d.mon;
        stands = subst (λ (i : ℕ). NodesAt t.ops t.nums t.nodes i d.mon) z o.stands;
        in_nodes = omega (arith, o.in_nodes, o.counted);
        inside = rule_inside t k d.mon d.holds.rule d.ready.room;
        shaped = fits_shaped k.forms k.bounds k.memory d.mon 0 q;
        below = ltb-true s 9223372036854775808 d.on_time;
      }

  module _ (w : ℕ) (mem' : Memory) (o : NodeOut) (c : NodeStepped t.ops t.nums t.nodes t.nfirst k.memory 0 s w mem' o) where
    stepped : mem' ≡ write_mon d.mon (step d.mon (read_mon d.mon k.memory 0) s w).state k.memory 0
    unfolding fit_walk
    stepped = (c.is d.mon fit_walk.stands fit_walk.shaped fit_walk.inside).2

    after_failed : get_or mem'.failed 0 false ≡ failed d.mon (step d.mon (read_mon d.mon k.memory 0) s w).state
    unfolding fit_walk
    after_failed =
        let x = (step d.mon (read_mon d.mon k.memory 0) s w).state in
        sym (failed_read d.mon mem' 0) ∙ ap (failed d.mon) (ap (λ (v : Memory). read_mon d.mon v 0) stepped ∙ read_back d.mon x k.memory 0 fit_walk.inside)

    answers_is : (b : Bool) → b ≡ newly_failed d.mon (read_mon d.mon k.memory 0) s w → Answers (accept_of t k s w) (Ok b) mem'
    answers_is b e = subst (λ (x : Effect Bool). Answers x (Ok b) mem') (sym (ap (λ (y : Option Mon). accept_mon y k.memory s w) d.holds.rule)) (record { answers = ap Ok e; leaves = stepped })

    -- newly broken: failed now, and not marked before
    newly : newly_failed d.mon (read_mon d.mon k.memory 0) s w ≡ (failed d.mon (step d.mon (read_mon d.mon k.memory 0) s w).state && bool.not (get_or k.memory.failed 0 false))
    newly = ap (λ (x : Bool). failed d.mon (step d.mon (read_mon d.mon k.memory 0) s w).state && bool.not x) (failed_read d.mon k.memory 0)

    pub already_broken : get_or k.memory.failed 0 false ≡ true → Answers (accept_of t k s w) (Ok (bool.not (get_or k.memory.failed 0 false))) mem'
    already_broken h = answers_is _ (ap bool.not h ∙ sym (newly ∙ ap (λ (x : Bool). failed d.mon (step d.mon (read_mon d.mon k.memory 0) s w).state && bool.not x) h ∙ and_false _))
      where
        and_false : (x : Bool) → (x && false) ≡ false
        and_false true = refl
        and_false false = refl

    pub newly_broken : get_or k.memory.failed 0 false ≡ false → Answers (accept_of t k s w) (Ok (get_or mem'.failed 0 false)) mem'
    newly_broken h = answers_is _ (after_failed ∙ sym (newly ∙ ap (λ (x : Bool). failed d.mon (step d.mon (read_mon d.mon k.memory 0) s w).state && bool.not x) h ∙ and_true _))
      where
        and_true : (x : Bool) → (x && true) ≡ x
        and_true true = refl
        and_true false = refl

-- ---- the step call
module _ (t : LentTables) (k : LentMonitor) (s w : ℕ) (o : Opt Refusal) (e : o ≡ refusal_of t k) where
  pub step_refused : (r : Refusal) → o ≡ Some r → Answers (step_call t k s w) (Err r) k.memory
  unfolding step_call
  step_refused r h = call_refused t k _ _ o e r h

  module _ (z : o ≡ None) where
    pub step_late : 9223372036854775808 ≤ s → Answers (step_call t k s w) (Err Late) k.memory
    unfolding step_call
    step_late l = call_late t k _ _ o e z (le-ltb s 9223372036854775808 l)

    pub step_fits : s < 9223372036854775808 → Fit t k (ltb s 9223372036854775808)
    step_fits l = call_fits t k (ltb s 9223372036854775808) (λ m. accept m k.memory s w) o e z (lt-ltb s 9223372036854775808 l)

    pub step_taken : (r : Result Bool Refusal) (mem' : Memory) → s < 9223372036854775808 → Answers (accept_of t k s w) r mem' → Answers (step_call t k s w) r mem'
    unfolding step_call
    step_taken r mem' l a = call_goes t k _ _ o e z (lt-ltb s 9223372036854775808 l) (accept_of t k s w) (λ m h. sym (ap (λ (o : Option Mon). accept_mon o k.memory s w) h)) r mem' a
