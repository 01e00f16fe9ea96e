-- The calls of `step` that a run stands for, one after the other: which of them are refused, and how often they report.
use mathlib.Core.Path.{◌≡◌, refl, sym, ap, subst, ◌∙◌}
use mathlib.Core.Bool.{Bool, true, false, ◌&&◌}
use mathlib.Core.List.{List, [], ◌∷◌}
use mathlib.Core.Logic.{◌⊎◌, inl, inr, ◌↔◌}
use Rattle.std.specs.Prelude.{Option, Some, Result, Ok, Err}
use Prim.Native.Nat.{ℕ, zero, suc, ◌+◌, ◌≤◌, ◌<◌}
use native.Mathlib.Omega.{arith}
use lib.Dec.{ltb}
use lib.ListN.{length}
use borrow.Author.Tests.{le-ltb, lt-ltb, ltb-true}
use Rattle.formula.proofs.Cases.{below_or, true_false}
use Rattle.formula.proofs.Walks.{both_true}
use Rattle.result.specs.Refusal.{number_of}
use Rattle.result.specs.declared.Refusal.{Refusal}
use Rattle.result.specs.declared.Refusal.TheVariants.{Late}
use Rattle.monitor.specs.Mon.{Mon}
use Rattle.meaning.specs.State.{step, failed, newly_failed}
use Rattle.meaning.proofs.Meaning.{stays_marked, reports_once}
use Rattle.node_step.specs.Memory.{Memory}
use Rattle.stepping.specs.Walk.{read_mon}
use Rattle.lent.specs.Lent.{LentTables, LentMonitor, HoldsRule, Ready}
use Rattle.stepping.specs.Call.{Effect, refuse, or_refuse, accept, step_call, with}
use Rattle.stepping.proofs.Calling.{Went, refused_called, ready_called, went}
use Rattle.stepping.proofs.Calling as calling
use Rattle.stepping.proofs.Memories.{read_back}
use Rattle.stepping.proofs.Staying.{inside_own, ready_call, stays_ready}
use Rattle.runs.specs.Run.{Answer, answers_of, memory_after, report_among, many_steps, in_time, run_call, RunTaken, Accepts, Each, SomeOf, Lowest, ReportsAt}
use Rattle.runs.proofs.Running.{below_in_time}

ok_inj : {x y : Option ℕ} → ◌≡◌ {A = Result (Option ℕ) Refusal} (Ok x) (Ok y) → x ≡ y
ok_inj e = cc

-- ---- lists of answers
pub meet : {P Q : Answer → Type 0} (vs : List Answer) → SomeOf P vs → Each Q vs → (v : Answer) × P v × Q v
unfolding SomeOf Each
meet [] p q = absurd p
meet (v ∷ vs) (inl p) q = (v, p, q.0)
meet (v ∷ vs) (inr p) q = meet vs p q.1

pub each_map : {P Q : Answer → Type 0} → ((v : Answer) → P v → Q v) → (vs : List Answer) → Each P vs → Each Q vs
unfolding Each
each_map f [] h = tt
each_map f (v ∷ vs) h = (f v h.0, each_map f vs h.1)

none_at : (vs : List Answer) → Each (λ v. v ≡ Ok true → ⊥) vs → (i : ℕ) → ReportsAt vs i → ⊥
unfolding Each
none_at [] h i p = let z : ◌≡◌ {A = ℕ} 0 1 = cc in omega arith
none_at (v ∷ vs) h zero p = h.0 p
none_at (v ∷ vs) h (suc i) p = none_at vs h.1 i p

-- the first report is one of them, and where there is one there is a first
pub record FoundAt (vs : List Answer) (s n : ℕ) : Type 0 where
  pub at_word : ℕ
  pub step_is : n ≡ s + at_word
  pub reports : ReportsAt vs at_word

found_later : (v : Answer) (vs : List Answer) (s n : ℕ) → FoundAt vs (s + 1) n → FoundAt (v ∷ vs) s n
found_later v vs s n f = record { at_word = suc f.at_word; step_is = omega (arith, f.step_is); reports = f.reports }

pub found : (vs : List Answer) (s n : ℕ) → report_among s vs ≡ Some n → FoundAt vs s n
unfolding report_among
found [] s n e = let z : ◌≡◌ {A = ℕ} 0 1 = cc in absurd (omega arith)
found (Ok true ∷ vs) s n e = let z : s ≡ n = cc in record { at_word = 0; step_is = omega arith; reports = refl }
found (Ok false ∷ vs) s n e = found_later (Ok false) vs s n (found vs (s + 1) n e)
found (Err m ∷ vs) s n e = found_later (Err m) vs s n (found vs (s + 1) n e)

pub finds : (vs : List Answer) (s i : ℕ) → ReportsAt vs i → (n : ℕ) × (report_among s vs ≡ Some n)
unfolding report_among
finds [] s i e = let z : ◌≡◌ {A = ℕ} 0 1 = cc in absurd (omega arith)
finds (Ok true ∷ vs) s i e = (s, refl)
finds (Ok false ∷ vs) s zero e = let z : false ≡ true = cc in true_false z refl
finds (Ok false ∷ vs) s (suc i) e = finds vs (s + 1) i e
finds (Err m ∷ vs) s zero e = let z : ◌≡◌ {A = ℕ} 0 1 = cc in absurd (omega arith)
finds (Err m ∷ vs) s (suc i) e = finds vs (s + 1) i e

-- ---- where each call is refused with the same number
pub all_refused : (t : LentTables) (k : LentMonitor) (n : Refusal) → ((s w : ℕ) → step_call t k s w ≡ refuse n k.memory) → (ws : List ℕ) (s : ℕ)
    → Each (λ v. v ≡ Err n) (answers_of t k s ws)
unfolding Each answers_of
all_refused t k n h [] s = tt
all_refused t k n h (w ∷ ws) s = (
  ap (λ (c : Effect Bool). c.answer) (h s w),
  subst (λ (c : Effect Bool). Each (λ v. v ≡ Err n) (answers_of t (with k c.memory) (s + 1) ws)) (sym (h s w)) (all_refused t k n h ws (s + 1)),
)

-- ---- a monitor that fits its rule's table: its calls are accepted below 2^63, and refused with 24 from there on
module _ (t : LentTables) (m : Mon) (a : HoldsRule t m) where
  late_call : (k : LentMonitor) → Ready k m → (s w : ℕ) → 9223372036854775808 ≤ s → step_call t k s w ≡ refuse Late k.memory
  late_call k d s w h = ready_call t k m a d s w ∙ ap (λ (b : Bool). or_refuse b Late k.memory (accept m k.memory s w)) (le-ltb s 9223372036854775808 h)

  data Called (k : LentMonitor) (s w : ℕ) : Type 0 where
    taken : step_call t k s w ≡ accept m k.memory s w → Ready (with k (step_call t k s w).memory) m → Called k s w
    too_late : step_call t k s w ≡ refuse Late k.memory → Called k s w

  called : (k : LentMonitor) → Ready k m → (s w : ℕ) → Called k s w
  called k d s w = go (below_or s 9223372036854775808)
    where
      go : (s < 9223372036854775808) ⊎ (9223372036854775808 ≤ s) → Called k s w
      go (inl h) = let x = stays_ready t k m a d s w h in taken x.accepted x.again
      go (inr h) = too_late (late_call k d s w h)

  ready_on : (k : LentMonitor) → Ready k m → (s w : ℕ) → Called k s w → Ready (with k (step_call t k s w).memory) m
  ready_on k d s w (taken e r) = r
  ready_on k d s w (too_late e) = subst (λ (c : Effect Bool). Ready (with k c.memory) m) (sym e) d

  pub all_accept : (ws : List ℕ) (k : LentMonitor) (s : ℕ) → Ready k m → in_time s ws ≡ true → Each Accepts (answers_of t k s ws)
  unfolding Each answers_of in_time
  all_accept [] k s d h = tt
  all_accept (w ∷ ws) k s d h =
      let (now, later) = both_true (ltb s 9223372036854775808) (in_time (s + 1) ws) h in
      let x = stays_ready t k m a d s w (ltb-true s 9223372036854775808 now) in
      ((newly_failed m (read_mon m k.memory 0) s w, ap (λ (c : Effect Bool). c.answer) x.accepted), all_accept ws (with k (step_call t k s w).memory) (s + 1) x.again later)

  only_late : (k : LentMonitor) (s w : ℕ) → Called k s w → (n : Refusal) → (step_call t k s w).answer ≡ Err n → n ≡ Late
  only_late k s w (taken e r) n q =
      let p : (step_call t k s w).answer ≡ Ok (newly_failed m (read_mon m k.memory 0) s w) = ap (λ (c : Effect Bool). c.answer) e in
      let z : ◌≡◌ {A = ℕ} 0 1 = cc in
      absurd (omega arith)
  only_late k s w (too_late e) n q = let p : (step_call t k s w).answer ≡ Err Late = ap (λ (c : Effect Bool). c.answer) e in cc

  pub each_late : (ws : List ℕ) (k : LentMonitor) (s : ℕ) → Ready k m → Each (λ v. (n : Refusal) → v ≡ Err n → n ≡ Late) (answers_of t k s ws)
  unfolding Each answers_of
  each_late [] k s d = tt
  each_late (w ∷ ws) k s d = (only_late k s w (called k d s w), each_late ws (with k (step_call t k s w).memory) (s + 1) (ready_on k d s w (called k d s w)))

  late_or_rest : (k : LentMonitor) → Ready k m → (s w : ℕ) (rest : Bool) (R : Type 0) → (rest ≡ false → R) → (ltb s 9223372036854775808 && rest) ≡ false → ((step_call t k s w).answer ≡ Err Late) ⊎ R
  late_or_rest k d s w rest R f h = go (below_or s 9223372036854775808) (ltb s 9223372036854775808) refl h
    where
      go : (s < 9223372036854775808) ⊎ (9223372036854775808 ≤ s) → (b : Bool) → ltb s 9223372036854775808 ≡ b → (b && rest) ≡ false → ((step_call t k s w).answer ≡ Err Late) ⊎ R
      go (inr l) b e g = inl (ap (λ (c : Effect Bool). c.answer) (late_call k d s w l))
      go (inl l) true e g = inr (f g)
      go (inl l) false e g = true_false (lt-ltb s 9223372036854775808 l) e

  pub some_late : (ws : List ℕ) (k : LentMonitor) (s : ℕ) → Ready k m → in_time s ws ≡ false → SomeOf (λ v. v ≡ Err Late) (answers_of t k s ws)
  unfolding SomeOf answers_of in_time
  some_late [] k s d h = true_false refl h
  some_late (w ∷ ws) k s d h = late_or_rest k d s w (in_time (s + 1) ws) (SomeOf (λ v. v ≡ Err Late) (answers_of t (with k (step_call t k s w).memory) (s + 1) ws)) (λ e. some_late ws (with k (step_call t k s w).memory) (s + 1) (ready_on k d s w (called k d s w)) e) h

  -- ---- a failed root stays so, and reports no more
  abbrev Marked : Memory → Type 0
  Marked mem = failed m (read_mon m mem 0) ≡ true

  taken_reads : (k : LentMonitor) → Ready k m → (s w : ℕ) → step_call t k s w ≡ accept m k.memory s w → read_mon m (step_call t k s w).memory 0 ≡ (step m (read_mon m k.memory 0) s w).state
  taken_reads k d s w e =
      ap (λ (c : Effect Bool). read_mon m c.memory 0) e
      ∙ read_back m (step m (read_mon m k.memory 0) s w).state k.memory 0 (inside_own t k m a d)

  marked_on : (k : LentMonitor) → Ready k m → (s w : ℕ) → Called k s w → Marked k.memory → Marked (step_call t k s w).memory
  marked_on k d s w (taken e r) f = ap (failed m) (taken_reads k d s w e) ∙ stays_marked m (read_mon m k.memory 0) s w f
  marked_on k d s w (too_late e) f = subst (λ (c : Effect Bool). Marked c.memory) (sym e) f

  marks : (k : LentMonitor) → Ready k m → (s w : ℕ) → Called k s w → (step_call t k s w).answer ≡ Ok true → Marked (step_call t k s w).memory
  marks k d s w (taken e r) q =
      let p : (step_call t k s w).answer ≡ Ok (newly_failed m (read_mon m k.memory 0) s w) = ap (λ (c : Effect Bool). c.answer) e in
      let n : newly_failed m (read_mon m k.memory 0) s w ≡ true = cc in
      ap (failed m) (taken_reads k d s w e) ∙ (both_true (failed m (step m (read_mon m k.memory 0) s w).state) _ n).0
  marks k d s w (too_late e) q =
      let p : (step_call t k s w).answer ≡ Err Late = ap (λ (c : Effect Bool). c.answer) e in
      let z : ◌≡◌ {A = ℕ} 0 1 = cc in
      absurd (omega arith)

  silent : (k : LentMonitor) → (s w : ℕ) → Called k s w → Marked k.memory → (step_call t k s w).answer ≡ Ok true → ⊥
  silent k s w (taken e r) f q =
      let p : (step_call t k s w).answer ≡ Ok (newly_failed m (read_mon m k.memory 0) s w) = ap (λ (c : Effect Bool). c.answer) e in
      let n : newly_failed m (read_mon m k.memory 0) s w ≡ true = cc in
      true_false n (reports_once m (read_mon m k.memory 0) s w f)
  silent k s w (too_late e) f q =
      let p : (step_call t k s w).answer ≡ Err Late = ap (λ (c : Effect Bool). c.answer) e in
      let z : ◌≡◌ {A = ℕ} 0 1 = cc in
      omega arith

  quiet_on : (ws : List ℕ) (k : LentMonitor) (s : ℕ) → Ready k m → Marked k.memory → Each (λ v. v ≡ Ok true → ⊥) (answers_of t k s ws)
  unfolding Each answers_of
  quiet_on [] k s d f = tt
  quiet_on (w ∷ ws) k s d f = (silent k s w (called k d s w) f, quiet_on ws (with k (step_call t k s w).memory) (s + 1) (ready_on k d s w (called k d s w)) (marked_on k d s w (called k d s w) f))

  none_after : (k : LentMonitor) (s w : ℕ) (ws : List ℕ) → Ready k m → (step_call t k s w).answer ≡ Ok true → (i : ℕ) → ReportsAt (answers_of t (with k (step_call t k s w).memory) (s + 1) ws) i → ⊥
  none_after k s w ws d q = none_at _ (quiet_on ws (with k (step_call t k s w).memory) (s + 1) (ready_on k d s w (called k d s w)) (marks k d s w (called k d s w) q))

  pub once : (ws : List ℕ) (k : LentMonitor) (s : ℕ) → Ready k m → (i j : ℕ) → ReportsAt (answers_of t k s ws) i → ReportsAt (answers_of t k s ws) j → i ≡ j
  unfolding answers_of
  once [] k s d i j p q = let z : ◌≡◌ {A = ℕ} 0 1 = cc in absurd (omega arith)
  once (w ∷ ws) k s d zero zero p q = refl
  once (w ∷ ws) k s d zero (suc j) p q = absurd (none_after k s w ws d p j q)
  once (w ∷ ws) k s d (suc i) zero p q = absurd (none_after k s w ws d q i p)
  once (w ∷ ws) k s d (suc i) (suc j) p q = ap suc (once ws (with k (step_call t k s w).memory) (s + 1) (ready_on k d s w (called k d s w)) i j p q)

  -- a whole run below 2^63
  pub ready_after : (ws : List ℕ) (k : LentMonitor) (s : ℕ) → Ready k m → Ready (with k (memory_after t k s ws)) m
  unfolding memory_after
  ready_after [] k s d = d
  ready_after (w ∷ ws) k s d = ready_after ws (with k (step_call t k s w).memory) (s + 1) (ready_on k d s w (called k d s w))

  pub ready_runs : (ws : List ℕ) (k : LentMonitor) (s : ℕ) → Ready k m → s + length ws ≤ 9223372036854775808 → run_call t k s ws ≡ many_steps t k s ws
  unfolding run_call
  ready_runs ws k s d h =
      ready_called t k (in_time s ws) (λ n. many_steps t k s ws) m a d
      ∙ ap (λ (b : Bool). or_refuse b Late k.memory (many_steps t k s ws)) (below_in_time s ws h)

-- ---- the three ways that a run goes
pub data Case (t : LentTables) (k : LentMonitor) (s : ℕ) (ws : List ℕ) (c : Effect (Option ℕ)) : Type 0 where
  stops : (n : Refusal) → ((i w : ℕ) → step_call t k i w ≡ refuse n k.memory) → c ≡ refuse n k.memory → Case t k s ws c
  late : (m : Mon) → HoldsRule t m → Ready k m → in_time s ws ≡ false → c ≡ refuse Late k.memory → Case t k s ws c
  goes : (m : Mon) → HoldsRule t m → Ready k m → in_time s ws ≡ true → c ≡ many_steps t k s ws → Case t k s ws c

pub case_of : (t : LentTables) (k : LentMonitor) (s : ℕ) (ws : List ℕ) → Case t k s ws (run_call t k s ws)
unfolding run_call step_call
case_of t k s ws = go (went t k (in_time s ws) (λ m. many_steps t k s ws))
  where
    go : Went t k (in_time s ws) (λ m. many_steps t k s ws) (run_call t k s ws) → Case t k s ws (run_call t k s ws)
    go (calling.stops n e q) = stops n (λ i w. refused_called t k (ltb i 9223372036854775808) (λ m. accept m k.memory i w) n e) q
    go (calling.late m a d h q) = late m a d h q
    go (calling.goes m a d h q) = goes m a d h q

module _ (t : LentTables) (k : LentMonitor) (s : ℕ) (ws : List ℕ) where
  abbrev run : Effect (Option ℕ)
  run = run_call t k s ws

  answer_is : (c : Effect (Option ℕ)) → run ≡ c → run.answer ≡ c.answer
  answer_is c e = ap (λ (x : Effect (Option ℕ)). x.answer) e

  pub taken_is : Case t k s ws run → RunTaken run → run ≡ many_steps t k s ws
  taken_is (stops n f e) h = absurd (h n (answer_is _ e))
  taken_is (late m a d i e) h = absurd (h Late (answer_is _ e))
  taken_is (goes m a d i e) h = e

  pub taken_accepts : Case t k s ws run → RunTaken run → Each Accepts (answers_of t k s ws)
  taken_accepts (stops n f e) h = absurd (h n (answer_is _ e))
  taken_accepts (late m a d i e) h = absurd (h Late (answer_is _ e))
  taken_accepts (goes m a d i e) h = all_accept t m a ws k s d i

  pub goes_taken : run ≡ many_steps t k s ws → RunTaken run
  goes_taken e n h =
      let p : run.answer ≡ Ok (report_among s (answers_of t k s ws)) = answer_is _ e in
      let z : ◌≡◌ {A = ℕ} 0 1 = cc in
      omega arith

  pub untouched : Case t k s ws run → (n : Refusal) → run.answer ≡ Err n → run.memory ≡ k.memory
  untouched (stops m f e) n h = ap (λ (c : Effect (Option ℕ)). c.memory) e
  untouched (late m a d i e) n h = ap (λ (c : Effect (Option ℕ)). c.memory) e
  untouched (goes m a d i e) n h = absurd (goes_taken e n h)

  pub at_most_once : Case t k s ws run → (i j : ℕ) → ReportsAt (answers_of t k s ws) i → ReportsAt (answers_of t k s ws) j → i ≡ j
  at_most_once (stops n f e) i j p q = absurd (none_at _ (each_map (λ v r. λ z. let y : ◌≡◌ {A = ℕ} 0 1 = cc in omega arith) _ (all_refused t k n f ws s)) i p)
  at_most_once (late m a d l e) i j p q = once t m a ws k s d i j p q
  at_most_once (goes m a d l e) i j p q = once t m a ws k s d i j p q

  reported_by : run ≡ many_steps t k s ws → Case t k s ws run → (i : ℕ) → run.answer ≡ Ok (Some (s + i)) → ReportsAt (answers_of t k s ws) i
  reported_by e x i h =
      let f = found (answers_of t k s ws) s (s + i) (ok_inj (sym (answer_is _ e) ∙ h)) in
      let z : f.at_word ≡ i = omega (arith, f.step_is) in
      subst (ReportsAt (answers_of t k s ws)) z f.reports

  reports_by : run ≡ many_steps t k s ws → Case t k s ws run → (i : ℕ) → ReportsAt (answers_of t k s ws) i → run.answer ≡ Ok (Some (s + i))
  reports_by e x i h =
      let (n, q) = finds (answers_of t k s ws) s i h in
      let f = found (answers_of t k s ws) s n q in
      let z : f.at_word ≡ i = at_most_once x f.at_word i f.reports h in
      answer_is _ e ∙ ap Ok (q ∙ ap Some (f.step_is ∙ ap (s +◌) z))

  pub reported : Case t k s ws run → (i : ℕ) → (run.answer ≡ Ok (Some (s + i))) ↔ (RunTaken run × ReportsAt (answers_of t k s ws) i)
  reported x i = (
    λ h. let g : RunTaken run = λ n z. let y : ◌≡◌ {A = ℕ} 0 1 = cc in omega arith in (g, reported_by (taken_is x g) x i h),
    λ (g, h). reports_by (taken_is x g) x i h,
  )

module _ (t : LentTables) (k : LentMonitor) (s w : ℕ) (ws : List ℕ) where
  abbrev vs : List Answer
  vs = answers_of t k s (w ∷ ws)

  lowest_all : (n : Refusal) → Each (λ v. v ≡ Err n) vs → Lowest n vs
  unfolding Each SomeOf answers_of
  lowest_all n h = record { given = inl h.0; least = each_map (λ v e m q. let z : n ≡ m = cc in let y : number_of n ≡ number_of m = ap number_of z in omega arith) vs h }

  pub refused_where : Case t k s (w ∷ ws) (run_call t k s (w ∷ ws)) → (n : Refusal) → ((run_call t k s (w ∷ ws)).answer ≡ Err n) ↔ Lowest n vs
  refused_where (stops a f e) n =
      let r : (run_call t k s (w ∷ ws)).answer ≡ Err a = ap (λ (c : Effect (Option ℕ)). c.answer) e in
      let g = all_refused t k a f (w ∷ ws) s in (
        λ h. let z : a ≡ n = cc in subst (λ (b : Refusal). Lowest b vs) z (lowest_all a g),
        λ l. let (v, p, q) = meet {P = λ v. v ≡ Err n} {Q = λ v. v ≡ Err a} vs l.given g in let z : a ≡ n = cc in r ∙ ap Err z,
      )
  refused_where (late m a d i e) n =
      let r : (run_call t k s (w ∷ ws)).answer ≡ Err Late = ap (λ (c : Effect (Option ℕ)). c.answer) e in
      let g = each_late t m a (w ∷ ws) k s d in (
        λ h. let z : Late ≡ n = cc in subst (λ (b : Refusal). Lowest b vs) z (record { given = some_late t m a (w ∷ ws) k s d i; least = each_map (λ v x b q. let y : number_of b ≡ number_of Late = ap number_of (x b q) in omega arith) vs g }),
        λ l. let (v, p, q) = meet {P = λ v. v ≡ Err n} {Q = λ v. (b : Refusal) → v ≡ Err b → b ≡ Late} vs l.given g in r ∙ ap Err (sym (q n p)),
      )
  refused_where (goes m a d i e) n =
      let g = all_accept t m a (w ∷ ws) k s d i in (
        λ h. absurd (goes_taken t k s (w ∷ ws) e n h),
        λ l. let (v, p, q) = meet {P = λ v. v ≡ Err n} {Q = Accepts} vs l.given g in let (b, a) = q in let z : ◌≡◌ {A = ℕ} 0 1 = cc in absurd (omega arith),
      )

  pub refused_first : Case t k s (w ∷ ws) (run_call t k s (w ∷ ws)) → (n : Refusal) → (run_call t k s (w ∷ ws)).answer ≡ Err n → ((step_call t k s w).answer ≡ Err n) ⊎ (n ≡ Late)
  refused_first (stops a f e) n h =
      let r : (run_call t k s (w ∷ ws)).answer ≡ Err a = ap (λ (c : Effect (Option ℕ)). c.answer) e in
      let z : a ≡ n = cc in
      inl (ap (λ (c : Effect Bool). c.answer) (f s w) ∙ ap Err z)
  refused_first (late m a d i e) n h =
      let r : (run_call t k s (w ∷ ws)).answer ≡ Err Late = ap (λ (c : Effect (Option ℕ)). c.answer) e in
      inr (cc)
  refused_first (goes m a d i e) n h = absurd (goes_taken t k s (w ∷ ws) e n h)

-- a run that is taken, and after which the monitor fits again
pub record RunStays (t : LentTables) (k : LentMonitor) (m : Mon) (s : ℕ) (ws : List ℕ) : Type 0 where
  pub taken : run_call t k s ws ≡ many_steps t k s ws
  pub again : Ready (with k (run_call t k s ws).memory) m

pub run_stays : (t : LentTables) (k : LentMonitor) (m : Mon) (s : ℕ) (ws : List ℕ) → HoldsRule t m → Ready k m → s + length ws ≤ 9223372036854775808 → RunStays t k m s ws
run_stays t k m s ws a d h =
    let e = ready_runs t m a ws k s d h in
    record { taken = e; again = subst (λ (c : Effect (Option ℕ)). Ready (with k c.memory) m) (sym e) (ready_after t m a ws k s d) }

pub without_words : (t : LentTables) (k : LentMonitor) (s other : ℕ) → run_call t k s [] ≡ run_call t k other []
unfolding run_call in_time answers_of memory_after report_among
without_words t k s other = refl
