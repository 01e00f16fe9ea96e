-- The laws of single calls: a call of `step` or `run` follows the tree's state, keeps the monitor ready, and is accepted where it is lent enough.
use mathlib.Core.Path.{◌≡◌, refl, sym, ap, ap₂, subst, ◌∙◌}
use mathlib.Core.Bool.{Bool, true, false, cond}
use mathlib.Core.List.{List, [], ◌∷◌}
use mathlib.Core.Option.{Option, none, some}
use Prim.Native.Nat.{ℕ, ◌+◌, ◌≤◌, ◌<◌}
use native.Mathlib.Omega.{arith}
use lib.ListN.{length}
use Rattle.std.specs.Prelude.{Option as Opt, Some, Result, Ok, Err}
use Rattle.result.specs.declared.Refusal.{Refusal}
use Rattle.formula.proofs.Trees.{some_inj}
use Rattle.monitor.specs.Mon.{Mon}
use Rattle.meaning.specs.State.{State, step, newly_failed}
use Rattle.meaning.specs.Calls.{Call, accepted, step_all, words_of, step_count, Below}
use Rattle.meaning.specs.Calls as calls
use Rattle.meaning.specs.Demand.{Fair, Lent}
use Rattle.meaning.proofs.Machines.{Lawful}
use Rattle.node_step.specs.Memory.{Memory}
use Rattle.lent.specs.Lent.{LentTables, LentMonitor, rule_mon, HoldsRule, Ready}
use Rattle.stepping.specs.Walk.{read_mon}
use Rattle.stepping.specs.Call.{Effect, step_call, with}
use Rattle.stepping.proofs.Staying.{stays_ready, Answered, no_step, steps as stepped, answered, refused_leaves, accepted_windows}
use Rattle.runs.specs.Run.{answers_of, memory_after, report_among, on_report, run_call, Accepts, Each}
use Rattle.runs.proofs.Calls.{ready_after}
use Rattle.runs.proofs.Runs.{is_calls, all_accepted, refused_untouched, fits_again, no_words}
use Rattle.reports.specs.Calls.{Event, step_event, run_event, in_turn, calls_by, named, step_report, run_report, event_calls, event_report, after_event, on_slices, ReadsAs}

-- ---- one accepted call of `step`, over the rule's own table
module _ (m : Mon) (t : LentTables) (own : rule_mon t ≡ some m) (k : LentMonitor) (s w : ℕ) (st : State m) (r : ReadsAs m k st) where
  accepted_step : (b : Bool) → (step_call t k s w).answer ≡ Ok b → (read_mon m (step_call t k s w).memory 0 ≡ (step m st s w).state) × (b ≡ newly_failed m st s w)
  accepted_step b q =
      let x = accepted_windows t k s w b q in
      let same : x.mon ≡ m = some_inj (sym x.rule ∙ own) in
      let (a, c) = subst (λ (y : Mon). (read_mon y (step_call t k s w).memory 0 ≡ (step y (read_mon y k.memory 0) s w).state) × (b ≡ newly_failed y (read_mon y k.memory 0) s w)) same (x.steps, x.reports) in
      (a ∙ ap (λ (y : State m). (step m y s w).state) r, c ∙ ap (λ (y : State m). newly_failed m y s w) r)

-- an accepted call went over tables with room, below 2^63
pub accepted_room : (m : Mon) (t : LentTables) (k : LentMonitor) (s w : ℕ) (b : Bool) →
    rule_mon t ≡ some m → (step_call t k s w).answer ≡ Ok b → HoldsRule t m × (s < 9223372036854775808)
accepted_room m t k s w b own q = go (answered t k s w)
  where
    go : Answered t k s w (step_call t k s w) → HoldsRule t m × (s < 9223372036854775808)
    go (no_step n e) =
        let p : (step_call t k s w).answer ≡ Err n = ap (λ (c : Effect Bool). c.answer) e in
        let z : ◌≡◌ {A = ℕ} 0 1 = cc in
        absurd (omega arith)
    go (stepped x a d h e) = (record { rule = own; room = a.room }, h)

report_cond : (b : Bool) (s : ℕ) → step_report (Ok b) s ≡ cond b (some s) none
report_cond true s = refl
report_cond false s = refl

-- ---- a call of `step`
module _ (m : Mon) (t : LentTables) (s w : ℕ) (k : LentMonitor) where
  abbrev one : List Call
  one = accepted s w ∷ []

  one_step : (b : Bool) → (step_call t k s w).answer ≡ Ok b → 1 ≤ step_count (calls_by (step_call t k s w).answer one)
  unfolding words_of
  one_step b q = subst (λ (r : Result Bool Refusal). 1 ≤ step_count (calls_by r one)) (sym q) (omega arith)

  abbrev StepGoal : State m → Result Bool Refusal → Type 0
  StepGoal st a = (read_mon m (step_call t k s w).memory 0 ≡ step_all m st (calls_by a one)) × (step_report a s ≡ calls.report_of m st (calls_by a one))

  step_follows : (st : State m) → ReadsAs m k st → Fair on_slices m (step_event t s w) k → ReadsAs m (after_event (step_event t s w) k) (step_all m st (event_calls (step_event t s w) k)) × (event_report (step_event t s w) k ≡ calls.report_of m st (event_calls (step_event t s w) k))
  unfolding step_all calls.report_of
  step_follows st r fair = go (step_call t k s w).answer refl
    where
      go : (a : Result Bool Refusal) → (step_call t k s w).answer ≡ a → StepGoal st (step_call t k s w).answer
      go (Ok b) q =
          let (x, y) = accepted_step m t (fair (one_step b q)) k s w st r b q in
          subst (StepGoal st) (sym q) (x, report_cond b s ∙ ap (λ (c : Bool). cond c (some s) none) y)
      go (Err n) q = subst (StepGoal st) (sym q) (ap (λ (x : Memory). read_mon m x 0) (refused_leaves t k s w n q) ∙ r, refl)

  step_stays : Ready k m → Fair on_slices m (step_event t s w) k → Ready (after_event (step_event t s w) k) m
  step_stays d fair = go (step_call t k s w).answer refl
    where
      go : (a : Result Bool Refusal) → (step_call t k s w).answer ≡ a → Ready (with k (step_call t k s w).memory) m
      go (Ok b) q =
          let (a, h) = accepted_room m t k s w b (fair (one_step b q)) q in
          (stays_ready t k m a d s w h).again
      go (Err n) q = subst (λ (x : Memory). Ready (with k x) m) (sym (refused_leaves t k s w n q)) d

  step_takes : Ready k m → Lent on_slices m (step_event t s w) → event_calls (step_event t s w) k ≡ accepted s w ∷ []
  unfolding Below
  step_takes d g =
      let x = stays_ready t k m (record { rule = g.own; room = g.roomy }) d s w g.below.0 in
      ap (λ (c : Effect Bool). calls_by c.answer one) x.accepted

-- ---- a call of `run`
report_first : (v : Result Bool Refusal) (b : Bool) (s : ℕ) (y : Opt ℕ) → v ≡ Ok b → named (on_report v (Some s) y) ≡ cond b (some s) (named y)
report_first v true s y q = ap (λ (r : Result Bool Refusal). named (on_report r (Some s) y)) q
report_first v false s y q = ap (λ (r : Result Bool Refusal). named (on_report r (Some s) y)) q

-- accepted calls one behind the other
many : (m : Mon) (t : LentTables) → rule_mon t ≡ some m → (ws : List ℕ) (k : LentMonitor) (s : ℕ) (st : State m) → ReadsAs m k st → Each Accepts (answers_of t k s ws) → (read_mon m (memory_after t k s ws) 0 ≡ step_all m st (in_turn s ws)) × (named (report_among s (answers_of t k s ws)) ≡ calls.report_of m st (in_turn s ws))
unfolding answers_of memory_after report_among in_turn step_all calls.report_of Each
many m t own [] k s st r e = (r, refl)
many m t own (w ∷ ws) k s st r e =
    let (b, q) = e.0 in
    let (x, y) = accepted_step m t own k s w st r b q in
    let (u, v) = many m t own ws (with k (step_call t k s w).memory) (s + 1) (step m st s w).state x e.1 in
    (u, report_first (step_call t k s w).answer b s (report_among (s + 1) (answers_of t (with k (step_call t k s w).memory) (s + 1) ws)) q ∙ ap₂ (λ (c : Bool) (o : Option ℕ). cond c (some s) o) y v)

ok_inj : {A : Type 0} {a b : A} → ◌≡◌ {A = Result A Refusal} (Ok a) (Ok b) → a ≡ b
ok_inj e = cc

not_refused : {A : Type 0} {c : Result A Refusal} {a : A} → c ≡ Ok a → (n : Refusal) → c ≡ Err n → ⊥
not_refused p n q = let z : ◌≡◌ {A = ℕ} 0 1 = cc in omega arith

below_all : (ws : List ℕ) (s w : ℕ) → Below (in_turn s (w ∷ ws)) → s + length (w ∷ ws) ≤ 9223372036854775808
unfolding Below in_turn
below_all [] s w h = omega (arith, h.0)
below_all (v ∷ ws) s w h = omega (arith, below_all ws (s + 1) v h.1)

module _ (m : Mon) (t : LentTables) (s : ℕ) (k : LentMonitor) where
  -- over words that were stepped the rule's own table was lent
  fair_own : (w : ℕ) (ws : List ℕ) (o : Opt ℕ) → (run_call t k s (w ∷ ws)).answer ≡ Ok o → Fair on_slices m (run_event t s (w ∷ ws)) k → rule_mon t ≡ some m
  unfolding words_of in_turn
  fair_own w ws o q fair = fair (subst (λ (a : Result (Opt ℕ) Refusal). 1 ≤ step_count (calls_by a (in_turn s (w ∷ ws)))) (sym q) (omega arith))

  taken_follows : (ws : List ℕ) (st : State m) (o : Opt ℕ) → (run_call t k s ws).answer ≡ Ok o → ReadsAs m k st → Fair on_slices m (run_event t s ws) k → (read_mon m (run_call t k s ws).memory 0 ≡ step_all m st (in_turn s ws)) × (named o ≡ calls.report_of m st (in_turn s ws))
  unfolding answers_of memory_after report_among in_turn step_all calls.report_of
  taken_follows [] st o q r fair =
      let e = is_calls t k s [] (not_refused q) in
      (ap (λ (c : Effect (Opt ℕ)). read_mon m c.memory 0) e ∙ r, ap named (ok_inj (sym q ∙ ap (λ (c : Effect (Opt ℕ)). c.answer) e)))
  taken_follows (w ∷ ws) st o q r fair =
      let e = is_calls t k s (w ∷ ws) (not_refused q) in
      let (x, y) = many m t (fair_own w ws o q fair) (w ∷ ws) k s st r (all_accepted t k s (w ∷ ws) (not_refused q)) in
      (ap (λ (c : Effect (Opt ℕ)). read_mon m c.memory 0) e ∙ x, ap named (ok_inj (sym q ∙ ap (λ (c : Effect (Opt ℕ)). c.answer) e)) ∙ y)

  abbrev RunGoal : List ℕ → State m → Result (Opt ℕ) Refusal → Type 0
  RunGoal ws st a = (read_mon m (run_call t k s ws).memory 0 ≡ step_all m st (calls_by a (in_turn s ws))) × (run_report a ≡ calls.report_of m st (calls_by a (in_turn s ws)))

  run_follows : (ws : List ℕ) (st : State m) → ReadsAs m k st → Fair on_slices m (run_event t s ws) k → ReadsAs m (after_event (run_event t s ws) k) (step_all m st (event_calls (run_event t s ws) k)) × (event_report (run_event t s ws) k ≡ calls.report_of m st (event_calls (run_event t s ws) k))
  unfolding step_all calls.report_of
  run_follows ws st r fair = go (run_call t k s ws).answer refl
    where
      go : (a : Result (Opt ℕ) Refusal) → (run_call t k s ws).answer ≡ a → RunGoal ws st (run_call t k s ws).answer
      go (Ok o) q = subst (RunGoal ws st) (sym q) (taken_follows ws st o q r fair)
      go (Err n) q = subst (RunGoal ws st) (sym q) (ap (λ (x : Memory). read_mon m x 0) (refused_untouched t k s ws n q) ∙ r, refl)

  run_stays : (ws : List ℕ) → Ready k m → Fair on_slices m (run_event t s ws) k → Ready (after_event (run_event t s ws) k) m
  unfolding memory_after answers_of Each
  run_stays ws d fair = go ws (run_call t k s ws).answer refl fair
    where
      go : (vs : List ℕ) (a : Result (Opt ℕ) Refusal) → (run_call t k s vs).answer ≡ a → Fair on_slices m (run_event t s vs) k → Ready (with k (run_call t k s vs).memory) m
      go vs (Err n) q f = subst (λ (x : Memory). Ready (with k x) m) (sym (refused_untouched t k s vs n q)) d
      go [] (Ok o) q f = subst (λ (c : Effect (Opt ℕ)). Ready (with k c.memory) m) (sym (is_calls t k s [] (not_refused q))) d
      go (w ∷ vs) (Ok o) q f =
          let (b, p) = (all_accepted t k s (w ∷ vs) (not_refused q)).0 in
          let (a, h) = accepted_room m t k s w b (fair_own w vs o q f) p in
          subst (λ (c : Effect (Opt ℕ)). Ready (with k c.memory) m) (sym (is_calls t k s (w ∷ vs) (not_refused q))) (ready_after t m a (w ∷ vs) k s d)

  run_takes : (ws : List ℕ) → Ready k m → Lent on_slices m (run_event t s ws) → event_calls (run_event t s ws) k ≡ in_turn s ws
  run_takes [] d g =
      let a : HoldsRule t m = record { rule = g.own; room = g.roomy } in
      ap (λ (c : Effect (Opt ℕ)). calls_by c.answer (in_turn s [])) (no_words t k s 0 ∙ (fits_again t k 0 [] m a d (omega arith)).taken)
  run_takes (w ∷ ws) d g =
      let a : HoldsRule t m = record { rule = g.own; room = g.roomy } in
      ap (λ (c : Effect (Opt ℕ)). calls_by c.answer (in_turn s (w ∷ ws))) (fits_again t k s (w ∷ ws) m a d (below_all ws s w g.below)).taken

-- ---- the machine
pub lawful : (m : Mon) → Lawful on_slices m (ReadsAs m) (λ k. Ready k m)
lawful m = record { follows = follows; stays = stays; takes = takes }
  where
    follows : (e : Event) (k : LentMonitor) (st : State m) → ReadsAs m k st → Fair on_slices m e k → ReadsAs m (after_event e k) (step_all m st (event_calls e k)) × (event_report e k ≡ calls.report_of m st (event_calls e k))
    follows (step_event t s w) k st r f = step_follows m t s w k st r f
    follows (run_event t s ws) k st r f = run_follows m t s k ws st r f

    stays : (e : Event) (k : LentMonitor) → Ready k m → Fair on_slices m e k → Ready (after_event e k) m
    stays (step_event t s w) k d f = step_stays m t s w k d f
    stays (run_event t s ws) k d f = run_stays m t s k ws d f

    takes : (e : Event) (k : LentMonitor) → Ready k m → Lent on_slices m e → event_calls e k ≡ on_slices.asks e
    takes (step_event t s w) k d g = step_takes m t s w k d g
    takes (run_event t s ws) k d g = run_takes m t s k ws d g
