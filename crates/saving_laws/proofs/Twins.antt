-- Two monitors of one rule that are alike: they answer every call alike, over whatever tables, and stay so.
use mathlib.Core.Path.{◌≡◌, refl, sym, ap, ap₂, subst, ◌∙◌}
use mathlib.Core.Bool.{Bool, true, false, ◌&&◌, ◌||◌}
use mathlib.Core.Bool as bool
use mathlib.Core.List.{List, [], ◌∷◌}
use mathlib.Core.Option.{Option, none, some}
use Prim.Native.Nat.{ℕ, ◌+◌}
use lib.Dec.{leb, ltb}
use lib.ListN.{length}
use lib.Seq.{sets}
use borrow.Author.Tests.{ltb-true}
use Rattle.terms.specs.Choice.{pick}
use Rattle.std.specs.Prelude.{None, Option as Opt, Some, Result, Ok}
use Rattle.result.specs.declared.Refusal.{Refusal}
use Rattle.result.specs.declared.Refusal.TheVariants.{Short, Unfit, Late, Failed}
use Rattle.monitor.specs.Mon.{Mon}
use Rattle.meaning.specs.State.{State, failed, step}
use Rattle.node_step.specs.Memory.{Memory, get}
use Rattle.lent.specs.Lent.{LentTables, LentMonitor, table_room, rule_mon, fits, unfit, refusal_of, HoldsRule, Ready}
use Rattle.lent.proofs.Refusals.{not_refused}
use Rattle.stepping.specs.Walk.{read_mon}
use Rattle.stepping.specs.Call.{Effect, refuse, or_refuse, called, accept, step_call, with}
use Rattle.stepping.proofs.Memories.{failed_read, read_back}
use Rattle.stepping.proofs.Calling.{refused_called, ready_called}
use Rattle.stepping.proofs.Staying.{inside_own, stays_ready}
use Rattle.runs.specs.Run as runs
use Rattle.runs.specs.Run.{run_call, many_steps, memory_after, report_among, in_time}
use Rattle.bits.specs.Bits.{packed}
use Rattle.kept.specs.Kept.{keeps, kept_bytes}
use Rattle.saving.specs.Save.{save_call}
use Rattle.saving.specs.Save as save
use Rattle.saving.proofs.Saves.{save_fits, save_refused}
use Rattle.reports.specs.Calls.{step_event, run_event}
use Rattle.saving_laws.specs.Promise.{Later, event, save_event, Got, told, saved, step_told, answer, after_later, answers_of}
use Rattle.saving_laws.proofs.Alike.{Alike, step_alike, marks_alike, reports_alike, bits_alike, spent_alike, alike_over, fits_like, fits_over}

pub record Twins (k k' : LentMonitor) : Type 0 where
  pub mon : Mon
  pub one : Ready k mon
  pub other : Ready k' mon
  pub alike : Alike mon (read_mon mon k.memory 0) (read_mon mon k'.memory 0)
  pub root : (get k.memory 0).failed ≡ (get k'.memory 0).failed

module _ (t : LentTables) (k k' : LentMonitor) (w : Twins k k') where
  -- ---- both fit the same rules
  same_fit : (m : Mon) → fits m k ≡ fits m k'
  same_fit m = go (fits m k) refl (fits m k') refl
    where
      go : (a : Bool) → fits m k ≡ a → (b : Bool) → fits m k' ≡ b → fits m k ≡ fits m k'
      go true p b q = p ∙ sym (fits_over w.mon m k' (fits_like w.mon m k w.one.fit p) w.other.fit)
      go false p true q = fits_over w.mon m k (fits_like w.mon m k' w.other.fit q) w.one.fit ∙ sym q
      go false p false q = p ∙ sym q

  same_refusal : refusal_of t k ≡ refusal_of t k'
  unfolding refusal_of
  same_refusal =
      ap₂ (λ (b : Bool) (o : Opt Refusal). pick b o (Some Short)) (ap (table_room t.ops t.nums t.nodes &&◌) (w.one.room ∙ sym w.other.room)) (by_rule (rule_mon t))
    where
      by_rule : (o : Option Mon) → unfit o k ≡ unfit o k'
      by_rule none = refl
      by_rule (some m) = ap (λ (b : Bool). pick b None (Some Unfit)) (same_fit m)

  -- over tables that one is taken over, the other is taken too, and they are alike as monitors of the rule there
  pub record Both (m : Mon) : Type 0 where
    pub holds : HoldsRule t m
    pub one : Ready k m
    pub other : Ready k' m
    pub alike : Alike m (read_mon m k.memory 0) (read_mon m k'.memory 0)
    pub root : failed m (read_mon m k.memory 0) ≡ failed m (read_mon m k'.memory 0)

  both : refusal_of t k ≡ None → (m : Mon) × Both m
  both e =
      let (m, a, d) = not_refused t k e in
      let l = fits_like w.mon m k w.one.fit d.fit in (
        m,
        record {
          holds = a;
          one = d;
          other = record { fit = sym (same_fit m) ∙ d.fit; room = w.other.room };
          alike = alike_over l k.memory k'.memory 0 w.alike;
          root = failed_read m k.memory 0 ∙ w.root ∙ sym (failed_read m k'.memory 0);
        },
      )

  -- ---- a call that refuses by 1, 2 and 24 and is otherwise the same of both is the same of both
  module _ {A : Type 0} (timely : Bool) (does does' : Mon → Effect A) where
    pub record Same (c c' : Effect A) : Type 0 where
      pub answers : c.answer ≡ c'.answer
      pub twins : Twins (with k c.memory) (with k' c'.memory)

    same_by : {c c' d d' : Effect A} → c ≡ d → c' ≡ d' → Same d d' → Same c c'
    same_by {c' = c'} {d = d} p q s = subst (λ (x : Effect A). Same x c') (sym p) (subst (λ (x : Effect A). Same d x) (sym q) s)

    not_taken : (r : Refusal) → Same (refuse r k.memory) (refuse r k'.memory)
    not_taken r = record { answers = refl; twins = w }

    pub same_call : ((m : Mon) → Both m → timely ≡ true → Same (does m) (does' m)) → Same (called t k timely does) (called t k' timely does')
    same_call f = go (refusal_of t k) refl
      where
        timed : (m : Mon) (x : Both m) (b : Bool) → timely ≡ b → Same (called t k timely does) (called t k' timely does')
        timed m x true e = same_by
            (ready_called t k timely does m x.holds x.one ∙ ap (λ (b : Bool). or_refuse b Late k.memory (does m)) e)
            (ready_called t k' timely does' m x.holds x.other ∙ ap (λ (b : Bool). or_refuse b Late k'.memory (does' m)) e)
            (f m x e)
        timed m x false e = same_by
            (ready_called t k timely does m x.holds x.one ∙ ap (λ (b : Bool). or_refuse b Late k.memory (does m)) e)
            (ready_called t k' timely does' m x.holds x.other ∙ ap (λ (b : Bool). or_refuse b Late k'.memory (does' m)) e)
            (not_taken Late)

        go : (o : Opt Refusal) → refusal_of t k ≡ o → Same (called t k timely does) (called t k' timely does')
        go None e = let (m, x) = both e in timed m x timely refl
        go (Some r) e = same_by
            (refused_called t k timely does r e)
            (refused_called t k' timely does' r (sym same_refusal ∙ e))
            (not_taken r)

-- ---- a step
module _ (t : LentTables) (s w : ℕ) (k k' : LentMonitor) (z : Twins k k') where
  stepped : (m : Mon) → Both t k k' z m → ltb s 9223372036854775808 ≡ true →
      Same t k k' z (ltb s 9223372036854775808) (λ n. accept n k.memory s w) (λ n. accept n k'.memory s w) (accept m k.memory s w) (accept m k'.memory s w)
  stepped m x e =
      let st : State m = read_mon m k.memory 0 in
      let st' : State m = read_mon m k'.memory 0 in
      let i = inside_own t k m x.holds x.one in
      let i' = inside_own t k' m x.holds x.other in
      let a = stays_ready t k m x.holds x.one s w (ltb-true s 9223372036854775808 e) in
      let a' = stays_ready t k' m x.holds x.other s w (ltb-true s 9223372036854775808 e) in
      let r : read_mon m (accept m k.memory s w).memory 0 ≡ (step m st s w).state = read_back m (step m st s w).state k.memory 0 i in
      let r' : read_mon m (accept m k'.memory s w).memory 0 ≡ (step m st' s w).state = read_back m (step m st' s w).state k'.memory 0 i' in
      record {
        answers = ap Ok (reports_alike m st st' s w x.alike x.root);
        twins = record {
          mon = m;
          one = subst (λ (c : Effect Bool). Ready (with k c.memory) m) a.accepted a.again;
          other = subst (λ (c : Effect Bool). Ready (with k' c.memory) m) a'.accepted a'.again;
          alike = subst (λ (y : State m). Alike m y (read_mon m (accept m k'.memory s w).memory 0)) (sym r)
              (subst (λ (y : State m). Alike m (step m st s w).state y) (sym r') (step_alike m st st' s w x.alike).again);
          root =
              sym (failed_read m (accept m k.memory s w).memory 0)
              ∙ ap (failed m) r
              ∙ marks_alike m st st' s w x.alike x.root
              ∙ sym (ap (failed m) r')
              ∙ failed_read m (accept m k'.memory s w).memory 0;
        };
      }

  pub twin_step : Same t k k' z (ltb s 9223372036854775808) (λ n. accept n k.memory s w) (λ n. accept n k'.memory s w) (step_call t k s w) (step_call t k' s w)
  unfolding step_call
  twin_step = same_call t k k' z (ltb s 9223372036854775808) (λ n. accept n k.memory s w) (λ n. accept n k'.memory s w) stepped

-- ---- a run
record SameRun (t : LentTables) (k k' : LentMonitor) (s : ℕ) (ws : List ℕ) : Type 0 where
  answers : runs.answers_of t k s ws ≡ runs.answers_of t k' s ws
  twins : Twins (with k (memory_after t k s ws)) (with k' (memory_after t k' s ws))

many : (t : LentTables) (k k' : LentMonitor) → Twins k k' → (s : ℕ) (ws : List ℕ) → SameRun t k k' s ws
unfolding runs.answers_of memory_after
many t k k' z s [] = record { answers = refl; twins = z }
many t k k' z s (w ∷ ws) =
    let x = twin_step t s w k k' z in
    let y = many t (with k (step_call t k s w).memory) (with k' (step_call t k' s w).memory) x.twins (s + 1) ws in
    record { answers = ap₂ (λ (v : Result Bool Refusal) (vs : List (Result Bool Refusal)). v ∷ vs) x.answers y.answers; twins = y.twins }

module _ (t : LentTables) (s : ℕ) (ws : List ℕ) (k k' : LentMonitor) (z : Twins k k') where
  pub twin_run : Same t k k' z (in_time s ws) (λ m. many_steps t k s ws) (λ m. many_steps t k' s ws) (run_call t k s ws) (run_call t k' s ws)
  unfolding run_call
  twin_run = same_call t k k' z (in_time s ws) (λ m. many_steps t k s ws) (λ m. many_steps t k' s ws) (λ m x e.
      let y = many t k k' z s ws in
      record { answers = ap (λ (vs : List (Result Bool Refusal)). Ok (report_among s vs)) y.answers; twins = y.twins })

-- ---- saving
module _ (t : LentTables) (bytes : List ℕ) (k k' : LentMonitor) (z : Twins k k') where
  pub twin_save : save_call t k bytes ≡ save_call t k' bytes
  twin_save = go (refusal_of t k) refl
    where
      go : (o : Opt Refusal) → refusal_of t k ≡ o → save_call t k bytes ≡ save_call t k' bytes
      go None e =
          let (m, x) = both t k k' z e in
          let a : Memory = k.memory in
          let b : Memory = k'.memory in
          save_fits t k bytes m x.holds x.one
          ∙ ap₂ (λ (f : Bool) (bs : List Bool). save.or_refuse (leb (kept_bytes (keeps m)) (length bytes)) Short bytes (save.or_refuse (bool.not f) Failed bytes (record { answer = Ok (kept_bytes (keeps m)); bytes = sets bytes 0 (packed bs) })))
          (ap₂ ◌||◌ z.root (spent_alike a b m 0 x.alike))
          (bits_alike a b m 0 x.alike)
          ∙ sym (save_fits t k' bytes m x.holds x.other)
      go (Some r) e = save_refused t k bytes r e ∙ sym (save_refused t k' bytes r (sym (same_refusal t k k' z) ∙ e))

-- ---- lists of calls
record SameGot (c : Later) (k k' : LentMonitor) : Type 0 where
  got : answer c k ≡ answer c k'
  twins : Twins (after_later c k) (after_later c k')

one_call : (c : Later) (k k' : LentMonitor) → Twins k k' → SameGot c k k'
one_call (event (step_event t s w)) k k' z =
    let x = twin_step t s w k k' z in
    record { got = ap (λ (v : Result Bool Refusal). told (step_told v s)) x.answers; twins = x.twins }
one_call (event (run_event t s ws)) k k' z =
    let x = twin_run t s ws k k' z in
    record { got = ap told x.answers; twins = x.twins }
one_call (save_event t bytes) k k' z = record { got = ap saved (twin_save t bytes k k' z); twins = z }

pub answers_alike : (k k' : LentMonitor) → Twins k k' → (cs : List Later) → answers_of k cs ≡ answers_of k' cs
unfolding answers_of
answers_alike k k' z [] = refl
answers_alike k k' z (c ∷ cs) =
    let x = one_call c k k' z in
    ap₂ (λ (g : Got) (gs : List Got). g ∷ gs) x.got (answers_alike (after_later c k) (after_later c k') x.twins cs)
