-- A machine that follows a monitor, and keeps its memory ready, meets the demand.
--     Lawful        what is asked of single events
--     meets         from there to the demand
use mathlib.Core.Path.{◌≡◌, refl, sym, ap, subst, ◌∙◌}
use mathlib.Core.List.{List, [], ◌∷◌, ◌++◌, append_assoc, append-nil}
use mathlib.Core.Logic.{◌↔◌}
use mathlib.Core.Option.{Option, some}
use Prim.Native.Nat.{ℕ, ◌+◌, ◌<◌}
use native.Mathlib.Nat.{zero-add}
use Rattle.formula.specs.Formula.{Formula}
use Rattle.monitor.specs.Mon.{Mon}
use Rattle.monitor.specs.Compile.{rule_node}
use Rattle.meaning.specs.Alarm.{Record, Alarm, First}
use Rattle.meaning.specs.State.{State, initial_state, after}
use Rattle.meaning.specs.Calls.{Call, accepted, step_all, report_of, AcceptedAt, InOrder, step_count, Over, record_of}
use Rattle.meaning.specs.Demand.{Machine, run_all, calls_of, Fair, AllFair, Lent, Tells, Demand}
use Rattle.meaning.proofs.Calls.{in_order_split, over_part, over_rest, stepped_append, stepped_part, reported, obligations_sound, nodes_sound}
use Rattle.meaning.proofs.Plains.{plain_exact}

module _ {Memory Event : Type 0} (k : Machine Memory Event) where
  -- the memory reads as a state of m, which a fair event steps and reports as its calls do; a memory that is ready stays so, and then
  -- an event that is lent enough is accepted
  pub record Lawful (m : Mon) (Carries : Memory → State m → Type 0) (Fit : Memory → Type 0) : Type 0 where
    pub follows : (e : Event) (mem : Memory) (st : State m) → Carries mem st → Fair k m e mem →
        Carries (k.run e mem) (step_all m st (k.calls e mem)) × (k.reports e mem ≡ report_of m st (k.calls e mem))
    pub stays : (e : Event) (mem : Memory) → Fit mem → Fair k m e mem → Fit (k.run e mem)
    pub takes : (e : Event) (mem : Memory) → Fit mem → Lent k m e → k.calls e mem ≡ k.asks e

  calls_append : (mem : Memory) (xs ys : List Event) → calls_of k mem (xs ++ ys) ≡ calls_of k mem xs ++ calls_of k (run_all k mem xs) ys
  unfolding calls_of run_all
  calls_append mem [] ys = refl
  calls_append mem (e ∷ xs) ys =
      ap (k.calls e mem ++◌) (calls_append (k.run e mem) xs ys)
      ∙ sym (append_assoc (k.calls e mem) (calls_of k (k.run e mem) xs) (calls_of k (run_all k (k.run e mem) xs) ys))

  fair_split : (m : Mon) (mem : Memory) (xs ys : List Event) → AllFair k m mem (xs ++ ys) → AllFair k m mem xs × AllFair k m (run_all k mem xs) ys
  unfolding run_all AllFair
  fair_split m mem [] ys f = (tt, f)
  fair_split m mem (e ∷ xs) ys f = let (a, b) = fair_split m (k.run e mem) xs ys f.1 in ((f.0, a), b)

  module _ (m : Mon) (Carries : Memory → State m → Type 0) (Fit : Memory → Type 0) (law : Lawful m Carries Fit) where
    -- the memory after fair events reads as the state after their calls
    pub reads_on : (mem : Memory) (st : State m) (xs : List Event) → Carries mem st → AllFair k m mem xs → Carries (run_all k mem xs) (step_all m st (calls_of k mem xs))
    unfolding calls_of run_all AllFair step_all
    reads_on mem st [] r f = r
    reads_on mem st (e ∷ xs) r f =
        subst (Carries (run_all k (k.run e mem) xs)) (sym (stepped_append m st (k.calls e mem) (calls_of k (k.run e mem) xs)))
        (reads_on (k.run e mem) _ xs (law.follows e mem st r f.0).0 f.1)

    ready_on : (mem : Memory) (xs : List Event) → Fit mem → AllFair k m mem xs → Fit (run_all k mem xs)
    unfolding run_all AllFair
    ready_on mem [] r f = r
    ready_on mem (e ∷ xs) r f = ready_on (k.run e mem) xs (law.stays e mem r f.0) f.1

    module _ (mem : Memory) (r : Carries mem (initial_state m)) (rec : Record) where
      -- one event behind others, its calls in order over the record
      one_event : (xs : List Event) (e : Event) (ds rest : List Call) → AllFair k m mem xs → Fair k m e (run_all k mem xs) → k.calls e (run_all k mem xs) ≡ ds → InOrder 0 (calls_of k mem xs ++ (ds ++ rest)) → Over rec (calls_of k mem xs ++ (ds ++ rest)) → (s : ℕ) → (k.reports e (run_all k mem xs) ≡ some s) ↔ (AcceptedAt s ds × First (Alarm m rec) s)
      one_event xs e ds rest f g q h o s =
          let cs : List Call = calls_of k mem xs in
          let x : Carries (run_all k mem xs) (step_all m (initial_state m) cs) = reads_on mem (initial_state m) xs r f in
          let y : step_all m (initial_state m) cs ≡ after m rec (step_count cs) = stepped_part m rec cs (ds ++ rest) h o in
          let i : InOrder (step_count cs) (ds ++ rest) = subst (λ (j : ℕ). InOrder j (ds ++ rest)) (zero-add (step_count cs)) (in_order_split 0 cs (ds ++ rest) h).1 in
          let o' : Over rec ((cs ++ ds) ++ rest) = subst (Over rec) (sym (append_assoc cs ds rest)) o in
          let z = reported m rec (step_count cs) ds (in_order_split (step_count cs) ds rest i).0 (over_rest rec cs ds (over_part rec (cs ++ ds) rest o')) s in
          let v : k.reports e (run_all k mem xs) ≡ report_of m (after m rec (step_count cs)) ds = (law.follows e (run_all k mem xs) _ x g).1 ∙ ap (report_of m (step_all m (initial_state m) cs)) q ∙ ap (λ (st : State m). report_of m st ds) y in
          subst (λ (a : Option ℕ). (a ≡ some s) ↔ (AcceptedAt s ds × First (Alarm m rec) s)) (sym v) z

      pub tells : (es : List Event) → AllFair k m mem es → InOrder 0 (calls_of k mem es) → Over rec (calls_of k mem es) → Tells k m Carries rec mem es
      unfolding calls_of AllFair
      tells es f h o = record {
        reports = λ xs e ys q.
            let (a, b) = fair_split m mem xs (e ∷ ys) (subst (AllFair k m mem) q f) in
            let c = ap (calls_of k mem) q ∙ calls_append mem xs (e ∷ ys) in
            one_event xs e (k.calls e (run_all k mem xs)) (calls_of k (k.run e (run_all k mem xs)) ys) a b.0 refl (subst (InOrder 0) c h) (subst (Over rec) c o);
        after = λ xs ys q.
            let (a, b) = fair_split m mem xs ys (subst (AllFair k m mem) q f) in
            let c = ap (calls_of k mem) q ∙ calls_append mem xs ys in
            let y : step_all m (initial_state m) (calls_of k mem xs) ≡ after m rec (step_count (calls_of k mem xs)) = stepped_part m rec (calls_of k mem xs) _ (subst (InOrder 0) c h) (subst (Over rec) c o) in
            record {
              state = after m rec (step_count (calls_of k mem xs));
              reads = subst (Carries (run_all k mem xs)) y (reads_on mem (initial_state m) xs r a);
              obligations = obligations_sound m rec (step_count (calls_of k mem xs));
              nodes = nodes_sound m rec (step_count (calls_of k mem xs));
            };
      }

  -- the demand, of the rule f at place i of its table
  pub meets : (f : Formula) (i : ℕ) (Carries : Memory → State (rule_node f i) → Type 0) (Fit : Memory → Type 0) →
      Lawful (rule_node f i) Carries Fit → (mem : Memory) → Carries mem (initial_state (rule_node f i)) → Fit mem →
      ((s w : ℕ) → s < 9223372036854775808 → (e : Event) × Lent k (rule_node f i) e × (k.asks e ≡ accepted s w ∷ [])) →
      Demand k f (rule_node f i) Carries mem
  meets f i Carries Fit law mem r d l = record {
    tells = λ es a h. tells (rule_node f i) Carries Fit law mem r (record_of (calls_of k mem es)) es a h (λ j z. refl);
    accepts = takes_on;
    lends = l;
    plain = λ p rec. let x = plain_exact p rec i in record {
      false_at_0 = (λ h. x.complete h, λ (s, a). x.sound s a);
      at_first = λ s first es a e g h o t.
          let q = takes_on es a e g in
          let c : k.asks e ≡ k.asks e ++ [] = sym (append-nil (k.asks e)) in
          (q, (one_event (rule_node f i) Carries Fit law mem r rec es e (k.asks e) [] a (λ z. g.own) q (subst (λ (ds : List Call). InOrder 0 (calls_of k mem es ++ ds)) c h) (subst (λ (ds : List Call). Over rec (calls_of k mem es ++ ds)) c o) s).1 (t, first));
    };
  }
    where
      takes_on : (es : List Event) → AllFair k (rule_node f i) mem es → (e : Event) → Lent k (rule_node f i) e → k.calls e (run_all k mem es) ≡ k.asks e
      takes_on es a e g = law.takes e (run_all k mem es) (ready_on (rule_node f i) Carries Fit law mem es d a) g
