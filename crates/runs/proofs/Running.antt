-- The run's loop and its tests in their order.
use mathlib.Core.Path.{◌≡◌, refl, sym, ap, ap₂, subst, ◌∙◌}
use mathlib.Core.Bool.{Bool, true, false, ◌&&◌}
use mathlib.Core.List.{List, [], ◌∷◌}
use Rattle.std.specs.Prelude.{Option as Opt, None, Some, Result, Ok, Err}
use Prim.Native.Nat.{ℕ, zero, suc, ◌+◌, ◌-◌, ◌≤◌, ◌<◌}
use native.Mathlib.Omega.{arith}
use native.Mathlib.Numerals.{add-one}
use lib.Dec.{eqb, leb, ltb}
use lib.ListN.{length, get_or, drop}
use lib.Seq.{drop-cons, drop-length}
use borrow.Author.Tests.{eqb-true, lt-ltb, le-ltb, ltb-true, lt-leb, le-leb}
use Rattle.formula.proofs.Walks.{both_true}
use Rattle.formula.proofs.Cases.{true_false}
use Rattle.std.specs.Option.{is_none}
use mathlib.Core.Option.{Option}
use Rattle.result.specs.declared.Refusal.{Refusal}
use Rattle.result.specs.declared.Refusal.TheVariants.{Late}
use Rattle.monitor.specs.Mon.{Mon}
use Rattle.node_step.specs.Memory.{Memory}
use Rattle.lent.specs.Lent.{LentTables, LentMonitor, refusal_of, HoldsRule, Ready, monitor_of}
use Rattle.stepping.specs.Call.{Effect, accept_mon, accept_of, step_call, Answers, Fit}
use Rattle.stepping.proofs.Calling.{call_refused, call_late, call_fits, call_goes}
use Rattle.stepping.proofs.Staying.{Stays, stays_ready}
use Rattle.runs.specs.Run.{Answer, answers_of, memory_after, on_report, report_among, many_steps, in_time, run_call}

-- ---- the steps below 2^63
pub below_in_time : (s : ℕ) (ws : List ℕ) → s + length ws ≤ 9223372036854775808 → in_time s ws ≡ true
unfolding in_time
below_in_time s [] h = refl
below_in_time s (w ∷ ws) h = ap₂ ◌&&◌ (lt-ltb s 9223372036854775808 (omega arith)) (below_in_time (s + 1) ws (omega arith))

past_late : (s : ℕ) (w : ℕ) (ws : List ℕ) → 9223372036854775808 < s + length (w ∷ ws) → in_time s (w ∷ ws) ≡ false
unfolding in_time
past_late s w [] h = ap (λ (b : Bool). b && true) (le-ltb s 9223372036854775808 (omega arith))
past_late s w (v ∷ ws) h = ap (λ (b : Bool). ltb s 9223372036854775808 && b) (past_late (s + 1) v ws (omega arith)) ∙ none (ltb s 9223372036854775808)
  where
    none : (x : Bool) → (x && false) ≡ false
    none true = refl
    none false = refl

pub no_words : (s : ℕ) (ws : List ℕ) (b : Bool) → b ≡ eqb (length ws) 0 → b ≡ true → b ≡ in_time s ws
unfolding in_time
no_words s [] b e h = h
no_words s (w ∷ ws) b e h = let z : length (w ∷ ws) ≡ 0 = eqb-true _ _ (sym e ∙ h) in absurd (omega arith)

pub late_start : (s : ℕ) (ws : List ℕ) → (length ws ≡ 0 → ⊥) → 9223372036854775808 ≤ s → false ≡ in_time s ws
late_start s [] h l = absurd (h refl)
late_start s (w ∷ ws) h l = sym (past_late s w ws (omega arith))

pub enough_steps : (s : ℕ) (ws : List ℕ) → (length ws ≡ 0 → ⊥) → s < 9223372036854775808 → leb (length ws) (9223372036854775808 - s) ≡ in_time s ws
enough_steps s [] h l = absurd (h refl)
enough_steps s (w ∷ ws) h l = go (9223372036854775808 - s - length (w ∷ ws)) (length (w ∷ ws) - (9223372036854775808 - s)) refl refl
  where
    go : (a b : ℕ) → a ≡ 9223372036854775808 - s - length (w ∷ ws) → b ≡ length (w ∷ ws) - (9223372036854775808 - s) → leb (length (w ∷ ws)) (9223372036854775808 - s) ≡ in_time s (w ∷ ws)
    go a zero p q = le-leb (length (w ∷ ws)) (9223372036854775808 - s) (omega arith) ∙ sym (below_in_time s (w ∷ ws) (omega arith))
    go a (suc b) p q = lt-leb (length (w ∷ ws)) (9223372036854775808 - s) (omega arith) ∙ sym (past_late s w ws (omega arith))

-- ---- the loop
-- what is found so far, and else what is still found
abbrev earliest : Opt ℕ → Opt ℕ → Opt ℕ
earliest None x = x
earliest (Some n) x = Some n

earliest_none : (r : Opt ℕ) → earliest r None ≡ r
earliest_none None = refl
earliest_none (Some n) = refl

module _ (t : LentTables) (size : ℕ) (forms bounds : List ℕ) where
  abbrev pub mon_of : Memory → LentMonitor
  mon_of mem = monitor_of size forms bounds mem

  -- before word i, which is for step `here`: what is still to do leads to the same end
  pub record Along (mem₀ : Memory) (s : ℕ) (ws : List ℕ) (mem : Memory) (r : Opt ℕ) (here i : ℕ) : Type 0 where
    pub mon : Mon
    pub holds : HoldsRule t mon
    pub ready : Ready (mon_of mem) mon
    pub timely : in_time here (drop i ws) ≡ true
    pub leaves : memory_after t (mon_of mem) here (drop i ws) ≡ memory_after t (mon_of mem₀) s ws
    pub answers : earliest r (report_among here (answers_of t (mon_of mem) here (drop i ws))) ≡ report_among s (answers_of t (mon_of mem₀) s ws)

  module _ (mem₀ : Memory) (s : ℕ) (ws : List ℕ) where
    module _ (mem : Memory) (r : Opt ℕ) (here i : ℕ) (d : Along mem₀ s ws mem r here i) where
      pub along_end : i ≡ length ws → Answers (many_steps t (mon_of mem₀) s ws) (Ok r) mem
      unfolding memory_after answers_of report_among
      along_end e =
          let z : drop i ws ≡ [] = ap (λ (j : ℕ). drop j ws) e ∙ drop-length ws in
          record {
            answers = ap Ok (sym (earliest_none r) ∙ sym (ap (λ (l : List ℕ). earliest r (report_among here (answers_of t (mon_of mem) here l))) z) ∙ d.answers);
            leaves = sym (ap (memory_after t (mon_of mem) here) z) ∙ d.leaves;
          }

      module _ (h : i < length ws) where
        rest : drop i ws ≡ get_or ws i 0 ∷ drop (i + 1) ws
        rest = drop-cons ws i 0 h ∙ ap (λ (j : ℕ). get_or ws i 0 ∷ drop j ws) (sym (add-one i))

        timely_now : (ltb here 9223372036854775808 ≡ true) × (in_time (here + 1) (drop (i + 1) ws) ≡ true)
        unfolding in_time
        timely_now = both_true (ltb here 9223372036854775808) (in_time (here + 1) (drop (i + 1) ws)) (sym (ap (in_time here) rest) ∙ d.timely)

        pub along_below : here < 9223372036854775808
        along_below = ltb-true here 9223372036854775808 timely_now.0

        pub along_fit : Fit t (mon_of mem) (ltb here 9223372036854775808)
        along_fit = record { mon = d.mon; holds = d.holds; ready = d.ready; on_time = timely_now.0 }

        module _ (b : Bool) (mem' : Memory) (a : Answers (accept_of t (mon_of mem) here (get_or ws i 0)) (Ok b) mem') where
          stays : Stays t (mon_of mem) d.mon here (get_or ws i 0)
          stays = stays_ready t (mon_of mem) d.mon d.holds d.ready here (get_or ws i 0) along_below

          -- the call of `step` is what was done
          same : step_call t (mon_of mem) here (get_or ws i 0) ≡ accept_of t (mon_of mem) here (get_or ws i 0)
          same = stays.accepted ∙ sym (ap (λ (o : Option Mon). accept_mon o mem here (get_or ws i 0)) d.holds.rule)

          to_memory : (step_call t (mon_of mem) here (get_or ws i 0)).memory ≡ mem'
          to_memory = ap (λ (c : Effect Bool). c.memory) same ∙ sym a.leaves

          to_answer : (step_call t (mon_of mem) here (get_or ws i 0)).answer ≡ Ok b
          to_answer = ap (λ (c : Effect Bool). c.answer) same ∙ sym a.answers

          next : (r' : Opt ℕ) → ((x : Opt ℕ) → earliest r' x ≡ earliest r (on_report (Ok b) (Some here) x)) → Along mem₀ s ws mem' r' (here + 1) (i + 1)
          unfolding memory_after answers_of report_among
          next r' q = record {
            mon = d.mon;
            holds = d.holds;
            ready = subst (λ (y : Memory). Ready (mon_of y) d.mon) to_memory stays.again;
            timely = timely_now.1;
            leaves =
                ap (λ (y : Memory). memory_after t (mon_of y) (here + 1) (drop (i + 1) ws)) (sym to_memory)
                ∙ sym (ap (memory_after t (mon_of mem) here) rest)
                ∙ d.leaves;
            answers =
                q (report_among (here + 1) (answers_of t (mon_of mem') (here + 1) (drop (i + 1) ws)))
                ∙ ap₂ (λ (z : Answer) (y : Memory). earliest r (on_report z (Some here) (report_among (here + 1) (answers_of t (mon_of y) (here + 1) (drop (i + 1) ws))))) (sym to_answer) (sym to_memory)
                ∙ sym (ap (λ (l : List ℕ). earliest r (report_among here (answers_of t (mon_of mem) here l))) rest)
                ∙ d.answers;
          }

          -- the first report
          pub along_report : b ≡ true → is_none r ≡ true → Along mem₀ s ws mem' (Some here) (here + 1) (i + 1)
          along_report p q = next (Some here) λ x. go b r p q x
            where
              go : (b : Bool) (r : Opt ℕ) → b ≡ true → is_none r ≡ true → (x : Opt ℕ) → Some here ≡ earliest r (on_report (Ok b) (Some here) x)
              go true None p q x = refl
              go true (Some n) p q x = true_false q refl
              go false r p q x = true_false p refl

          -- no report
          pub along_quiet : b ≡ false → Along mem₀ s ws mem' r (here + 1) (i + 1)
          along_quiet p = next r λ x. ap (λ (z : Bool). earliest r (on_report (Ok z) (Some here) x)) (sym p)

          -- a report was found before
          pub along_found : is_none r ≡ false → Along mem₀ s ws mem' r (here + 1) (i + 1)
          along_found p = next r λ x. go r p x
            where
              go : (r : Opt ℕ) → is_none r ≡ false → (x : Opt ℕ) → earliest r x ≡ earliest r (on_report (Ok b) (Some here) x)
              go None p x = true_false refl p
              go (Some n) p x = refl

-- ---- the whole run
module _ (t : LentTables) (k : LentMonitor) (s : ℕ) (ws : List ℕ) (o : Opt Refusal) (e : o ≡ refusal_of t k) where
  pub run_refused : (r : Refusal) → o ≡ Some r → Answers (run_call t k s ws) (Err r) k.memory
  unfolding run_call
  run_refused r h = call_refused t k _ _ o e r h

  module _ (z : o ≡ None) (b : Bool) (p : b ≡ in_time s ws) where
    pub run_late : b ≡ false → Answers (run_call t k s ws) (Err Late) k.memory
    unfolding run_call
    run_late h = call_late t k _ _ o e z (sym p ∙ h)

    pub run_fits : b ≡ true → Fit t k (in_time s ws)
    run_fits h = call_fits t k (in_time s ws) (λ m. many_steps t k s ws) o e z (sym p ∙ h)

    pub run_taken : (r : Result (Opt ℕ) Refusal) (mem' : Memory) → b ≡ true → Answers (many_steps t k s ws) r mem' → Answers (run_call t k s ws) r mem'
    unfolding run_call
    run_taken r mem' h a = call_goes t k _ _ o e z (sym p ∙ h) (many_steps t k s ws) (λ m q. refl) r mem' a
