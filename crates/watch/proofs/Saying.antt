-- A watch over step lines numbered 0, 1, 2 and on prints the report of their record.
--     rule_says   from the rule's formula and the compiler's answer on
use mathlib.Core.Bool.{Bool, true, false, ◌&&◌, cond}
use mathlib.Core.List.{List, [], ◌∷◌}
use mathlib.Core.Logic.{⊎_elim}
use mathlib.Core.Option.{Option, none, some}
use mathlib.Core.Path.{◌≡◌, refl, sym, ap, ap₂, subst, ◌∙◌}
use Prim.Native.Nat.{ℕ, suc, ◌+◌, ◌≤◌, ◌<◌}
use native.Mathlib.Nat.{zero-add}
use native.Mathlib.Omega.{arith}
use lib.IntN.{ℤ}
use lib.ListN.{length, get_or, replicate, length-map}
use Rattle.std.specs.Prelude.{Ok}
use Rattle.std.specs.Prelude.{Result as Returned}
use Rattle.result.specs.Result.{Result, given}
use Rattle.result.specs.declared.Refusal.{Refusal}
use Rattle.formula.specs.Formula.{Formula}
use Rattle.formula.specs.Table.{rule_of}
use Rattle.formula.proofs.Cases.{below_or}
use Rattle.monitor.specs.Mon.{range_check, delayed_check, obligation, Mon, check, And, Or}
use Rattle.monitor.specs.Compile.{rule_node}
use Rattle.compiler.specs.Compiled.{compile_call}
use Rattle.meaning.specs.Alarm.{Record, Alarm, First, NoneBelow}
use Rattle.meaning.specs.Culprit as meaning
use Rattle.meaning.specs.Calls.{first_report}
use Rattle.meaning.specs.Meaning.{Judged}
use Rattle.meaning.specs.State.{State, step, newly_failed, culprit, initial_state, after}
use Rattle.meaning.proofs.Meaning.{judged, culprit_unique}
use Rattle.meaning.proofs.Culprits.{first_unique}
use Rattle.meaning.proofs.Steps.{first_alarm}
use Rattle.book.specs.Book.{StepLine}
use Rattle.reader.specs.Steps.{steps_from}
use Rattle.lent.specs.Lent.{LentTables, HoldsRule, Ready}
use Rattle.stepping.specs.Walk.{read_mon, Blameless}
use Rattle.stepping.specs.Call.{Effect, step_call}
use Rattle.stepping.specs.Fresh.{or_short, make_mon, fresh_call}
use Rattle.stepping.proofs.Fitting.{fits_inv}
use Rattle.stepping.proofs.Memories.{read_back}
use Rattle.stepping.proofs.Staying.{inside_own, stays_ready}
use Rattle.in_place.specs.declared.ReferenceMonitor.{ReferenceMonitor}
use Rattle.in_place.specs.InPlace.{memory_of, held_by, step_in, fresh_in}
use Rattle.in_place_reports.specs.Calls.{ReadsAs}
use Rattle.reports.specs.Calls.{compiled_tables}
use Rattle.reports.proofs.Demand.{compiled_room}
use Rattle.in_place_reports.proofs.Demand.{started, own_table}
use Rattle.watch.specs.declared.rule.Report.{Report}
use Rattle.watch.specs.Watch.{Watched, no_report, reported, root_culprit, on_verdict, on_outcome, on_compiled, watched, blank_monitor, compiled_watched, rule_watched}
use Rattle.watch.specs.Reports.{NumberedFrom, truths_of, line_record, SaysReport}

found : Option (ℕ × ℤ) → Watched
found none = no_report
found (some x) = reported x.0 x.1

-- the root's entry names the state's culprit
root_names : (m : Mon) (k : ReferenceMonitor) → Ready (held_by k) m → root_culprit k ≡ culprit m (read_mon m (memory_of k) 0)
unfolding read_mon Blameless
root_names (check (range_check p r)) k d = (fits_inv (check (range_check p r)) (held_by k) d.fit).1.blameless
root_names (check (delayed_check p q r)) k d = (fits_inv (check (delayed_check p q r)) (held_by k) d.fit).1.blameless
root_names (check (obligation b p q r)) k d = refl
root_names (And m n) k d = refl
root_names (Or m n) k d = refl

one_line : (b : Bool) (s : ℕ) (c : ℤ) (w : Watched) (o : Option (ℕ × ℤ)) → w ≡ found o → on_verdict (Ok b) s c w ≡ found (cond b (some (s, c)) o)
unfolding found
one_line true s c w o e = refl
one_line false s c w o e = e

module _ (t : LentTables) (m : Mon) (a : HoldsRule t m) where
  -- from a ready monitor on, a watch is what stepping its state over the truths finds
  watched_is : (ls : List StepLine) (k : ReferenceMonitor) (s : ℕ) (st : State m) → Ready (held_by k) m → ReadsAs m k st → NumberedFrom s ls → s + length ls ≤ 9223372036854775808 → watched t k ls ≡ found (first_report m st s (truths_of ls))
  unfolding watched first_report NumberedFrom step_in found
  watched_is [] k s st d r e h = refl
  watched_is (l ∷ ls) k s st d r e h =
      let n : ℕ = l.number in
      let w : ℕ = l.truths in
      let x = stays_ready t (held_by k) m a d n w (omega (arith, e.0)) in
      let next : ReferenceMonitor = (step_in t k n w).monitor in
      let q : read_mon m (memory_of next) 0 ≡ (step m st n w).state = ap (λ (c : Effect Bool). read_mon m c.memory 0) x.accepted ∙ read_back m (step m (read_mon m (memory_of k) 0) n w).state (memory_of k) 0 (inside_own t (held_by k) m a d) ∙ ap (λ (y : State m). (step m y n w).state) r in
      let v : (step_call t (held_by k) n w).answer ≡ Ok (newly_failed m st n w) = ap (λ (c : Effect Bool). c.answer) x.accepted ∙ ap (λ (y : State m). Ok (newly_failed m y n w)) r in
      let z : root_culprit next ≡ culprit m (step m st n w).state = root_names m next x.again ∙ ap (culprit m) q in
      let u = watched_is ls next (suc s) (step m st n w).state x.again q e.1 (omega arith) in
      ap₂ (λ (y : Returned Bool Refusal) (c : ℤ). on_verdict y n c (watched t next ls)) v z
      ∙ one_line (newly_failed m st n w) n (culprit m (step m st n w).state) (watched t next ls) (first_report m (step m st n w).state (suc s) (truths_of ls)) u
      ∙ ap (λ (i : ℕ). found (cond (newly_failed m st i w) (some (i, culprit m (step m st i w).state)) (first_report m (step m st i w).state (suc s) (truths_of ls)))) e.0

-- ---- the report of the record
length_truths : (ls : List StepLine) → length (truths_of ls) ≡ length ls
length_truths ls = length-map ls (λ l. l.truths)

module _ (m : Mon) (ls : List StepLine) where
  abbrev rec : Record
  rec = line_record ls

  none_below : ((s : ℕ) → s < length ls → First (Alarm m rec) s → ⊥) → NoneBelow (Alarm m rec) (length ls)
  none_below h u l a =
      let (v, f) = first_alarm m rec u a in
      ⊎_elim (λ z. f.not_before u z a) (λ z. h v (omega arith) f) (below_or u v)

  says_of : (o : Option (ℕ × ℤ)) → Judged m rec 0 (length (truths_of ls)) o → SaysReport m ls (found o)
  unfolding found
  says_of none j =
      let no : (s : ℕ) → s < length ls → First (Alarm m rec) s → ⊥ = λ s l f. j s (omega arith) (omega (arith, length_truths ls)) f in
      record {
        reports = λ s c. (λ e. let z : ◌≡◌ {A = ℕ} 0 1 = cc in absurd (omega arith), λ (l, r). absurd (no s l r.first));
        quiet = (λ e. none_below no, λ h. refl);
      }
  says_of (some x) (p, q, r) =
      let l : x.0 < length ls = omega (arith, length_truths ls) in
      record {
        reports = λ s c. (
          λ e.
              let same : ◌≡◌ {A = Report} (record { step = x.0; culprit = x.1 }) (record { step = s; culprit = c }) = cc in
              let i : x.0 ≡ s = ap (λ (y : Report). y.step) same in
              let j : x.1 ≡ c = ap (λ (y : Report). y.culprit) same in
              (omega arith, subst (λ (y : ℕ). meaning.Report m rec y c) i (subst (meaning.Report m rec x.0) j r)),
          λ (h, y).
              let i : x.0 ≡ s = first_unique (Alarm m rec) x.0 s r.first y.first in
              let j : x.1 ≡ c = culprit_unique m rec (suc s) x.1 c (subst (λ (v : ℕ). meaning.Culprit m rec (suc v) x.1) i r.culprit) y.culprit in
              ap₂ reported i j,
        );
        quiet = (λ e. let z : ◌≡◌ {A = ℕ} 0 1 = cc in absurd (omega arith), λ h. absurd (h x.0 l r.first.here));
      }

-- ---- the whole watch
module _ (t : LentTables) (m : Mon) (a : HoldsRule t m) where
  given_there : (fresh_call t blank_monitor.forms blank_monitor.bounds (memory_of blank_monitor)).answer ≡ Ok t.ncount
  unfolding fresh_call
  given_there =
      ap₂ (λ (b : Bool) (o : Option Mon). (or_short b blank_monitor.forms blank_monitor.bounds (memory_of blank_monitor) (make_mon o t blank_monitor.forms blank_monitor.bounds (memory_of blank_monitor))).answer) (ap (λ (b : Bool). b && true) a.room) a.rule

  is_made : (fresh_in t blank_monitor).outcome ≡ Ok t.ncount
  unfolding fresh_in
  is_made = given_there

  compiled_says : (ls : List StepLine) → NumberedFrom 0 ls → length ls ≤ 9223372036854775808 → SaysReport m ls (compiled_watched t ls)
  unfolding compiled_watched after
  compiled_says ls e h =
      let x = started t blank_monitor t.ncount m a.rule is_made in
      let q : compiled_watched t ls ≡ found (first_report m (initial_state m) 0 (truths_of ls)) = ap (λ (o : Returned ℕ Refusal). on_outcome o (watched t (fresh_in t blank_monitor).monitor ls)) is_made ∙ watched_is t m a ls (fresh_in t blank_monitor).monitor 0 (initial_state m) x.ready x.reads e (omega arith) in
      subst (SaysReport m ls) (sym q) (says_of m ls _ (judged m (line_record ls) 0 (truths_of ls) (λ i l. ap (λ (j : ℕ). get_or (truths_of ls) j 0) (sym (zero-add i)))))

-- a rule f of the table that compiles, over the step lines from a place of the text on
pub rule_says : (text : List ℕ) (from : ℕ) (ops nums : List ℕ) (first count : ℕ) (f : Formula) → rule_of ops nums first count ≡ some f →
    (n : ℕ) → (compile_call ops nums first count (replicate 1792 0)).answer ≡ given n →
    NumberedFrom 0 (steps_from text from) → length (steps_from text from) ≤ 9223372036854775808 →
    SaysReport (rule_node f first) (steps_from text from) (rule_watched text from ops nums first count)
unfolding rule_watched
rule_says text from ops nums first count f is_f n compiles e h =
    let out : List ℕ = replicate 1792 0 in
    let t : LentTables = compiled_tables ops nums first count out n in
    let a : HoldsRule t (rule_node f first) = record { rule = own_table ops nums first count f is_f out n compiles; room = compiled_room ops nums first count out n compiles } in
    let q : rule_watched text from ops nums first count ≡ compiled_watched t (steps_from text from) = ap (λ (r : Result ℕ). on_compiled r (λ j. compiled_watched (compiled_tables ops nums first count out j) (steps_from text from))) compiles in
    subst (SaysReport (rule_node f first) (steps_from text from)) (sym q) (compiled_says t (rule_node f first) a (steps_from text from) e h)
