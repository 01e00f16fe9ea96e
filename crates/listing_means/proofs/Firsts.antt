-- Over step lines numbered 0, 1, 2 and on, a rule's monitor steps over the record of their truths, so it is reported at its first alarm.
use mathlib.Core.Path.{◌≡◌, refl, sym, ap, ap₂, subst, ◌∙◌}
use mathlib.Core.Bool.{true, false}
use mathlib.Core.List.{List, [], ◌∷◌}
use mathlib.Core.Logic.{⊎_elim, ◌↔◌}
use Prim.Native.Nat.{ℕ, zero, suc, ◌+◌, ◌≤◌, ◌<◌}
use native.Mathlib.Omega.{arith}
use native.Mathlib.Nat.{add-zero, zero-add}
use lib.ListN.{length}
use Rattle.formula.proofs.Cases.{below_or}
use Rattle.monitor.specs.Mon.{Mon}
use Rattle.meaning.specs.Alarm.{Record, Alarm, First}
use Rattle.meaning.specs.Culprit.{Culprit}
use Rattle.meaning.specs.Plain.{Plain}
use Rattle.meaning.specs.Meaning.{PlainMeans}
use Rattle.meaning.specs.State.{State, failed, culprit, initial_state, step, after}
use Rattle.meaning.proofs.Steps.{first_alarm}
use Rattle.meaning.proofs.Meaning.{report_is_first, report_of_record, culprit_unique, plain_rules}
use Rattle.book.specs.Book.{StepLine}
use Rattle.listing_rules.specs.Rules.{Rule, is_none, compiles, mon}
use Rattle.listing_reports.specs.Reports.{fresh_states, Report, book_reports}
use Rattle.listing_means.specs.Reports.{◌∈◌, line_at, InOrderLines, Begins, Says, Reported, PlainSays}
use Rattle.listing_means.specs.Called.{state_at, Called}
use Rattle.listing_means.proofs.Calling.{broken_parts, broken_is, called, listed}

-- ---- one monitor
module _ (m : Mon) (rec : Record) where
  -- lines numbered k, k + 1 and on, with the record's words of these steps
  stepped :
      (k : ℕ) (xs : List StepLine) (i : ℕ) → i ≤ length xs → ((j : ℕ) → j < length xs → (line_at xs j).number ≡ k + j)
      → ((j : ℕ) → j < length xs → rec (k + j) ≡ (line_at xs j).truths) → state_at m (after m rec k) xs i ≡ after m rec (k + i)
  unfolding state_at after
  stepped k xs zero h e w = ap (after m rec) (sym (add-zero k))
  stepped k [] (suc i) h e w = absurd (omega arith)
  stepped k (x ∷ xs) (suc i) h e w =
      let s : x.number ≡ k = e 0 (omega arith) ∙ add-zero k in
      let v : x.truths ≡ rec k = sym (w 0 (omega arith)) ∙ ap rec (add-zero k) in
      let y : (j : ℕ) → k + suc j ≡ suc k + j = λ j. omega arith in
      ap (λ (st : State m). state_at m st xs i) (ap₂ (λ (a b : ℕ). (step m (after m rec k) a b).state) s v)
      ∙ stepped (suc k) xs i (omega arith) (λ j z. e (suc j) (omega arith) ∙ y j) (λ j z. ap rec (sym (y j)) ∙ w (suc j) (omega arith))
      ∙ ap (after m rec) (sym (y i))

  module _ (xs : List StepLine) (o : InOrderLines xs) (g : Begins rec xs) where
    pub state_after : (i : ℕ) → i ≤ length xs → state_at m (initial_state m) xs i ≡ after m rec i
    unfolding after
    state_after i h =
        stepped 0 xs i h (λ j z. o j z ∙ sym (zero-add j)) (λ j z. ap rec (zero-add j) ∙ g j z)
        ∙ ap (after m rec) (zero-add i)

  -- marked by step s and not before it: the first alarm
  marked_first : (s : ℕ) → failed m (after m rec s) ≡ false → failed m (after m rec (suc s)) ≡ true → First (Alarm m rec) s
  unfolding after
  marked_first s b a = (report_is_first m rec s).0 (broken_is true (failed m (after m rec (suc s))) (failed m (after m rec s)) refl a b)

  first_marked : (s : ℕ) → First (Alarm m rec) s → (failed m (after m rec s) ≡ false) × (failed m (after m rec (suc s)) ≡ true)
  unfolding after
  first_marked s f =
      let (z, a, b) = broken_parts true (failed m (after m rec (suc s))) (failed m (after m rec s)) ((report_is_first m rec s).1 f) in
      (b, a)

-- ---- a report
module _ (R : ℕ → Rule) (n : ℕ) (xs : List StepLine) (rec : Record) (o : InOrderLines xs) (g : Begins rec xs) where
  -- the line's place is its number
  number_is : (i : ℕ) (x : StepLine) → i < length xs → x ≡ line_at xs i → i ≡ x.number
  number_is i x h e = sym (ap (λ (y : StepLine). y.number) e ∙ o i h)

  says_at : (p : Report) → p.rule < n → p.place ≡ p.at.number → Called (R p.rule) (initial_state (mon (R p.rule))) xs p.at.number p.at p.culprit → Says R n xs rec p
  says_at p h i k =
      let m : Mon = mon (R p.rule) in
      let s : ℕ = p.at.number in
      let before : state_at m (initial_state m) xs s ≡ after m rec s = state_after m rec xs o g s (omega (arith, k.place_there)) in
      let then : state_at m (initial_state m) xs (suc s) ≡ after m rec (suc s) = state_after m rec xs o g (suc s) (omega (arith, k.place_there)) in
      let f : First (Alarm m rec) s = marked_first m rec s (subst (λ (st : State m). failed m st ≡ false) before k.unfailed_before) (subst (λ (st : State m). failed m st ≡ true) then k.failed_after) in
      record {
        rule_there = h;
        rule_compiles = k.rule_compiles;
        step_there = k.place_there;
        place_is = i;
        line_is = k.line_is;
        alarm_here = f.here;
        none_earlier = λ u z a. f.not_before u (omega arith) a;
        culprit_then = subst (Culprit m rec (suc s)) (sym (k.culprit_after ∙ ap (culprit m) then)) (report_of_record m rec s f).culprit;
      }

  pub says : (p : Report) → p ∈ book_reports R n xs → Says R n xs rec p
  says p h =
      let (l, k) = called R n (fresh_states R) xs p h in
      let i : p.place ≡ p.at.number = number_is p.place p.at k.place_there k.line_is in
      says_at p l i (subst (λ (j : ℕ). Called (R p.rule) (initial_state (mon (R p.rule))) xs j p.at p.culprit) i k)

  pub said : (p : Report) → Says R n xs rec p → p ∈ book_reports R n xs
  said p k =
      let m : Mon = mon (R p.rule) in
      let s : ℕ = p.at.number in
      let before : state_at m (initial_state m) xs s ≡ after m rec s = state_after m rec xs o g s (omega (arith, k.step_there)) in
      let then : state_at m (initial_state m) xs (suc s) ≡ after m rec (suc s) = state_after m rec xs o g (suc s) (omega (arith, k.step_there)) in
      let f : First (Alarm m rec) s = record { here = k.alarm_here; not_before = λ u z a. k.none_earlier u (omega arith) a } in
      let (b, a) = first_marked m rec s f in
      listed R n (fresh_states R) xs p (
        k.rule_there,
        subst (λ (j : ℕ). Called (R p.rule) (initial_state m) xs j p.at p.culprit) (sym k.place_is) (record {
          rule_compiles = k.rule_compiles;
          place_there = k.step_there;
          line_is = k.line_is;
          unfailed_before = subst (λ (st : State m). failed m st ≡ false) (sym before) b;
          failed_after = subst (λ (st : State m). failed m st ≡ true) (sym then) a;
          culprit_after = culprit_unique m rec (suc s) p.culprit (culprit m (after m rec (suc s))) k.culprit_then (report_of_record m rec s f).culprit ∙ ap (culprit m) (sym then);
        }),
      )

  pub report_iff : (p : Report) → (p ∈ book_reports R n xs) ↔ Says R n xs rec p
  report_iff p = (says p, said p)

  -- ---- a rule
  module _ (r : ℕ) where
    alarm_of : Reported R n xs r → (s : ℕ) × (s < length xs) × Alarm (mon (R r)) rec s
    alarm_of (p, e, h) =
        let k : Says R n xs rec p = says p h in
        (p.at.number, k.step_there, subst (λ (q : ℕ). Alarm (mon (R q)) rec p.at.number) e k.alarm_here)

    first_reported : r < n → compiles (R r) ≡ true → (s : ℕ) → s < length xs → First (Alarm (mon (R r)) rec) s → Reported R n xs r
    first_reported l c s h f =
        let x : StepLine = line_at xs s in
        let m : Mon = mon (R r) in
        let p : Report = record { place = s; at = x; rule = r; culprit = culprit m (after m rec (suc s)) } in
        let i : x.number ≡ s = o s h in (
          p,
          refl,
          said p (record {
            rule_there = l;
            rule_compiles = c;
            step_there = omega (arith, i);
            place_is = sym i;
            line_is = ap (line_at xs) (sym i);
            alarm_here = subst (Alarm m rec) (sym i) f.here;
            none_earlier = λ u z a. f.not_before u (omega (arith, i)) a;
            culprit_then = subst (λ (k : ℕ). Culprit m rec (suc k) p.culprit) (sym i) (report_of_record m rec s f).culprit;
          }),
        )

    pub reported_iff : r < n → compiles (R r) ≡ true → Reported R n xs r ↔ ((s : ℕ) × (s < length xs) × Alarm (mon (R r)) rec s)
    reported_iff l c = (
      alarm_of,
      λ (s, h, a).
          let (t, f) = first_alarm (mon (R r)) rec s a in
          ⊎_elim (λ z. absurd (f.not_before s z a)) (λ z. first_reported l c t (omega arith) f) (below_or s t),
    )

    pub plain_says : r < n → Plain (R r).formula → PlainSays R n xs rec r
    unfolding compiles mon
    plain_says l p =
        let k : PlainMeans (R r).formula (R r).first rec = plain_rules p (R r).first rec in
        let iff = reported_iff l (ap is_none k.compiles) in
        record {
          false_if_reported = λ h. let (s, z, a) = iff.0 h in k.false_at_0.1 (s, a);
          silent_if_not = λ h s z a. h (iff.1 (s, z, a));
          late_if_false = λ h b.
              let (s, a) = k.false_at_0.0 b in
              let (t, f) = first_alarm (mon (R r)) rec s a in
              ⊎_elim (λ z. absurd (h (iff.1 (t, z, f.here)))) (λ z. (t, omega arith, f)) (below_or t (length xs));
        }
