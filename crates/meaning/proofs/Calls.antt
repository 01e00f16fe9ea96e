-- A list of step calls: refused ones leave no trace, and the accepted ones are the steps of a record.
use mathlib.Core.Path.{◌≡◌, refl, sym, ap, ap₂, subst, ◌∙◌}
use mathlib.Core.Bool.{Bool, true, false, cond}
use mathlib.Core.List.{List, [], ◌∷◌, ◌++◌}
use mathlib.Core.Option.{Option, none, some}
use mathlib.Core.Logic.{inl, inr, ⊎_elim, ◌↔◌}
use Prim.Native.Nat.{ℕ, suc, ◌+◌, ◌<◌}
use native.Mathlib.Omega.{arith}
use native.Mathlib.Nat.{add-zero, zero-add}
use lib.ListN.{length, get_or, length-append, get_or-append}
use lib.Seq.{get_or-append-add}
use lib.IntN.{ℤ}
use Rattle.formula.proofs.Cases.{below_or, true_false}
use Rattle.formula.proofs.Trees.{some_inj}
use Rattle.monitor.specs.declared.range.AnchorRange.{AnchorRange}
use Rattle.monitor.specs.Mon.{Signal, range_check, delayed_check, obligation, Mon, check, And, Or}
use Rattle.meaning.specs.Alarm.{Record, during, triggers, window_end, CheckAlarm, Alarm, First}
use Rattle.meaning.specs.State.{ObligationState, State, culprit, initial_state, step, newly_failed, after, EachNode, IfObligation, EachObligation}
use Rattle.meaning.specs.Calls.{after_call, Call, refused, accepted, step_all, report_of, AcceptedAt, InOrder, words_of, step_count, Over, first_report}
use Rattle.meaning.specs.Meaning.{Sound, NodeSound, Judged}
use Rattle.meaning.proofs.Windows.{Kept, kept_marked, kept_names}
use Rattle.meaning.proofs.Steps.{and_left, and_right, or_left, or_right, obligation_kept, marked, reports}
use Rattle.meaning.proofs.Culprits.{culprits, first_unique}

-- ---- each obligation of the tree
obligation_sound : (rec : Record) (k b : ℕ) (p q : Signal) (r : AnchorRange) (o : ObligationState) → Kept b (triggers r p rec) (during q rec) k o → Sound rec k b p q r o
unfolding CheckAlarm
obligation_sound rec k b p q r o h = record {
  names = λ f.
      let (t, g) = kept_names b (triggers r p rec) (during q rec) k o h f in
      (t, g.names, record { here = (g.ended, g.first.here); not_before = λ u z x. g.first.not_before u z x.1 });
  alarmed = λ f.
      let (t, g) = kept_names b (triggers r p rec) (during q rec) k o h f in
      (window_end b t, g.ended, (t, record { missed = g.first.here; ended = omega arith }));
  marked = λ s z (t, g). kept_marked b (triggers r p rec) (during q rec) k o h t (omega (arith, g.ended)) g.missed;
}

-- what holds of each node stepped alone holds of each node in a tree
module _ (P : (m : Mon) → State m → Type 0) (rec : Record) (k : ℕ) (h : (m : Mon) → P m (after m rec k)) where
  pub each_node : (m : Mon) → EachNode P m (after m rec k)
  unfolding EachNode
  each_node (check c) = h (check c)
  each_node (And m n) =
      (h (And m n), subst (EachNode P m) (sym (and_left m n rec k)) (each_node m), subst (EachNode P n) (sym (and_right m n rec k)) (each_node n))
  each_node (Or m n) =
      (h (Or m n), subst (EachNode P m) (sym (or_left m n rec k)) (each_node m), subst (EachNode P n) (sym (or_right m n rec k)) (each_node n))

pub at_root : (P : (m : Mon) → State m → Type 0) (m : Mon) (st : State m) → EachNode P m st → P m st
unfolding EachNode
at_root P (check c) st h = h
at_root P (And m n) st h = h.0
at_root P (Or m n) st h = h.0

if_sound : (rec : Record) (k : ℕ) (m : Mon) → IfObligation (Sound rec k) m (after m rec k)
if_sound rec k (check (range_check p r)) = tt
if_sound rec k (check (delayed_check p q r)) = tt
if_sound rec k (check (obligation b p q r)) = obligation_sound rec k b p q r _ (obligation_kept b p q r rec k)
if_sound rec k (And m n) = tt
if_sound rec k (Or m n) = tt

pub obligations_sound : (m : Mon) (rec : Record) (k : ℕ) → EachObligation (Sound rec k) m (after m rec k)
obligations_sound m rec k = each_node (IfObligation (Sound rec k)) rec k (if_sound rec k) m

pub nodes_sound : (m : Mon) (rec : Record) (k : ℕ) → EachNode (NodeSound rec k) m (after m rec k)
nodes_sound m rec k = each_node (NodeSound rec k) rec k (λ n. record { marked = marked n rec k; named = culprits n rec k }) m

-- ---- lists of calls
pub words_append : (cs ds : List Call) → words_of (cs ++ ds) ≡ words_of cs ++ words_of ds
unfolding words_of
words_append [] ds = refl
words_append (refused ∷ cs) ds = words_append cs ds
words_append (accepted s w ∷ cs) ds = ap (w ∷◌) (words_append cs ds)

pub in_order_split : (k : ℕ) (cs ds : List Call) → InOrder k (cs ++ ds) → InOrder k cs × InOrder (k + step_count cs) ds
unfolding InOrder words_of
in_order_split k [] ds h = (tt, subst (λ (i : ℕ). InOrder i ds) (sym (add-zero k)) h)
in_order_split k (refused ∷ cs) ds h = in_order_split k cs ds h
in_order_split k (accepted s w ∷ cs) ds h =
    let (f, g) = in_order_split (suc k) cs ds h.1 in
    ((h.0, f), subst (λ (i : ℕ). InOrder i ds) (omega arith) g)

pub stepped_append : (m : Mon) (st : State m) (cs ds : List Call) → step_all m st (cs ++ ds) ≡ step_all m (step_all m st cs) ds
unfolding step_all
stepped_append m st [] ds = refl
stepped_append m st (c ∷ cs) ds = stepped_append m (after_call m st c) cs ds

-- calls in order over a record's own words are its steps
module _ (m : Mon) (rec : Record) where
  pub stepped : (k : ℕ) (cs : List Call) → InOrder k cs → ((i : ℕ) → i < step_count cs → get_or (words_of cs) i 0 ≡ rec (k + i))
      → step_all m (after m rec k) cs ≡ after m rec (k + step_count cs)
  unfolding InOrder words_of step_all after
  stepped k [] h e = ap (after m rec) (sym (add-zero k))
  stepped k (refused ∷ cs) h e = stepped k cs h e
  stepped k (accepted s w ∷ cs) h e =
      let x : w ≡ rec k = e 0 (omega arith) ∙ ap rec (add-zero k) in
      let y : (i : ℕ) → k + suc i ≡ suc k + i = λ i. omega arith in
      let z : suc k + step_count cs ≡ k + suc (step_count cs) = omega arith in
      ap (λ (st : State m). step_all m st cs) (ap₂ (λ (i v : ℕ). (step m (after m rec k) i v).state) h.0 x)
      ∙ stepped (suc k) cs h.1 (λ i q. e (suc i) (omega arith) ∙ ap rec (y i))
      ∙ ap (after m rec) z

pub over_part : (rec : Record) (before rest : List Call) → Over rec (before ++ rest) → Over rec before
over_part rec before rest o i z =
    sym (get_or-append (words_of before) (words_of rest) 0 i z)
    ∙ ap (λ (l : List ℕ). get_or l i 0) (sym (words_append before rest))
    ∙ o i (omega (arith, ap length (words_append before rest), length-append (words_of before) (words_of rest)))

pub over_rest : (rec : Record) (before rest : List Call) → Over rec (before ++ rest) → (i : ℕ) → i < step_count rest → get_or (words_of rest) i 0 ≡ rec (step_count before + i)
over_rest rec before rest o i z =
    sym (get_or-append-add (words_of before) (words_of rest) i 0)
    ∙ ap (λ (l : List ℕ). get_or l (step_count before + i) 0) (sym (words_append before rest))
    ∙ o (step_count before + i) (omega (arith, ap length (words_append before rest), length-append (words_of before) (words_of rest)))

module _ (m : Mon) (rec : Record) (before rest : List Call) (h : InOrder 0 (before ++ rest)) (o : Over rec (before ++ rest)) where
  -- the state after a first part of the calls
  pub stepped_part : step_all m (initial_state m) before ≡ after m rec (step_count before)
  unfolding after
  stepped_part =
      stepped m rec 0 before (in_order_split 0 before rest h).0 (λ i z. over_part rec before rest o i z ∙ ap rec (sym (zero-add i)))
      ∙ ap (after m rec) (zero-add (step_count before))

-- ---- what calls in order over a record's own words report
none_some : {s : ℕ} → ◌≡◌ {A = Option ℕ} none (some s) → ⊥
none_some e = let z : ◌≡◌ {A = ℕ} 0 1 = cc in omega arith

-- one accepted call, and those behind it
module _ (m : Mon) (rec : Record) (k t w s : ℕ) (cs : List Call) (there : t ≡ k) (word : w ≡ rec k) (later : (report_of m (after m rec (suc k)) cs ≡ some s) ↔ (AcceptedAt s cs × First (Alarm m rec) s)) where
  here : (b : Bool) → newly_failed m (after m rec k) k (rec k) ≡ b → report_of m (after m rec k) (accepted t w ∷ cs) ≡ cond b (some k) (report_of m (after m rec (suc k)) cs)
  unfolding report_of after
  here b q =
      ap₂ (λ (i v : ℕ). cond (newly_failed m (after m rec k) i v) (some i) (report_of m (step m (after m rec k) i v).state cs)) there word
      ∙ ap (λ (x : Bool). cond x (some k) (report_of m (step m (after m rec k) k (rec k)).state cs)) q

  one_more : (b : Bool) → newly_failed m (after m rec k) k (rec k) ≡ b → (report_of m (after m rec k) (accepted t w ∷ cs) ≡ some s) ↔ (AcceptedAt s (accepted t w ∷ cs) × First (Alarm m rec) s)
  unfolding AcceptedAt
  one_more true q = (
    λ z.
        let i : k ≡ s = some_inj (sym (here true q) ∙ z) in
        (inl (sym i ∙ sym there), subst (First (Alarm m rec)) i ((reports m rec k).0 q)),
    λ z. here true q ∙ ap some (first_unique (Alarm m rec) k s ((reports m rec k).0 q) z.1),
  )
  one_more false q = (
    λ z. let x = later.0 (sym (here false q) ∙ z) in (inr x.0, x.1),
    λ z. ⊎_elim
        (λ i. true_false ((reports m rec k).1 (subst (First (Alarm m rec)) (i ∙ there) z.1)) q)
        (λ x. here false q ∙ later.1 (x, z.1))
        z.0,
  )

module _ (m : Mon) (rec : Record) where
  -- they report s exactly where one of them is accepted at s and the alarm holds at s and at no earlier step
  pub reported : (k : ℕ) (cs : List Call) → InOrder k cs → ((i : ℕ) → i < step_count cs → get_or (words_of cs) i 0 ≡ rec (k + i)) → (s : ℕ)
      → (report_of m (after m rec k) cs ≡ some s) ↔ (AcceptedAt s cs × First (Alarm m rec) s)
  unfolding InOrder words_of report_of AcceptedAt
  reported k [] h e s = (λ z. absurd (none_some z), λ z. absurd z.0)
  reported k (refused ∷ cs) h e s = reported k cs h e s
  reported k (accepted t w ∷ cs) h e s =
      let y : (i : ℕ) → k + suc i ≡ suc k + i = λ i. omega arith in
      one_more m rec k t w s cs h.0 (e 0 (omega arith) ∙ ap rec (add-zero k))
      (reported (suc k) cs h.1 (λ i q. e (suc i) (omega arith) ∙ ap rec (y i)) s)
      (newly_failed m (after m rec k) k (rec k)) refl

-- ---- many words at once
module _ (m : Mon) (rec : Record) where
  judged_next : (s n : ℕ) (x : Option (ℕ × ℤ)) → newly_failed m (after m rec s) s (rec s) ≡ false → Judged m rec (suc s) n x → Judged m rec s (suc n) x
  judged_next s n none e h = λ t y z f. ⊎_elim
      (λ q. h t q (omega arith) f)
      (λ q. true_false ((reports m rec s).1 (subst (First (Alarm m rec)) (omega arith) f)) e)
      (below_or s t)
  judged_next s n (some x) e h = (omega (arith, h.0), omega (arith, h.1), h.2)

  judged_pick : (s n : ℕ) (y : Bool) (x : Option (ℕ × ℤ)) → newly_failed m (after m rec s) s (rec s) ≡ y → Judged m rec (suc s) n x → Judged m rec s (suc n) (cond y (some (s, culprit m (after m rec (suc s)))) x)
  judged_pick s n true x e h = (omega arith, omega arith, record { first = (reports m rec s).0 e; culprit = culprits m rec (suc s) })
  judged_pick s n false x e h = judged_next s n x e h

  -- from the state that the steps before s left
  pub judged : (s : ℕ) (ws : List ℕ) → ((i : ℕ) → i < length ws → get_or ws i 0 ≡ rec (s + i)) → Judged m rec s (length ws) (first_report m (after m rec s) s ws)
  unfolding first_report after
  judged s [] h = λ t y z. absurd (omega arith)
  judged s (w ∷ ws) h =
      let e : rec s ≡ w = sym (h 0 (omega arith) ∙ ap rec (add-zero s)) in
      let y : (i : ℕ) → s + suc i ≡ suc s + i = λ i. omega arith in
      subst
      (λ (v : ℕ). Judged m rec s (suc (length ws)) (cond (newly_failed m (after m rec s) s v) (some (s, culprit m (step m (after m rec s) s v).state)) (first_report m (step m (after m rec s) s v).state (suc s) ws)))
      e
      (judged_pick s (length ws) _ _ refl (judged (suc s) ws (λ i z. h (suc i) (omega arith) ∙ ap rec (y i))))
