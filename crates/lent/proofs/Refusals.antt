-- Refusals 1 and 2 of what a call on a monitor is lent: the tests in their order, and what is not refused.
use mathlib.Core.Path.{◌≡◌, refl, sym, ap, ap₂, ◌∙◌}
use mathlib.Core.Bool.{Bool, true, false}
use mathlib.Core.List.{List}
use mathlib.Core.Option.{Option, none, some}
use Rattle.std.specs.Prelude.{None, Some, Result, Err}
use Rattle.std.specs.Result.{result_err}
use Rattle.result.specs.declared.Refusal.{Refusal}
use Rattle.result.specs.declared.Refusal.TheVariants.{Short, Unfit}
use Prim.Native.Nat.{ℕ}
use Rattle.terms.specs.Choice.{pick}
use Rattle.formula.specs.Table.{is_some}
use Rattle.formula.proofs.Cases.{true_false}
use Rattle.monitor.specs.Mon.{Mon}
use Rattle.node_step.specs.Memory.{Memory}
use Rattle.lent.specs.Lent.{LentTables, LentMonitor, monitor_of, lent_of, is_lent, rule_mon, fits, rows_fit, unfit, refusal_of, ruleless, refusal_to_make, HoldsRule, Ready, Spanned}
use Rattle.lent.proofs.Standings.{lent_parts, fits_by_table, rule_spanned}

-- ---- a rule in the tables
pub no_rule : (o : Option Mon) → is_some o ≡ false → o ≡ none
no_rule none h = refl
no_rule (some m) h = true_false refl h

pub some_rule : (o : Option Mon) → is_some o ≡ true → (m : Mon) × (o ≡ some m)
some_rule none h = true_false h refl
some_rule (some m) h = (m, refl)

-- ---- the tests before a monitor is made
module _ (t : LentTables) (forms bounds : List ℕ) (mem : Memory) (b : Bool) (e : b ≡ lent_of t.ops t.nums t.nodes forms bounds mem) where
  pub not_lent : b ≡ false → Some Short ≡ refusal_to_make t forms bounds mem
  unfolding refusal_to_make
  not_lent q = sym (ap (λ (x : Bool). pick x (ruleless (rule_mon t)) (Some Short)) (sym e ∙ q))

  module _ (q : b ≡ true) (c : Bool) (p : c ≡ is_some (rule_mon t)) where
    by_rule : (o : Option Mon) → rule_mon t ≡ o → refusal_to_make t forms bounds mem ≡ ruleless o
    unfolding refusal_to_make
    by_rule o r = ap₂ (λ (x : Bool) (y : Option Mon). pick x (ruleless y) (Some Short)) (sym e ∙ q) r

    pub not_compiled : c ≡ false → Some Unfit ≡ refusal_to_make t forms bounds mem
    not_compiled z = sym (by_rule none (no_rule (rule_mon t) (sym p ∙ z)))

    pub compiled : c ≡ true → None ≡ refusal_to_make t forms bounds mem
    compiled z = let (m, r) = some_rule (rule_mon t) (sym p ∙ z) in sym (by_rule (some m) r)

-- what is not refused: all that is lent has room, and the tables hold a rule, whose rows and entries are there
refused : {r : Refusal} {A : Type 0} → Some r ≡ None → A
refused e = cc

pub record Admitted (t : LentTables) (forms bounds : List ℕ) (mem : Memory) : Type 0 where
  pub mon : Mon
  pub rule : rule_mon t ≡ some mon
  pub room : lent_of t.ops t.nums t.nodes forms bounds mem ≡ true

pub admitted : (t : LentTables) (forms bounds : List ℕ) (mem : Memory) → refusal_to_make t forms bounds mem ≡ None → Admitted t forms bounds mem
unfolding refusal_to_make
admitted t forms bounds mem e = go (lent_of t.ops t.nums t.nodes forms bounds mem) refl (rule_mon t) refl e
  where
    go : (b : Bool) → lent_of t.ops t.nums t.nodes forms bounds mem ≡ b → (o : Option Mon) → rule_mon t ≡ o → pick b (ruleless o) (Some Short) ≡ None → Admitted t forms bounds mem
    go true l none r h = refused h
    go true l (some m) r h = record { mon = m; rule = r; room = l }
    go false l o r h = refused h

pub spanned : (t : LentTables) (forms bounds : List ℕ) (mem : Memory) → refusal_to_make t forms bounds mem ≡ None → Spanned t.nodes t.nfirst forms bounds mem t.ncount
spanned t forms bounds mem e =
    let a = admitted t forms bounds mem e in
    let k = monitor_of 0 forms bounds mem in
    rule_spanned t k a.mon a.rule (lent_parts t k a.room).1

-- ---- the tests before a call on a monitor
module _ (t : LentTables) (k : LentMonitor) where
  pub not_made : {A : Type 0} (a : Result A Refusal) → result_err a ≡ refusal_to_make t k.forms k.bounds k.memory → (r : Refusal) → a ≡ Err r → Some r ≡ refusal_of t k
  unfolding refusal_to_make refusal_of
  not_made a e r p = sym (go (is_lent t k) (rule_mon t) (sym e ∙ ap result_err p))
    where
      go : (b : Bool) (o : Option Mon) → pick b (ruleless o) (Some Short) ≡ Some r → pick b (unfit o k) (Some Short) ≡ Some r
      go true none h = h
      go true (some m) h = cc
      go false o h = h

  module _ (e : refusal_to_make t k.forms k.bounds k.memory ≡ None) (d : Bool) (g : d ≡ rows_fit t.nodes t.nfirst t.ncount k) where
    by_fit : refusal_of t k ≡ pick d None (Some Unfit)
    unfolding refusal_of
    by_fit =
        let a = admitted t k.forms k.bounds k.memory e in
        ap₂ (λ (x : Bool) (y : Option Mon). pick x (unfit y k) (Some Short)) a.room a.rule
        ∙ ap (λ (x : Bool). pick x None (Some Unfit)) (fits_by_table t k a.mon a.rule ∙ sym g)

    pub not_fit : d ≡ false → Some Unfit ≡ refusal_of t k
    not_fit h = sym (by_fit ∙ ap (λ (x : Bool). pick x None (Some Unfit)) h)

    pub all_fit : d ≡ true → None ≡ refusal_of t k
    all_fit h = sym (by_fit ∙ ap (λ (x : Bool). pick x None (Some Unfit)) h)

pub not_refused : (t : LentTables) (k : LentMonitor) → refusal_of t k ≡ None → (m : Mon) × HoldsRule t m × Ready k m
unfolding refusal_of
not_refused t k e = lent (is_lent t k) refl (rule_mon t) refl e
  where
    fit : (m : Mon) → rule_mon t ≡ some m → is_lent t k ≡ true → (b : Bool) → fits m k ≡ b → pick b None (Some Unfit) ≡ None → (m : Mon) × HoldsRule t m × Ready k m
    fit m r l true f h = let (x, y) = lent_parts t k l in (m, record { rule = r; room = x }, record { fit = f; room = y })
    fit m r l false f h = refused h

    lent : (b : Bool) → is_lent t k ≡ b → (o : Option Mon) → rule_mon t ≡ o → pick b (unfit o k) (Some Short) ≡ None → (m : Mon) × HoldsRule t m × Ready k m
    lent true l none r h = refused h
    lent true l (some m) r h = fit m r l (fits m k) refl h
    lent false l o r h = refused h
