-- Restoring: its tests in their order, and what it does.
use mathlib.Core.Path.{◌≡◌, refl, sym, ap, ap₂, subst, ◌∙◌}
use mathlib.Core.Bool.{Bool, true, false}
use mathlib.Core.List.{List}
use mathlib.Core.Option.{Option, none, some}
use Prim.Native.Nat.{ℕ}
use Rattle.monitor.specs.Mon.{Mon}
use Rattle.node_step.specs.Memory.{Memory}
use Rattle.terms.specs.Choice.{pick}
use Rattle.lent.specs.Lent.{LentTables, lent_of, rule_mon, ruleless, refusal_to_make}
use Rattle.lent.proofs.Refusals.{admitted, spanned}
use Rattle.std.specs.Prelude.{Result, Err, None, Some}
use Rattle.result.specs.declared.Refusal.{Refusal}
use Rattle.result.specs.declared.Refusal.TheVariants.{Short}
use Rattle.stepping.specs.Fresh.{Making, refuse}
use Rattle.kept.specs.declared.Keep.{Keep}
use Rattle.kept.specs.Kept.{row_keeps}
use Rattle.saving.specs.Restore.{or_refuse, restore_kept, restore_mon, restore_call, RestoreAnswers, Restorable}
use Rattle.saving.proofs.Rows.{rows_keep, bits_part}

answers_by : {c d : Making} {r : Result ℕ Refusal} {forms bounds : List ℕ} {mem : Memory} → c ≡ d → RestoreAnswers d r forms bounds mem → RestoreAnswers c r forms bounds mem
answers_by {r = r} {forms = forms} {bounds = bounds} {mem = mem} e a = subst (λ (x : Making). RestoreAnswers x r forms bounds mem) (sym e) a

-- ---- whatever is lent
module _ (t : LentTables) (forms bounds : List ℕ) (mem : Memory) where
  pub restore_refused : (bytes : List ℕ) (r : Refusal) → refusal_to_make t forms bounds mem ≡ Some r → RestoreAnswers (restore_call t forms bounds mem bytes) (Err r) forms bounds mem
  unfolding restore_call refusal_to_make
  restore_refused bytes r e = answers_by (go (lent_of t.ops t.nums t.nodes forms bounds mem) (rule_mon t) e) (record { answers = refl; forms_are = refl; bounds_are = refl; memory_is = refl })
    where
      same : {a b : Refusal} → Some a ≡ Some b → a ≡ b
      same q = cc

      go : (b : Bool) (o : Option Mon) → pick b (ruleless o) (Some Short) ≡ Some r → or_refuse b Short forms bounds mem (restore_mon o t forms bounds mem bytes) ≡ refuse r forms bounds mem
      go true none h = ap (λ (x : Refusal). refuse x forms bounds mem) (same h)
      go true (some m) h = cc
      go false o h = ap (λ (x : Refusal). refuse x forms bounds mem) (same h)

  module _ (e : refusal_to_make t forms bounds mem ≡ None) where
    pub restorable : Restorable t.nodes t.nfirst t.ncount forms bounds mem
    restorable =
        let a = admitted t forms bounds mem e in
        record { part = bits_part t a.mon a.rule; spans = spanned t forms bounds mem e }

    pub restore_rows : (bytes : List ℕ) (r : Result ℕ Refusal) (forms' bounds' : List ℕ) (mem' : Memory)
        → RestoreAnswers (restore_kept (row_keeps t.nodes t.nfirst t.ncount) t.nodes t.nfirst t.ncount forms bounds mem bytes) r forms' bounds' mem'
        → RestoreAnswers (restore_call t forms bounds mem bytes) r forms' bounds' mem'
    unfolding restore_call
    restore_rows bytes r forms' bounds' mem' w =
        let a = admitted t forms bounds mem e in
        answers_by
        (ap₂ (λ (x : Bool) (y : Option Mon). or_refuse x Short forms bounds mem (restore_mon y t forms bounds mem bytes)) a.room a.rule
        ∙ ap (λ (ys : List Keep). restore_kept ys t.nodes t.nfirst t.ncount forms bounds mem bytes) (sym (rows_keep t a.mon a.rule))) w
