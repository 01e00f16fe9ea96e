-- Saving: its tests in their order, and what it does.
use mathlib.Core.Path.{◌≡◌, refl, sym, ap, ap₂, subst, ◌∙◌}
use mathlib.Core.Bool.{Bool, true, false}
use mathlib.Core.Bool as bool
use mathlib.Core.List.{List, [], ◌∷◌}
use mathlib.Core.Option.{Option, none, some}
use Prim.Native.Nat.{ℕ, ◌+◌, ◌≤◌}
use native.Mathlib.Omega.{arith}
use lib.IntN.{ℤ}
use lib.ListN.{length, get_or, length-append}
use borrow.Author.Tests.{le-leb}
use Rattle.terms.specs.Choice.{pick}
use Rattle.std.specs.Prelude.{None, Option as Opt, Some, Result, Ok, Err}
use Rattle.result.specs.declared.Refusal.{Refusal}
use Rattle.result.specs.declared.Refusal.TheVariants.{Short, Unfit, Failed}
use Rattle.monitor.specs.Mon.{Mon}
use Rattle.node_step.specs.Memory.{entries}
use Rattle.lent.specs.Lent.{LentTables, LentMonitor, tables, monitor_of, is_lent, rule_mon, fits, unfit, refusal_of, HoldsRule, Ready}
use Rattle.lent.proofs.Standings.{rule_stood, rule_inside, lent_both}
use Rattle.lent.proofs.Refusals.{not_refused}
use Rattle.stepping.proofs.Memories.{count_pos}
use Rattle.bits.specs.Bits.{ink_bits}
use Rattle.bits.proofs.Packing.{inked}
use Rattle.kept.specs.declared.Keep.{Keep}
use Rattle.kept.specs.Kept.{keep_written, keeps, kept_bits, kept_bytes, row_keeps, spent, state_bits_of}
use Rattle.saving.specs.Save.{Saving, refuse, or_refuse, written, save_kept, save_mon, save_call, SaveAnswers, Savable}
use Rattle.saving.proofs.Rows.{rows_keep, bits_part}
use Rattle.saving.proofs.Going.{written_length}

-- as many bits as are kept
pub state_length : (xs : List Keep) (held : List Bool) (remaining : List ℕ) (k : ℕ) → length (state_bits_of xs held remaining k) ≡ kept_bits xs
unfolding state_bits_of kept_bits
state_length [] held remaining k = refl
state_length (x ∷ xs) held remaining k =
    let h = get_or held k false in
    let r = get_or remaining k 0 in
    length-append (keep_written x h r) (state_bits_of xs held remaining (k + 1)) ∙ ap₂ ◌+◌ (written_length x h r) (state_length xs held remaining (k + 1))

answers_by : {c d : Saving} {r : Result ℕ Refusal} {bytes : List ℕ} → c ≡ d → SaveAnswers d r bytes → SaveAnswers c r bytes
answers_by {r = r} {bytes = bytes} e a = subst (λ (x : Saving). SaveAnswers x r bytes) (sym e) a

-- ---- on a monitor that fits
module _ (xs : List Keep) (held : List Bool) (remaining : List ℕ) (failed : List Bool) (bytes : List ℕ) (need : ℕ) (e : need ≡ kept_bytes xs) where
  module _ (h : need ≤ length bytes) (b : Bool) (q : b ≡ spent xs failed) where
    long_enough : save_kept xs held remaining failed bytes ≡ or_refuse (bool.not b) Failed bytes (written xs held remaining bytes)
    long_enough =
        ap (λ (x : Bool). or_refuse x Short bytes (or_refuse (bool.not (spent xs failed)) Failed bytes (written xs held remaining bytes))) (le-leb (kept_bytes xs) (length bytes) (omega (arith, e)))
        ∙ ap (λ (x : Bool). or_refuse (bool.not x) Failed bytes (written xs held remaining bytes)) (sym q)

    pub saves_written : b ≡ false → (bytes' : List ℕ) → bytes' ≡ ink_bits bytes 0 (state_bits_of xs held remaining 0) → SaveAnswers (save_kept xs held remaining failed bytes) (Ok need) bytes'
    saves_written z bytes' w = answers_by (long_enough ∙ ap (λ (x : Bool). or_refuse (bool.not x) Failed bytes (written xs held remaining bytes)) z) (record {
      answers = ap Ok e;
      leaves = w ∙ inked bytes (state_bits_of xs held remaining 0) (omega (arith, state_length xs held remaining 0, e));
    })

-- ---- whatever is lent
module _ (t : LentTables) (k : LentMonitor) (bytes : List ℕ) where
  pub save_fits : (m : Mon) → HoldsRule t m → Ready k m → save_call t k bytes ≡ save_kept (keeps m) k.memory.held k.memory.remaining k.memory.failed bytes
  unfolding save_call
  save_fits m a d =
      ap (λ (b : Bool). or_refuse b Short bytes (save_mon (rule_mon t) k bytes)) (lent_both t k m a d)
      ∙ ap (λ (o : Option Mon). save_mon o k bytes) a.rule
      ∙ ap (λ (b : Bool). or_refuse b Unfit bytes (save_kept (keeps m) k.memory.held k.memory.remaining k.memory.failed bytes)) d.fit

  pub save_refused : (r : Refusal) → refusal_of t k ≡ Some r → save_call t k bytes ≡ refuse r bytes
  unfolding save_call refusal_of
  save_refused r e = lent (is_lent t k) (rule_mon t) e
    where
      same : {a b : Refusal} → Some a ≡ Some b → a ≡ b
      same q = cc

      fit : (m : Mon) (b : Bool) → pick b None (Some Unfit) ≡ Some r → or_refuse b Unfit bytes (save_kept (keeps m) k.memory.held k.memory.remaining k.memory.failed bytes) ≡ refuse r bytes
      fit m true q = cc
      fit m false q = ap (λ (i : Refusal). refuse i bytes) (same q)

      lent : (b : Bool) (o : Option Mon) → pick b (unfit o k) (Some Short) ≡ Some r → or_refuse b Short bytes (save_mon o k bytes) ≡ refuse r bytes
      lent true none q = ap (λ (i : Refusal). refuse i bytes) (same q)
      lent true (some m) q = fit m (fits m k) q
      lent false o q = ap (λ (i : Refusal). refuse i bytes) (same q)

module _ (ops nums : List ℕ) (first count' : ℕ) (nodes : List ℕ) (nfirst ncount size : ℕ) (forms bounds : List ℕ) (held : List Bool) (remaining : List ℕ)
    (failed : List Bool) (culprits : List ℤ) (r : Opt Refusal)
    (e : r ≡ refusal_of (tables ops nums first count' nodes nfirst ncount) (monitor_of size forms bounds (entries held remaining failed culprits))) where
  abbrev t : LentTables
  t = tables ops nums first count' nodes nfirst ncount

  abbrev k : LentMonitor
  k = monitor_of size forms bounds (entries held remaining failed culprits)

  pub savable : r ≡ None → Savable nodes nfirst ncount held remaining failed
  savable z =
      let (m, a, d) = not_refused t k (sym e ∙ z) in
      let i = rule_inside t k m a.rule d.room in
      let o = rule_stood t m a.rule in
      record {
        part = bits_part t m a.rule;
        some = omega (arith, count_pos m, o.counted);
        in_held = omega (arith, i.held, o.counted);
        in_remaining = omega (arith, i.remaining, o.counted);
        in_failed = omega (arith, i.failed, o.counted);
      }

  module _ (bytes : List ℕ) where
    pub saved_fits : r ≡ None → (s : Result ℕ Refusal) (bytes' : List ℕ) → SaveAnswers (save_kept (row_keeps nodes nfirst ncount) held remaining failed bytes) s bytes' → SaveAnswers (save_call t k bytes) s bytes'
    saved_fits z s bytes' w =
        let (m, a, d) = not_refused t k (sym e ∙ z) in
        answers_by (save_fits t k bytes m a d ∙ ap (λ (xs : List Keep). save_kept xs held remaining failed bytes) (sym (rows_keep t m a.rule))) w

    pub saved_refused : (q : Refusal) → r ≡ Some q → SaveAnswers (save_call t k bytes) (Err q) bytes
    saved_refused q h = answers_by (save_refused t k bytes q (sym e ∙ h)) (record { answers = refl; leaves = refl })
