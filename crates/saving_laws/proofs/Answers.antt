-- What an answer of saving and of restoring tells.
--     save_inv       a monitor was saved: the rule, its room, no mark, and the bytes
--     restore_inv    a monitor was restored: the rule, its room, sound bits, and the monitor
--     restore_takes  where all that holds, it is
use mathlib.Core.Path.{◌≡◌, refl, sym, ap, ap₂, ◌∙◌}
use mathlib.Core.Bool.{Bool, true, false, ◌&&◌}
use mathlib.Core.Bool as bool
use mathlib.Core.List.{List}
use mathlib.Core.Option.{Option, none, some}
use Prim.Native.Nat.{ℕ, ◌≤◌}
use native.Mathlib.Omega.{arith}
use lib.Dec.{leb}
use lib.ListN.{length}
use lib.Seq.{sets}
use borrow.Author.Tests.{leb-true, le-leb}
use Rattle.std.specs.Prelude.{None, Option as Opt, Some, Result, Ok, Err}
use Rattle.result.specs.declared.Refusal.{Refusal}
use Rattle.result.specs.declared.Refusal.TheVariants.{Short, Failed, Unsaved}
use Rattle.monitor.specs.Mon.{Mon}
use Rattle.node_step.specs.Memory.{Memory}
use Rattle.lent.specs.Lent.{LentTables, LentMonitor, monitor_of, lent_of, monitor_room, rule_mon, refusal_of, HoldsRule, Ready}
use Rattle.lent.proofs.Refusals.{not_refused}
use Rattle.lent.proofs.Standings.{lent_parts}
use Rattle.bits.specs.Bits.{bit_in, packed}
use Rattle.kept.specs.declared.Keep.{Keep}
use Rattle.kept.specs.Kept.{keeps, kept_bytes, state_bits_of, spent, stored}
use Rattle.saving.specs.Save as save
use Rattle.saving.specs.Save.{Saving, written, save_kept, save_call}
use Rattle.saving.specs.Restore.{or_refuse, restored, restore_mon, restore_call}
use Rattle.saving.proofs.Saves.{save_fits, save_refused}

not_ok : {B : Type 0} {n : ℕ} {r : Refusal} → ◌≡◌ {A = Result ℕ Refusal} (Err r) (Ok n) → B
not_ok e = let z : ◌≡◌ {A = ℕ} 0 1 = cc in absurd (omega arith)

ok_inj : {a b : ℕ} → ◌≡◌ {A = Result ℕ Refusal} (Ok a) (Ok b) → a ≡ b
ok_inj e = cc

-- ---- saving
pub record SavedBy (t : LentTables) (k : LentMonitor) (bytes : List ℕ) (n : ℕ) : Type 0 where
  pub mon : Mon
  pub holds : HoldsRule t mon
  pub ready : Ready k mon
  pub need : n ≡ kept_bytes (keeps mon)
  pub room : kept_bytes (keeps mon) ≤ length bytes
  pub unspent : spent (keeps mon) k.memory.failed ≡ false
  pub wrote : (save_call t k bytes).bytes ≡ sets bytes 0 (packed (state_bits_of (keeps mon) k.memory.held k.memory.remaining 0))

module _ (xs : List Keep) (held : List Bool) (remaining : List ℕ) (failed : List Bool) (bytes : List ℕ) where
  kept_inv : (n : ℕ) (a b : Bool) → (save.or_refuse a Short bytes (save.or_refuse (bool.not b) Failed bytes (written xs held remaining bytes))).answer ≡ Ok n → (a ≡ true) × (b ≡ false) × (n ≡ kept_bytes xs)
  kept_inv n true true q = not_ok q
  kept_inv n true false q = (refl, refl, sym (ok_inj q))
  kept_inv n false b q = not_ok q

  pub kept_saves : kept_bytes xs ≤ length bytes → spent xs failed ≡ false → save_kept xs held remaining failed bytes ≡ written xs held remaining bytes
  kept_saves h s = ap₂ (λ (a b : Bool). save.or_refuse a Short bytes (save.or_refuse (bool.not b) Failed bytes (written xs held remaining bytes))) (le-leb _ _ h) s

pub save_inv : (t : LentTables) (k : LentMonitor) (bytes : List ℕ) (n : ℕ) → (save_call t k bytes).answer ≡ Ok n → SavedBy t k bytes n
save_inv t k bytes n q = go (refusal_of t k) refl
  where
    go : (o : Opt Refusal) → refusal_of t k ≡ o → SavedBy t k bytes n
    go None e =
        let (m, a, d) = not_refused t k e in
        let f = save_fits t k bytes m a d in
        let mem : Memory = k.memory in
        let (x, y, z) = kept_inv (keeps m) mem.held mem.remaining mem.failed bytes n (leb (kept_bytes (keeps m)) (length bytes)) (spent (keeps m) mem.failed) (sym (ap (λ (c : Saving). c.answer) f) ∙ q) in
        let l = leb-true (kept_bytes (keeps m)) (length bytes) x in
        record {
          mon = m;
          holds = a;
          ready = d;
          need = z;
          room = l;
          unspent = y;
          wrote = ap (λ (c : Saving). c.bytes) (f ∙ kept_saves (keeps m) mem.held mem.remaining mem.failed bytes l y);
        }
    go (Some r) e = not_ok (sym (ap (λ (c : Saving). c.answer) (save_refused t k bytes r e)) ∙ q)

-- ---- restoring
pub record RestoredBy (t : LentTables) (forms bounds : List ℕ) (mem : Memory) (bytes : List ℕ) (m : Mon) : Type 0 where
  pub holds : HoldsRule t m
  pub room : monitor_room forms bounds mem ≡ true
  pub long : kept_bytes (keeps m) ≤ length bytes
  pub sound : stored (keeps m) (bit_in bytes) ≡ true

module _ (t : LentTables) (forms bounds : List ℕ) (mem : Memory) (bytes : List ℕ) where
  pub restore_takes : (m : Mon) → RestoredBy t forms bounds mem bytes m → restore_call t forms bounds mem bytes ≡ restored (keeps m) t.nodes t.nfirst t.ncount forms bounds mem bytes
  unfolding restore_call
  restore_takes m r =
      ap₂ (λ (b : Bool) (o : Option Mon). or_refuse b Short forms bounds mem (restore_mon o t forms bounds mem bytes)) (ap₂ ◌&&◌ r.holds.room r.room) r.holds.rule
      ∙ ap₂ (λ (a b : Bool). or_refuse a Short forms bounds mem (or_refuse b Unsaved forms bounds mem (restored (keeps m) t.nodes t.nfirst t.ncount forms bounds mem bytes))) (le-leb _ _ r.long) r.sound

  pub restore_inv : (c : ℕ) → (restore_call t forms bounds mem bytes).answer ≡ Ok c → (m : Mon) × RestoredBy t forms bounds mem bytes m × (c ≡ t.ncount)
  unfolding restore_call
  restore_inv c q = lent (lent_of t.ops t.nums t.nodes forms bounds mem) refl (rule_mon t) refl q
    where
      kept : (m : Mon) → rule_mon t ≡ some m → lent_of t.ops t.nums t.nodes forms bounds mem ≡ true → (a : Bool) → leb (kept_bytes (keeps m)) (length bytes) ≡ a → (b : Bool) → stored (keeps m) (bit_in bytes) ≡ b
          → (or_refuse a Short forms bounds mem (or_refuse b Unsaved forms bounds mem (restored (keeps m) t.nodes t.nfirst t.ncount forms bounds mem bytes))).answer ≡ Ok c → (m : Mon) × RestoredBy t forms bounds mem bytes m × (c ≡ t.ncount)
      kept m r l true x true y z =
          let (u, v) = lent_parts t (monitor_of 0 forms bounds mem) l in
          (m, record { holds = record { rule = r; room = u }; room = v; long = leb-true _ _ x; sound = y }, sym (ok_inj z))
      kept m r l true x false y z = not_ok z
      kept m r l false x b y z = not_ok z

      lent : (b : Bool) → lent_of t.ops t.nums t.nodes forms bounds mem ≡ b → (o : Option Mon) → rule_mon t ≡ o → (or_refuse b Short forms bounds mem (restore_mon o t forms bounds mem bytes)).answer ≡ Ok c → (m : Mon) × RestoredBy t forms bounds mem bytes m × (c ≡ t.ncount)
      lent true l none r z = not_ok z
      lent true l (some m) r z = kept m r l (leb (kept_bytes (keeps m)) (length bytes)) refl (stored (keeps m) (bit_in bytes)) refl z
      lent false l o r z = not_ok z
