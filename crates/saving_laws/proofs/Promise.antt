-- Document 02, order 3: the promise of saving, `SaveRestore` (specs/Promise.antt).
use mathlib.Core.Path.{◌≡◌, refl, sym, ap, ap₂, subst, ◌∙◌}
use mathlib.Core.Bool.{Bool, true, false, ◌&&◌, ◌||◌}
use mathlib.Core.Bool as bool
use mathlib.Core.List.{List, []}
use Prim.Native.Nat.{ℕ, zero, suc, ◌+◌, ◌-◌, ◌*◌, ◌/◌, ◌%◌, ◌≤◌, ◌<◌}
use native.Mathlib.Omega.{arith}
use lib.ListN.{length, get_or, take, length-take, get_or-eq_default}
use lib.Seq.{sets, length-sets, get_or-take}
use Rattle.formula.specs.Pure.{bit}
use Rattle.formula.proofs.Trees.{some_inj}
use Rattle.formula.proofs.Walks.{both_true}
use Rattle.monitor.specs.Mon.{Mon}
use Rattle.encoding.specs.Encoding.{bytes_for}
use Rattle.meaning.specs.Calls.{step_count}
use Rattle.meaning.specs.Demand.{run_all, calls_of, AllFair}
use Rattle.meaning.specs.State.{State}
use Rattle.node_step.specs.declared.state.MonState.{MonState}
use Rattle.node_step.specs.Memory.{Memory, Inside}
use Rattle.lent.specs.Lent.{LentTables, LentMonitor, monitor_of, monitor_room, rule_mon, table_room, HoldsRule, Ready}
use Rattle.lent.proofs.Standings.{monitor_room_lem, room_back, rule_inside}
use Rattle.stepping.specs.Fresh.{Making, fresh_of}
use Rattle.stepping.specs.Walk.{read_mon}
use Rattle.stepping.proofs.Fitting.{fits_inv, fits_by}
use Rattle.stepping.proofs.Starting.{fresh_ready}
use Rattle.reports.specs.Calls.{Event, on_slices, ReadsAs, made_monitor}
use Rattle.reports.proofs.Following.{lawful}
use Rattle.meaning.proofs.Machines.{reads_on}
use Rattle.resumed.specs.Since.{EachSince, calls_since, going}
use Rattle.resumed.proofs.Since.{since, going_calls}
use Rattle.bits.specs.Bits.{bit_in, blank, spelled, packed}
use Rattle.bits.proofs.Packing.{packed_bit, packed_length, sets_front, repacked}
use Rattle.kept.specs.Kept.{keeps, kept_bits, kept_bytes, state_bits_of, spent, spent_from, entries_in, sound_from, stored}
use Rattle.saving.specs.Save.{Saving, written, save_call}
use Rattle.saving.specs.Restore.{restored, restore_call}
use Rattle.saving.proofs.Saves.{save_fits, state_length}
use Rattle.saving_laws.specs.Off.{switched_off}
use Rattle.saving_laws.specs.Promise.{ComesBack, AreBytes, SavedAgain, SaveRestore}
use Rattle.saving_laws.proofs.Keeps.{keeps_length}
use Rattle.saving_laws.proofs.Alike.{Alike}
use Rattle.saving_laws.proofs.Twins.{Twins, answers_alike}
use Rattle.saving_laws.proofs.Entries.{EntriesAre, entered_are, entered_inside, entries_length, Back, entries_back, bits_again, entries_clean, clean_unspent}
use Rattle.saving_laws.proofs.Trees.{or_false, CleanTree, clean_each, clean_tree, Savable, saved_tree, windowed_each, off_each, off_read}
use Rattle.saving_laws.proofs.Answers.{SavedBy, save_inv, RestoredBy, restore_takes, restore_inv, kept_saves}

-- ---- what restoring makes, from whatever sound bits
module _ (t : LentTables) (forms bounds : List ℕ) (mem : Memory) (bytes : List ℕ) (m : Mon) (r : RestoredBy t forms bounds mem bytes m) where
  abbrev back : LentMonitor
  back = made_monitor t.ncount (restored (keeps m) t.nodes t.nfirst t.ncount forms bounds mem bytes)

  abbrev bits : ℕ → Bool
  bits = bit_in bytes

  inside_rule : Inside mem (0 + length (keeps m))
  inside_rule = subst (λ (n : ℕ). Inside mem (0 + n)) (sym (keeps_length m)) (rule_inside t (monitor_of 0 forms bounds mem) m r.holds.rule r.room)

  -- the entries that the bits say
  entries_there : EntriesAre (entries_in (keeps m) bits 0) back.memory 0
  entries_there = entered_are (entries_in (keeps m) bits 0) mem 0 (subst (λ (n : ℕ). Inside mem (0 + n)) (sym (entries_length (keeps m) bits 0)) inside_rule)

  sound_bits : sound_from (keeps m) bits 0 ≡ true
  sound_bits = (both_true (sound_from (keeps m) bits 0) _ r.sound).0

  unused_bits : blank bits (kept_bits (keeps m)) (8 * kept_bytes (keeps m) - kept_bits (keeps m)) ≡ true
  unused_bits = (both_true (sound_from (keeps m) bits 0) _ r.sound).1

  made_clean : CleanTree back.memory m 0
  made_clean = clean_tree back.memory m 0 (clean_each back.memory (keeps m) 0 (entries_clean bits (keeps m) back.memory 0 0 entries_there sound_bits))

  made_ready : Ready back m
  made_ready =
      let k₀ : LentMonitor = monitor_of 0 forms bounds mem in
      let f : Ready (fresh_of t k₀) m = fresh_ready t k₀ m r.holds r.room in
      let (e, h) = fits_inv m (fresh_of t k₀) f.fit in
      let x = monitor_room_lem (fresh_of t k₀).forms (fresh_of t k₀).bounds (fresh_of t k₀).memory f.room in
      let y = monitor_room_lem forms bounds mem r.room in
      record {
        fit = fits_by m back e (record { own = h.own; blameless = made_clean.blameless; kept = made_clean.shaped });
        room = room_back back.forms back.bounds back.memory (record {
          forms_in = x.forms_in;
          bounds_in = x.bounds_in;
          inside = entered_inside (entries_in (keeps m) bits 0) mem 0 256 y.inside;
        });
      }

  -- saved again, it has these bits
  made_unspent : spent (keeps m) back.memory.failed ≡ false
  made_unspent = ap₂ ◌||◌ made_clean.root (clean_unspent (keeps m) back.memory 0 (entries_clean bits (keeps m) back.memory 0 0 entries_there sound_bits))

  made_bits : state_bits_of (keeps m) back.memory.held back.memory.remaining 0 ≡ spelled bits 0 (kept_bits (keeps m))
  made_bits = bits_again bits (keeps m) back.memory 0 0 entries_there sound_bits

  -- the culprits from there on
  made_culprits : (es : List Event) → AllFair on_slices m back es → EachSince m (read_mon m back.memory 0) (calls_since (calls_of on_slices back es)) (step_count (calls_of on_slices back es)) (read_mon m (run_all on_slices back es).memory 0)
  made_culprits es f =
      let st : State m = read_mon m back.memory 0 in
      let cs = calls_of on_slices back es in
      let e : read_mon m (run_all on_slices back es).memory 0 ≡ going m st (calls_since cs) (step_count cs) =
      reads_on on_slices m (ReadsAs m) (λ k. Ready k m) (lawful m) back st es refl f ∙ going_calls m st cs in
      subst (EachSince m st (calls_since cs) (step_count cs)) (sym e) (since m st made_clean.shaped made_clean.unblamed (calls_since cs) (step_count cs))

  again : AreBytes bytes → (t' : LentTables) → HoldsRule t' m → (others : List ℕ) → kept_bytes (keeps m) ≤ length others → SavedAgain bytes back t' others (kept_bytes (keeps m))
  again small t' a others h =
      let e : save_call t' back others ≡ written (keeps m) back.memory.held back.memory.remaining others =
      save_fits t' back others m a made_ready ∙ kept_saves (keeps m) back.memory.held back.memory.remaining back.memory.failed others h made_unspent in
      record {
        answers = ap (λ (c : Saving). c.answer) e;
        same = ap (λ (c : Saving). c.bytes) e ∙ ap (sets others 0) (ap packed made_bits ∙ repacked bytes small (kept_bits (keeps m)) unused_bits r.long);
      }

-- ---- what saving wrote
blank_by : (bits : ℕ → Bool) (at n : ℕ) → ((j : ℕ) → at ≤ j → j < at + n → bits j ≡ false) → blank bits at n ≡ true
unfolding blank
blank_by bits at zero h = refl
blank_by bits at (suc n) h = ap₂ ◌&&◌ (ap bool.not (h at (omega arith) (omega arith))) (blank_by bits (at + 1) n (λ j p q. h j (omega arith) (omega arith)))

module _ (t : LentTables) (k : LentMonitor) (bytes : List ℕ) (n : ℕ) (s : SavedBy t k bytes n) (stored' : List ℕ) (e : take n stored' ≡ take n (save_call t k bytes).bytes) where
  abbrev m : Mon
  m = s.mon

  abbrev bs : List Bool
  bs = state_bits_of (keeps m) k.memory.held k.memory.remaining 0

  bs_length : length bs ≡ kept_bits (keeps m)
  bs_length = state_length (keeps m) k.memory.held k.memory.remaining 0

  packed_needed : length (packed bs) ≡ kept_bytes (keeps m)
  packed_needed = packed_length bs ∙ ap bytes_for bs_length

  -- the bytes that hold the state are there
  stored_long : kept_bytes (keeps m) ≤ length stored'
  stored_long = omega (arith, s.need, length-take n stored', ap length e, length-take n (save_call t k bytes).bytes, ap length s.wrote, length-sets bytes 0 (packed bs), s.room)

  stored_byte : (i : ℕ) → i < kept_bytes (keeps m) → get_or stored' i 0 ≡ get_or (packed bs) i 0
  stored_byte i h =
      sym (get_or-take n stored' i 0 (omega (arith, s.need)))
      ∙ ap (λ (l : List ℕ). get_or l i 0) e
      ∙ get_or-take n (save_call t k bytes).bytes i 0 (omega (arith, s.need))
      ∙ ap (λ (l : List ℕ). get_or l i 0) s.wrote
      ∙ sets_front bytes (packed bs) (omega (arith, packed_needed, s.room)) i (omega (arith, packed_needed))

  stored_bit : (j : ℕ) → j < 8 * kept_bytes (keeps m) → bit_in stored' j ≡ get_or bs j false
  stored_bit j h = ap (bit (j % 8)) (stored_byte (j / 8) (omega arith)) ∙ packed_bit bs j

  savable : Savable k.memory m 0
  savable = saved_tree k.memory m 0 (fits_inv m k s.ready.fit).1.kept (or_false (get_or k.memory.failed 0 false) (spent_from (keeps m) k.memory.failed 0) s.unspent).1

  come_back : Back (bit_in stored') (keeps m) k.memory 0 0
  come_back = entries_back (bit_in stored') (keeps m) k.memory 0 [] (windowed_each k.memory (keeps m) 0 savable.windows) (λ j h. stored_bit j (omega (arith, bs_length)))

  unused : blank (bit_in stored') (kept_bits (keeps m)) (8 * kept_bytes (keeps m) - kept_bits (keeps m)) ≡ true
  unused = blank_by (bit_in stored') (kept_bits (keeps m)) _ (λ j p q. stored_bit j (omega arith) ∙ get_or-eq_default bs false (omega (arith, bs_length)))

  stored_sound : stored (keeps m) (bit_in stored') ≡ true
  stored_sound = ap₂ ◌&&◌ come_back.sound unused

  module _ (t' : LentTables) (rule : rule_mon t' ≡ rule_mon t) (room : table_room t'.ops t'.nums t'.nodes ≡ true) (forms bounds : List ℕ) (mem : Memory) (roomy : monitor_room forms bounds mem ≡ true) where
    restored_by : RestoredBy t' forms bounds mem stored' m
    restored_by = record { holds = record { rule = rule ∙ s.holds.rule; room = room }; room = roomy; long = stored_long; sound = stored_sound }

    abbrev came : LentMonitor
    came = back t' forms bounds mem stored' m restored_by

    state_back : read_mon m came.memory 0 ≡ switched_off m (read_mon m k.memory 0)
    state_back = off_read came.memory k.memory m 0
        (off_each came.memory k.memory (keeps m) 0 (subst (λ (es : List MonState). EntriesAre es came.memory 0) come_back.entries (entries_there t' forms bounds mem stored' m restored_by)) savable.windows)

    twins : Twins k came
    twins = record {
      mon = m;
      one = s.ready;
      other = made_ready t' forms bounds mem stored' m restored_by;
      alike = subst (Alike m (read_mon m k.memory 0)) (sym state_back) savable.alike;
      root = (or_false (get_or k.memory.failed 0 false) (spent_from (keeps m) k.memory.failed 0) s.unspent).0 ∙ sym (made_clean t' forms bounds mem stored' m restored_by).root;
    }

    comes : ComesBack m k came
    comes = record {
      ready = made_ready t' forms bounds mem stored' m restored_by;
      state = state_back;
      alike = answers_alike k came twins;
      unblamed = (made_clean t' forms bounds mem stored' m restored_by).unblamed;
      culprits = made_culprits t' forms bounds mem stored' m restored_by;
    }

-- ---- the whole
pub save_restore : SaveRestore
save_restore = record {
  comes_back = λ t t' k bytes stored' n q e rule room forms bounds mem roomy.
      let s = save_inv t k bytes n q in
      let r = restored_by t k bytes n s stored' e t' rule room forms bounds mem roomy in
      let f = restore_takes t' forms bounds mem stored' s.mon r in (
        ap (λ (c : Making). c.answer) f,
        λ m own. subst (λ (x : Mon). ComesBack x k (made_monitor t'.ncount (restore_call t' forms bounds mem stored'))) (some_inj (sym s.holds.rule ∙ own))
            (subst (λ (c : Making). ComesBack s.mon k (made_monitor t'.ncount c)) (sym f) (comes t k bytes n s stored' e t' rule room forms bounds mem roomy)),
      );
  saved_again = λ t t' stored' small forms bounds mem c q rule room.
      let (m, r, z) = restore_inv t forms bounds mem stored' c q in
      let f = restore_takes t forms bounds mem stored' m r in (
        kept_bytes (keeps m),
        r.long,
        λ others h.
            subst (λ (x : LentMonitor). SavedAgain stored' x t' others (kept_bytes (keeps m))) (ap₂ made_monitor (sym z) (sym f))
            (again t forms bounds mem stored' m r small t' (record { rule = rule ∙ r.holds.rule; room = room }) others h),
      );
}
