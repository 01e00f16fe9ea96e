-- The answers of the layout over a book.
use mathlib.Core.Path.{◌≡◌, refl, sym, ap, ap₂, subst, ◌∙◌}
use mathlib.Core.Bool.{Bool, true, false, ◌&&◌, not}
use mathlib.Core.List.{List, [], ◌∷◌, ◌++◌}
use mathlib.Core.Option.{Option, none, some}
use Prim.Native.Nat.{ℕ, zero, suc, ◌+◌, ◌≤◌, ◌<◌}
use native.Mathlib.Omega.{arith}
use borrow.Author.Tests.{le-leb, leb-true, eq-eqb, ne_eqb}
use lib.Dec.{leb, eqb}
use lib.ListN.{length, get_or, take}
use lib.Seq.{sets, length-take-le}
use Rattle.terms.specs.Choice.{pick}
use Rattle.result.specs.Result.{given, refused}
use Rattle.formula.specs.Formula.{Formula}
use Rattle.formula.specs.declared.table.Span.{Span}
use Rattle.formula.specs.Table.{is_some, rule_of}
use Rattle.formula.proofs.Rules.{both_long}
use Rattle.formula.proofs.Cases.{true_false}
use Rattle.formula.proofs.Walks.{both_true}
use Rattle.monitor.specs.Mon.{Mon}
use Rattle.monitor.specs.Compile.{rule_faults, rule_node}
use Rattle.std.specs.Prelude.{Ok, Err}
use Rattle.std.specs.Prelude.{Result as Returned}
use Rattle.result.specs.Refusal.{number_of, told}
use Rattle.result.specs.declared.Refusal.{Refusal}
use Rattle.compiler.specs.Compiled.{Call, first_or, compile_formula, rule_call, or_short, compile_call, Answers}
use Rattle.plan.specs.Book.{first_bit, listed, kept, filled_in, is_zero, part_bits, Rowed, Arranged}
use Rattle.plan.proofs.Rows.{table_bits}
use Rattle.plan.proofs.Books.{pick_same, same_first, same_below}
use Rattle.encoding.specs.declared.ConfigEncoding.{ConfigEncoding}
use Rattle.encoding.specs.Below.{all_below}
use Rattle.encoding.specs.Encoding.{state_bits_of, slot_bits, slot_from, monitors_base, encoding_by, encoding_of, opening, StateSum, SlotSum, MonitorSum}
use Rattle.encoding.proofs.Below.{all_false, all_inv}
use Rattle.encoding.proofs.Places.{opening_count, opening_widths}
use Rattle.layout.specs.Entry.{roomy_nodes, roomy_rules, rule_at, mon_at, bits_in, agrees, fine, fine_of, Outcome, outcome, sound, roomy_tables, roomy_outputs, slots_in, laid_out, layout_of, Layable, Laid}
use Rattle.layout.proofs.Rules.{some_mon, part_compiled}

-- ---- room for 64 rules
module _ (k r f c nf nc : List ℕ) where
  record Long : Type 0 where
    pub k_long : 64 ≤ length k
    pub r_long : 64 ≤ length r
    pub f_long : 64 ≤ length f
    pub c_long : 64 ≤ length c
    pub nf_long : 64 ≤ length nf
    pub nc_long : 64 ≤ length nc

  long : (w : Bool) → w ≡ roomy_rules k r f c nf nc → w ≡ true → Long
  long w e h =
      let (a, p) = both_true (leb 64 (length k)) _ (sym e ∙ h) in
      let (b, q) = both_true (leb 64 (length r)) _ p in
      let (d, s) = both_true (leb 64 (length f)) _ q in
      let (g, t) = both_true (leb 64 (length c)) _ s in
      let (i, j) = both_true (leb 64 (length nf)) _ t in
      record { k_long = leb-true _ _ a; r_long = leb-true _ _ b; f_long = leb-true _ _ d; c_long = leb-true _ _ g; nf_long = leb-true _ _ i; nc_long = leb-true _ _ j }

-- ---- each rule is compiled as its flag says
-- what the compiler answers, for a rule in a table with room
module _ (ops nums : List ℕ) (p : Span) (first count : ℕ) (s : p ≡ record { first = first; count = count }) (k : ℕ) (m : Option Mon) (g : 1024 ≤ length ops) (h : 1024 ≤ length nums) (q : Bool) (z : q ≡ is_some (rule_of ops nums p.first p.count)) (y : q ≡ true) (out : List ℕ) (l : 1792 ≤ length out) (a : Returned ℕ Refusal) (out' : List ℕ) (w : Answers (compile_call ops nums p.first p.count out) a out') where
  the_rule : (f : Formula) × (rule_of ops nums p.first p.count ≡ some f)
  the_rule = go (rule_of ops nums p.first p.count) refl (sym z ∙ y)
    where
      go : (o : Option Formula) → rule_of ops nums p.first p.count ≡ o → is_some o ≡ true → (f : Formula) × (rule_of ops nums p.first p.count ≡ some f)
      go none e x = true_false x refl
      go (some f) e x = (f, e)

  called : compile_call ops nums p.first p.count out ≡ first_or (rule_faults the_rule.0) (rule_node the_rule.0 p.first) out
  unfolding compile_call
  called =
      ap₂ (λ (x y : Bool). or_short (x && y) out (rule_call ops nums p.first p.count out)) (sym (both_long ops nums g h)) (le-leb 1792 (length out) l)
      ∙ ap (λ (o : Option Formula). compile_formula o p.first out) the_rule.1

  answered : told a ≡ (first_or (rule_faults the_rule.0) (rule_node the_rule.0 p.first) out).answer
  answered = w.answers ∙ ap (λ (c : Call). c.answer) called

  by_faults : fine (rule_of ops nums first count) k m ≡ agrees (rule_faults the_rule.0) k m
  by_faults = ap (λ (x : Span). fine (rule_of ops nums x.first x.count) k m) (sym s) ∙ ap (λ (o : Option Formula). fine o k m) the_rule.1

  module _ (n : ℕ) (x : a ≡ Ok n) where
    compiles : rule_faults the_rule.0 ≡ []
    compiles = go (rule_faults the_rule.0) refl (sym (ap told x) ∙ answered)
      where
        go : (fs : List Refusal) → rule_faults the_rule.0 ≡ fs → given n ≡ (first_or fs (rule_node the_rule.0 p.first) out).answer → rule_faults the_rule.0 ≡ []
        go [] e v = e
        go (j ∷ js) e v = let t : ◌≡◌ {A = ℕ} 0 1 = cc in absurd (omega arith)

    pub fine_flagged : (k ≡ 0 → ⊥) → eqb k 0 ≡ fine (rule_of ops nums first count) k m
    fine_flagged e = ne_eqb k 0 e ∙ sym (by_faults ∙ ap (λ (fs : List Refusal). agrees fs k m) compiles ∙ ap (λ (b : Bool). b && is_some m) (ne_eqb k 0 e))

    pub fine_compiled : k ≡ 0 → (b : Bool) → b ≡ is_some m → b ≡ fine (rule_of ops nums first count) k m
    fine_compiled e b v = v ∙ sym (by_faults ∙ ap (λ (fs : List Refusal). agrees fs k m) compiles ∙ ap (λ (b : Bool). b && is_some m) (eq-eqb k 0 e))

  module _ (n : Refusal) (x : a ≡ Err n) where
    refuses : agrees (rule_faults the_rule.0) k m ≡ (not (eqb k 0) && eqb k (number_of n))
    refuses = go (rule_faults the_rule.0) (sym (ap told x) ∙ answered)
      where
        go : (fs : List Refusal) → refused (number_of n) ≡ (first_or fs (rule_node the_rule.0 p.first) out).answer → agrees fs k m ≡ (not (eqb k 0) && eqb k (number_of n))
        go [] v = let t : ◌≡◌ {A = ℕ} 0 1 = cc in absurd (omega arith)
        go (j ∷ js) v = let t : number_of n ≡ number_of j = cc in ap (λ (i : ℕ). not (eqb k 0) && eqb k i) (sym t)

    pub fine_unflagged : k ≡ 0 → not (eqb k 0) ≡ fine (rule_of ops nums first count) k m
    fine_unflagged e = ap not (eq-eqb k 0 e) ∙ sym (by_faults ∙ refuses ∙ ap (λ (b : Bool). not b && eqb k (number_of n)) (eq-eqb k 0 e))

    pub fine_refused : (j : ℕ) → j ≡ number_of n → (k ≡ 0 → ⊥) → eqb k j ≡ fine (rule_of ops nums first count) k m
    fine_refused j i e = ap (eqb k) i ∙ sym (by_faults ∙ refuses ∙ ap (λ (b : Bool). not b && eqb k (number_of n)) (ne_eqb k 0 e))

-- where flag 0 agrees, the nodes hold a compiled rule
flag_zero : (o : Option Formula) (k : ℕ) (m : Option Mon) → eqb k 0 ≡ true → fine o k m ≡ true → is_some m ≡ true
flag_zero none k m c e = true_false e refl
flag_zero (some f) k m c e = go (rule_faults f) e
  where
    go : (fs : List Refusal) → agrees fs k m ≡ true → is_some m ≡ true
    go [] v = (both_true (eqb k 0) (is_some m) v).1
    go (n ∷ ns) v = true_false (both_true (not (eqb k 0)) (eqb k (number_of n)) v).0 (ap not c)

-- one rule that is not fine is enough
pub one_not : (ok : ℕ → Bool) (r n : ℕ) (b : Bool) → r < n → b ≡ ok r → b ≡ false → false ≡ all_below ok n
one_not ok r n b h e z = all_false ok r n h (sym e ∙ z)

-- ---- two ways to know the bits of the rules below n agree, where they compile
module _ (n : ℕ) (property compiled : ℕ → Bool) (f g : ℕ → ℕ) (h : (r : ℕ) → r < n → compiled r ≡ true → f r ≡ g r) where
  same_listed : (u v : ℕ → ℕ) (old : List ℕ) (m : ℕ) → ((r : ℕ) → r < m → kept compiled u old r ≡ kept compiled v old r) → listed (kept compiled u old) m ≡ listed (kept compiled v old) m
  unfolding listed
  same_listed u v old zero e = refl
  same_listed u v old (suc m) e = ap₂ (λ (l : List ℕ) (x : ℕ). l ++ (x ∷ [])) (same_listed u v old m (λ r l. e r (omega arith))) (e m (omega arith))

  same_bits : (old : List ℕ) → filled_in compiled f old n ≡ filled_in compiled g old n
  same_bits old = ap (sets old 0) (same_listed f g old n (λ r l. pick_same (compiled r) (f r) (g r) (get_or old r 0) (λ e. h r l e)))

  same_firsts : (base : ℕ) (old : List ℕ) → filled_in compiled (first_bit base n property compiled f) old n ≡ filled_in compiled (first_bit base n property compiled g) old n
  same_firsts base old = ap (sets old 0)
      (same_listed (first_bit base n property compiled f) (first_bit base n property compiled g) old n
      (λ r l. pick_same (compiled r) _ _ (get_or old r 0) (λ e. same_first n property property compiled compiled f g (λ k j. refl) (λ k j. refl) h base r l)))

  same_encoding : (states : ℕ) (ws : List ℕ) → encoding_of states ws n compiled f ≡ encoding_of states ws n compiled g
  unfolding encoding_of
  same_encoding states ws = ap (encoding_by (state_bits_of states) (slot_bits ws)) (same_below compiled compiled f g n (λ r l. pick_same (compiled r) (f r) (g r) 0 (h r l)))

-- ---- room in the tables and in the outputs
module _ (ops nums nodes kinds refusals firsts counts nfirsts ncounts widths : List ℕ) where
  -- what it says
  module _ (w : Bool) (e : w ≡ roomy_tables ops nums nodes kinds refusals firsts counts nfirsts ncounts widths) (h : w ≡ true) where
    nodes_and : (roomy_nodes ops nums nodes ≡ true) × ((roomy_rules kinds refusals firsts counts nfirsts ncounts && leb 32 (length widths)) ≡ true)
    nodes_and = both_true (roomy_nodes ops nums nodes) (roomy_rules kinds refusals firsts counts nfirsts ncounts && leb 32 (length widths)) (sym e ∙ h)

    rules_and : (roomy_rules kinds refusals firsts counts nfirsts ncounts ≡ true) × (leb 32 (length widths) ≡ true)
    rules_and = both_true (roomy_rules kinds refusals firsts counts nfirsts ncounts) (leb 32 (length widths)) nodes_and.1

    rules_long : Long kinds refusals firsts counts nfirsts ncounts
    rules_long = long kinds refusals firsts counts nfirsts ncounts _ refl rules_and.0

    pub widths_long : 32 ≤ length widths
    widths_long = leb-true _ _ rules_and.1

module _ (starts bits places : ℕ) where
  outputs_long : (w : Bool) → w ≡ roomy_outputs starts bits places → w ≡ true → (64 ≤ starts) × ((64 ≤ bits) × (32 ≤ places))
  outputs_long w e h =
      let (a, p) = both_true (leb 64 starts) (leb 64 bits && leb 32 places) (sym e ∙ h) in
      let (b, c) = both_true (leb 64 bits) (leb 32 places) p in
      (leb-true _ _ a, (leb-true _ _ b, leb-true _ _ c))

-- ---- laying out
module _ (kinds refusals nodes nfirsts ncounts : List ℕ) (n states : ℕ) (widths : List ℕ) (m : ℕ) (starts bits places : List ℕ)
    (w : Layable kinds refusals nodes nfirsts ncounts n states widths m starts bits places) (state vars : ℕ) (a : StateSum states state) (b : SlotSum (take m widths) m vars) where
  module _ (monitors : ℕ) (d : MonitorSum n (is_zero refusals) (part_bits nodes nfirsts ncounts) monitors) where
    pub laid : (starts' bits' places' : List ℕ) (r : ConfigEncoding) → places' ≡ sets places 0 (listed (slot_from state (take m widths)) m)
        → Arranged (state + vars) n (is_zero kinds) (is_zero refusals) (part_bits nodes nfirsts ncounts) starts starts' bits bits' → r ≡ encoding_by state vars monitors
        → Laid kinds refusals nodes nfirsts ncounts n states widths m starts starts' bits bits' places places' r
    unfolding encoding_of
    laid starts' bits' places' r p q z = record {
      encoded = z ∙ ap₂ (λ (s v : ℕ). encoding_by s v monitors) a.is b.is ∙ ap (encoding_by (state_bits_of states) (slot_bits (take m widths))) d.is;
      arranged = subst (λ (k : ℕ). Arranged k n (is_zero kinds) (is_zero refusals) (part_bits nodes nfirsts ncounts) starts starts' bits bits') (ap₂ ◌+◌ a.is b.is) q;
      slots_are = p ∙ ap₂ (λ (s k : ℕ). sets places 0 (listed (slot_from s (take m widths)) k)) a.is (sym (length-take-le m widths w.slots.inside));
    }

-- ---- the call
module _ (ops nums firsts counts nodes nfirsts ncounts kinds refusals : List ℕ) (n states : ℕ) (widths : List ℕ) (m : ℕ) (starts bits' places : List ℕ) where
  answer : (w o s : Bool) → Outcome
  answer w o s =
      pick (w && o)
      (pick s (laid_out kinds refusals (mon_at ops nums firsts counts nodes nfirsts ncounts) n states (take m widths) starts bits' places) (outcome (refused 2) starts bits' places))
      (outcome (refused 1) starts bits' places)

  layout_is : {w o s : Bool} → roomy_tables ops nums nodes kinds refusals firsts counts nfirsts ncounts widths ≡ w → roomy_outputs (length starts) (length bits') (length places) ≡ o
      → sound states widths m (rule_at ops nums firsts counts) refusals (mon_at ops nums firsts counts nodes nfirsts ncounts) n ≡ s
      → layout_of ops nums firsts counts nodes nfirsts ncounts kinds refusals n states widths m starts bits' places ≡ answer w o s
  unfolding layout_of answer
  layout_is a b c = λ i. answer (a i) (b i) (c i)

  module _ (w : Bool) (e : w ≡ roomy_tables ops nums nodes kinds refusals firsts counts nfirsts ncounts widths) where
    pub layout_narrow : w ≡ false → outcome (refused 1) starts bits' places ≡ layout_of ops nums firsts counts nodes nfirsts ncounts kinds refusals n states widths m starts bits' places
    unfolding answer
    layout_narrow h = sym (layout_is (sym e ∙ h) refl refl)

    module _ (h : w ≡ true) (o : Bool) (e₂ : o ≡ roomy_outputs (length starts) (length bits') (length places)) where
      pub layout_short : o ≡ false → outcome (refused 1) starts bits' places ≡ layout_of ops nums firsts counts nodes nfirsts ncounts kinds refusals n states widths m starts bits' places
      unfolding answer
      layout_short g = sym (layout_is (sym e ∙ h) (sym e₂ ∙ g) refl)

      module _ (g : o ≡ true) (q : Bool) (z : q ≡ sound states widths m (rule_at ops nums firsts counts) refusals (mon_at ops nums firsts counts nodes nfirsts ncounts) n) where
        pub layout_unsound : q ≡ false → outcome (refused 2) starts bits' places ≡ layout_of ops nums firsts counts nodes nfirsts ncounts kinds refusals n states widths m starts bits' places
        unfolding answer
        layout_unsound y = sym (layout_is (sym e ∙ h) (sym e₂ ∙ g) (sym z ∙ y))

        module _ (y : q ≡ true) where
          opens_and : (opening states widths m ≡ true) × ((leb n 64 && all_below (fine_of (rule_at ops nums firsts counts) refusals (mon_at ops nums firsts counts nodes nfirsts ncounts)) n) ≡ true)
          opens_and = both_true (opening states widths m) _ (sym z ∙ y)

          few_and : (leb n 64 ≡ true) × (all_below (fine_of (rule_at ops nums firsts counts) refusals (mon_at ops nums firsts counts nodes nfirsts ncounts)) n ≡ true)
          few_and = both_true (leb n 64) _ opens_and.1

          few_rules : n ≤ 64
          few_rules = leb-true _ _ few_and.0

          is_fine : (r : ℕ) → r < n → is_zero refusals r ≡ true → is_some (mon_at ops nums firsts counts nodes nfirsts ncounts r) ≡ true
          is_fine r j c = flag_zero (rule_at ops nums firsts counts r) _ _ c
              (all_inv (fine_of (rule_at ops nums firsts counts) refusals (mon_at ops nums firsts counts nodes nfirsts ncounts)) n r few_and.1 j)

          rules_rowed : Rowed kinds refusals nodes nfirsts ncounts n
          rules_rowed =
              let o = rules_long ops nums nodes kinds refusals firsts counts nfirsts ncounts widths w e h in
              let k = few_rules in
              record {
                few = k;
                in_kinds = omega (arith, o.k_long);
                in_refusals = omega (arith, o.r_long);
                in_nfirsts = omega (arith, o.nf_long);
                in_ncounts = omega (arith, o.nc_long);
                parts = λ r j c. part_compiled ops nums (get_or firsts r 0) (get_or counts r 0) nodes (get_or nfirsts r 0) (get_or ncounts r 0) _ refl (is_fine r j (eq-eqb _ 0 c));
              }

          pub layable : Layable kinds refusals nodes nfirsts ncounts n states widths m starts bits' places
          layable =
              let l = outputs_long (length starts) (length bits') (length places) o e₂ g in
              let k = few_rules in
              let s = opening_widths states widths m _ refl opens_and.0 (widths_long ops nums nodes kinds refusals firsts counts nfirsts ncounts widths w e h) in
              record {
                rowed = rules_rowed;
                counted = opening_count states widths m _ refl opens_and.0;
                slots = s;
                in_starts = omega (arith, l.0);
                in_bits = omega (arith, l.1.0);
                in_places = omega (arith, l.1.1, s.few);
              }

          same_as_mon : (r : ℕ) → r < n → is_zero refusals r ≡ true → part_bits nodes nfirsts ncounts r ≡ bits_in (mon_at ops nums firsts counts nodes nfirsts ncounts r)
          same_as_mon r j c =
              let (x, p) = some_mon _ _ refl (is_fine r j c) in
              table_bits ops nums (get_or firsts r 0) (get_or counts r 0) nodes (get_or nfirsts r 0) (get_or ncounts r 0) x p ∙ sym (ap bits_in p)

          pub layout_done : (starts'' bits'' places'' : List ℕ) (r : ConfigEncoding)
              → Laid kinds refusals nodes nfirsts ncounts n states widths m starts starts'' bits' bits'' places places'' r
              → outcome (given r) starts'' bits'' places'' ≡ layout_of ops nums firsts counts nodes nfirsts ncounts kinds refusals n states widths m starts bits' places
          unfolding answer
          layout_done starts'' bits'' places'' r a =
              let f : ℕ → ℕ = part_bits nodes nfirsts ncounts in
              let t : ℕ → ℕ = λ (r : ℕ). bits_in (mon_at ops nums firsts counts nodes nfirsts ncounts r) in
              ap₂ (λ (x : ConfigEncoding) (l : List ℕ). outcome (given x) starts'' bits'' l)
              (a.encoded ∙ same_encoding n (is_zero kinds) (is_zero refusals) f t same_as_mon states (take m widths)) a.slots_are
              ∙ ap₂ (λ (k l : List ℕ). outcome (given (encoding_of states (take m widths) n (is_zero refusals) t)) k l (slots_in states (take m widths) places))
              (a.arranged.firsts_are ∙ same_firsts n (is_zero kinds) (is_zero refusals) f t same_as_mon (monitors_base states (take m widths)) starts)
              (a.arranged.bits_are ∙ same_bits n (is_zero kinds) (is_zero refusals) f t same_as_mon bits')
              ∙ sym (layout_is (sym e ∙ h) (sym e₂ ∙ g) (sym z ∙ y))
