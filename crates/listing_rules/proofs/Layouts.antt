-- The layout by the rows of the node table is that of the rules.
use mathlib.Core.Path.{◌≡◌, sym, ap, ap₂, ◌∙◌}
use mathlib.Core.Bool.{Bool, true}
use mathlib.Core.List.{List}
use Prim.Native.Nat.{ℕ, ◌≤◌, ◌<◌}
use native.Mathlib.Omega.{arith}
use lib.Dec.{eqb}
use lib.ListN.{length, get_or}
use lib.Seq.{length-sets}
use Rattle.plan.specs.Book.{first_bit, listed, kept, is_zero, part_bits, Rowed, Arranged}
use Rattle.plan.proofs.Rows.{table_bits, table_part}
use Rattle.terms.specs.Choice.{pick}
use Rattle.plan.proofs.Books.{filled_value, same_first, same_below, pick_same}
use Rattle.encoding.specs.declared.ConfigEncoding.{ConfigEncoding}
use Rattle.encoding.specs.Encoding.{state_bits_of, slot_bits, encoding_by, encoding_of, MonitorSum}
use Rattle.listing_rules.specs.Rules.{Rule, property, compiles, mon, bits_of, first_bit_of, encoding_for}
use Rattle.listing_rules.specs.Tabled.{Held, Tabled, Placed}
use Rattle.listing_rules.specs.Answers.{Placeable, Places, Encodable, Encodes}
use Rattle.listing_rules.proofs.Refusals.{refusal_zero, zero_compiles}

module _ {ops nums kinds firsts counts nodes nfirsts ncounts refusals : List ℕ} {R : ℕ → Rule} {n : ℕ} (w : Held ops nums kinds firsts counts R n)
    (t : Tabled ops nums firsts counts nodes nfirsts ncounts refusals R n) where
  kind_same : (r : ℕ) → r < n → is_zero kinds r ≡ property (R r)
  kind_same r h = ap (λ (v : ℕ). eqb v 0) (sym (w.kind r h))

  bits_same : (r : ℕ) → r < n → is_zero refusals r ≡ true → part_bits nodes nfirsts ncounts r ≡ bits_of (R r)
  bits_same r h e =
      table_bits ops nums (get_or firsts r 0) (get_or counts r 0) nodes (get_or nfirsts r 0) (get_or ncounts r 0) (mon (R r)) (t.compiled r h (sym (refusal_zero t r h) ∙ e))

  rowed : Rowed kinds refusals nodes nfirsts ncounts n
  rowed = record {
    few = w.few;
    in_kinds = omega (arith, w.few, w.in_kinds);
    in_refusals = omega (arith, w.few, t.in_refusals);
    in_nfirsts = omega (arith, w.few, t.in_nfirsts);
    in_ncounts = omega (arith, w.few, t.in_ncounts);
    parts = λ r h e. table_part ops nums (get_or firsts r 0) (get_or counts r 0) nodes (get_or nfirsts r 0) (get_or ncounts r 0) (mon (R r)) (t.compiled r h (zero_compiles t r h e));
  }

  encoded : (count : ℕ) (ws : List ℕ) → encoding_of count ws n (is_zero refusals) (part_bits nodes nfirsts ncounts) ≡ encoding_for count ws R n
  unfolding encoding_of encoding_for
  encoded count ws = ap (encoding_by (state_bits_of count) (slot_bits ws))
      (same_below (is_zero refusals) (λ q. compiles (R q)) (part_bits nodes nfirsts ncounts) (λ q. bits_of (R q)) n λ r h.
      pick_same (is_zero refusals r) (part_bits nodes nfirsts ncounts r) (bits_of (R r)) 0 (bits_same r h)
      ∙ ap (λ (b : Bool). pick b (bits_of (R r)) 0) (refusal_zero t r h))

  module _ (base : ℕ) (starts starts' bits bits' : List ℕ) (in_starts : 64 ≤ length starts) (in_bits : 64 ≤ length bits)
      (a : Arranged base n (is_zero kinds) (is_zero refusals) (part_bits nodes nfirsts ncounts) starts starts' bits bits') where
    placed : Placed base R n starts' bits'
    unfolding first_bit_of
    placed = record {
      in_starts = omega (arith, ap length a.firsts_are, length-sets starts 0 (listed (kept (is_zero refusals) (first_bit base n (is_zero kinds) (is_zero refusals) (part_bits nodes nfirsts ncounts)) starts) n));
      in_bits = omega (arith, ap length a.bits_are, length-sets bits 0 (listed (kept (is_zero refusals) (part_bits nodes nfirsts ncounts) bits) n));
      start = λ r h c.
          ap (λ (l : List ℕ). get_or l r 0) a.firsts_are
          ∙ filled_value (is_zero refusals) (first_bit base n (is_zero kinds) (is_zero refusals) (part_bits nodes nfirsts ncounts)) starts n r h (omega (arith, w.few)) (refusal_zero t r h ∙ c)
          ∙ same_first n (is_zero kinds) (λ q. property (R q)) (is_zero refusals) (λ q. compiles (R q)) (part_bits nodes nfirsts ncounts) (λ q. bits_of (R q)) kind_same (refusal_zero t) bits_same base r h;
      bit = λ r h c.
          ap (λ (l : List ℕ). get_or l r 0) a.bits_are
          ∙ filled_value (is_zero refusals) (part_bits nodes nfirsts ncounts) bits n r h (omega (arith, w.few)) (refusal_zero t r h ∙ c)
          ∙ bits_same r h (refusal_zero t r h ∙ c);
    }

module _ (kinds nodes nfirsts ncounts refusals : List ℕ) (n base : ℕ) (starts bits : List ℕ) (p : Placeable kinds nodes nfirsts ncounts refusals n base starts bits) where
  pub rules_rowed : Rowed kinds refusals nodes nfirsts ncounts n
  rules_rowed = rowed p.held p.tabled

  pub starts_room : n ≤ length starts
  starts_room = omega (arith, p.held.few, p.in_starts)

  pub bits_room : n ≤ length bits
  bits_room = omega (arith, p.held.few, p.in_bits)

  pub places :
      (starts' bits' : List ℕ) → Arranged base n (is_zero kinds) (is_zero refusals) (part_bits nodes nfirsts ncounts) starts starts' bits bits'
      → Places kinds nodes nfirsts ncounts refusals n base starts' bits'
  places starts' bits' a = record {
    is = λ ops nums firsts counts R w t. placed w t base starts starts' bits bits' p.in_starts p.in_bits a;
  }

-- ---- the numbers of the whole
module _ (kinds nodes nfirsts ncounts refusals : List ℕ) (n state vars : ℕ) (p : Encodable kinds nodes nfirsts ncounts refusals n state vars) where
  pub encodable_rowed : Rowed kinds refusals nodes nfirsts ncounts n
  encodable_rowed = rowed p.held p.tabled

  pub encodes :
      (monitors : ℕ) (e : ConfigEncoding) → MonitorSum n (is_zero refusals) (part_bits nodes nfirsts ncounts) monitors → e ≡ encoding_by state vars monitors
      → Encodes kinds nodes nfirsts ncounts refusals n state vars e
  unfolding encoding_of
  encodes monitors e m z = record {
    is = λ ops nums firsts counts R w t count ws a b.
        z
        ∙ ap₂ (λ (s v : ℕ). encoding_by s v monitors) a b
        ∙ ap (encoding_by (state_bits_of count) (slot_bits ws)) m.is
        ∙ encoded w t count ws;
  }
