-- Where stepping starts: the rows of a book's compiled rules, and a cleared memory that holds the fresh states.
use mathlib.Core.Path.{◌≡◌, sym, subst, ◌∙◌}
use mathlib.Core.Bool.{true, false}
use mathlib.Core.List.{List}
use Prim.Native.Nat.{ℕ, ◌+◌, ◌≤◌, ◌<◌}
use native.Mathlib.Omega.{arith}
use lib.IntN.{pos}
use lib.ListN.{get_or, replicate, length-replicate, get_or-replicate}
use Rattle.monitor.specs.Mon.{Mon, count}
use Rattle.meaning.specs.Culprit.{minus_one}
use Rattle.meaning.specs.State.{WellShaped, initial_state}
use Rattle.meaning.proofs.Meaning.{fresh_shaped}
use Rattle.node_step.specs.declared.state.MonState.{MonState}
use Rattle.node_step.specs.Memory.{Memory, get, Inside}
use Rattle.stepping.specs.Walk.{Blameless, ShapedAt, read_mon}
use Rattle.stepping.specs.Fresh.{cleared}
use Rattle.node_step.proofs.Entries.{inside_less}
use Rattle.stepping.proofs.Memories.{read_same, blameless_same}
use Rattle.lent.proofs.Standings.{Stood, stood}
use Rattle.stepping.proofs.Starting.{clear_entry, fresh_reads, fresh_blameless}
use Rattle.text.specs.Tape.{Tape}
use Rattle.listing_rules.specs.Rules.{Rule, compiles, mon}
use Rattle.listing_rules.specs.Tabled.{Tabled}
use Rattle.listing_reports.specs.Reports.{fresh_states}
use Rattle.listing_steps.specs.Holding.{Rows, Holding}
use Rattle.listing_steps.specs.Stepped.{LinesDue, LinesStepped, StepsDue, StepsReported}

-- ---- the rows
pub tabled_rows :
    (ops nums firsts counts nodes nfirsts ncounts refusals : List ℕ) (R : ℕ → Rule) (n : ℕ)
    → Tabled ops nums firsts counts nodes nfirsts ncounts refusals R n → Rows ops nums nodes nfirsts refusals R n
tabled_rows ops nums firsts counts nodes nfirsts ncounts refusals R n t = record {
  few = t.few;
  in_nfirsts = omega (arith, t.few, t.in_nfirsts);
  in_refusals = omega (arith, t.few, t.in_refusals);
  refused = t.refused;
  stands = λ r h c. (known r h c).stands;
  in_nodes = λ r h c. omega (arith, (known r h c).in_nodes, (known r h c).counted);
  room = λ r h c. omega (arith, t.room r h c, (known r h c).counted);
  apart = λ q r l h c d. omega (arith, t.apart q r l h c d, (known q (omega arith) c).counted);
}
  where
    known : (r : ℕ) → r < n → compiles (R r) ≡ true → Stood ops nums nodes (get_or nfirsts r 0) (get_or ncounts r 0) (mon (R r))
    known r h c = stood ops nums (get_or firsts r 0) (get_or counts r 0) nodes (get_or nfirsts r 0) (get_or ncounts r 0) (mon (R r)) (t.compiled r h c)

-- ---- the fresh states
-- nothing pending, failed or remembered, and every culprit minus 1
abbrev pub blanks : ℕ → Memory
blanks n = record {
  held = replicate n false;
  remaining = replicate n 0;
  failed = replicate n false;
  culprits = replicate n minus_one;
}

abbrev blank : MonState
blank = record { held = false; remaining = 0; failed = false; culprit = minus_one }

module _ (n : ℕ) where
  blank_at : (k : ℕ) → k < n → get (blanks n) k ≡ blank
  blank_at k h = λ i. record {
    held = get_or-replicate n k false false h i;
    remaining = get_or-replicate n k 0 0 h i;
    failed = get_or-replicate n k false false h i;
    culprit = get_or-replicate n k minus_one (pos 0) h i;
  }

  blanks_inside : Inside (blanks n) n
  blanks_inside = record {
    held = omega (arith, length-replicate n false);
    remaining = omega (arith, length-replicate {A = ℕ} n 0);
    failed = omega (arith, length-replicate n false);
    culprits = omega (arith, length-replicate n minus_one);
  }

  blanks_read : (m : Mon) (k : ℕ) → k + count m ≤ n → read_mon m (blanks n) k ≡ initial_state m
  blanks_read m k h =
      read_same m (blanks n) (cleared (blanks n) n) k (λ j a b. blank_at j (omega arith) ∙ sym (clear_entry (blanks n) n blanks_inside j (omega arith)))
      ∙ fresh_reads (blanks n) n blanks_inside m k h

  blanks_blameless : (m : Mon) (k : ℕ) → k + count m ≤ n → Blameless m (blanks n) k
  blanks_blameless m k h = blameless_same m (cleared (blanks n) n) (blanks n) k (λ j a b. clear_entry (blanks n) n blanks_inside j (omega arith) ∙ sym (blank_at j (omega arith))) (fresh_blameless (blanks n) n blanks_inside m k h)

  blanks_shaped : (m : Mon) (k : ℕ) → k + count m ≤ n → ShapedAt m (blanks n) k
  blanks_shaped m k h = record { blameless = blanks_blameless m k h; kept = subst (WellShaped m) (sym (blanks_read m k h)) (fresh_shaped m) }

pub fresh_held :
    (ops nums nodes nfirsts refusals : List ℕ) (R : ℕ → Rule) (n size : ℕ) → Rows ops nums nodes nfirsts refusals R n → 1024 ≤ size
    → Holding nfirsts R n (fresh_states R) (blanks size)
fresh_held ops nums nodes nfirsts refusals R n size u h = record {
  inside = inside_less (blanks size) 1024 size h (blanks_inside size);
  rule = λ r l c. record {
    reads = blanks_read size (mon (R r)) (get_or nfirsts r 0) (omega (arith, u.room r l c));
    shaped = blanks_shaped size (mon (R r)) (get_or nfirsts r 0) (omega (arith, u.room r l c));
    kept = fresh_shaped (mon (R r));
  };
}

-- ---- stepping from there
module _ (text : List ℕ) (from : ℕ) (ops nums nodes nfirsts refusals : List ℕ) (n : ℕ) where
  pub fresh_due : StepsDue text ops nums nodes nfirsts refusals n → LinesDue text ops nums nodes nfirsts refusals n (blanks 1280)
  fresh_due d = record {
    rules = d.rules;
    states = fresh_states d.rules;
    rows = d.rows;
    holding = fresh_held ops nums nodes nfirsts refusals d.rules n 1280 d.rows (omega arith);
    short = d.short;
  }

  pub fresh_reported :
      (a b : Tape) (mem : Memory) (written : ℕ) → LinesStepped text from ops nums nodes nfirsts refusals n (blanks 1280) a mem b written
      → StepsReported text from ops nums nodes nfirsts refusals n a b written
  fresh_reported a b mem written l = record {
    wrote = λ R u. l.wrote R (fresh_states R) u (fresh_held ops nums nodes nfirsts refusals R n 1280 u (omega arith));
    counted = λ R u. l.counted R (fresh_states R) u (fresh_held ops nums nodes nfirsts refusals R n 1280 u (omega arith));
  }
