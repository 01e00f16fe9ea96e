-- The lines of a rule, one after the other.
use mathlib.Core.Bool.{Bool, true, false}
use mathlib.Core.Bool as bool
use mathlib.Core.List.{List, [], ◌∷◌, ◌++◌}
use mathlib.Core.Option.{some}
use mathlib.Core.Path.{◌≡◌, refl, sym, ap, subst, ◌∙◌}
use Prim.Native.Nat.{ℕ, ◌+◌, ◌*◌, ◌≤◌}
use native.Mathlib.Omega.{arith}
use borrow.Author.Tests.{le-leb}
use lib.Dec.{eqb}
use lib.ListN.{length, drop}
use lib.Seq.{sets}
use Rattle.terms.specs.Choice.{pick}
use Rattle.formula.specs.Formula.{Formula}
use Rattle.formula.specs.Table.{rule_of, Rule as RuleAt}
use Rattle.formula.proofs.Rules.{rule_inv}
use Rattle.formula.proofs.Trees.{some_inj}
use Rattle.liveness.specs.Split.{Answer, none as no_split, parts, refused, faults, first_or, live, split_of, property, skeleton_of, obligations_of, Obligation}
use Rattle.split.specs.Held.{outcome, held, owed_cells, splitting}
use Rattle.result.specs.declared.Refusal.{Refusal}
use Rattle.split.specs.declared.parts.Parts.{Parts}
use Rattle.split.proofs.Cells.{entries_most, owes_most_lem}
use Rattle.text.specs.Tape.{Tape, Wrote, joined}
use Rattle.text.proofs.Tapes.{as_text, nothing, then}
use Rattle.std.specs.Prelude.{Option, Some, None, Result, Ok, Err}
use Rattle.listing_line.specs.declared.rule.Compiled.{Compiled}
use Rattle.listing_line.specs.Node.{node_lines}
use Rattle.listing_line.specs.Rule.{rule_line}
use Rattle.listing_live.specs.Live.{live_line, owe_lines}
use Rattle.listing_live.specs.Entry.{LiveReady, OwesReady, OwesWrote}
use Rattle.listing_live.specs.Entry as entry
use Rattle.listing_live.proofs.Splits.{Stood, formula_stands, live_answer, answer_ready}
use Rattle.listing_live.proofs.OweLines.{owes_stand, OwesPure, owes_pure, owes_ready, owed_front}
use Rattle.listing_nodes.specs.Rows as rows
use Rattle.listing_rules.specs.Rules.{Rule, compiles, refusal, mon}
use Rattle.listing_head.specs.Head.{owes_of, nodes_text, live_text, owes_text}
use Rattle.listing_section.specs.Section.{Split, SplitWrote, split_text, Owing, OwingWrote, Listable, Readied, NodesPut, RulePut}

-- ---- `node` lines
told_compiled : (t : Bool) (c x y : Result Compiled ℕ) (z : Compiled) (n : ℕ) → c ≡ pick t x y → c ≡ Ok z → y ≡ Err n → t ≡ true
told_compiled true c x y z n e p q = refl
told_compiled false c x y z n e p q = cc

told_refused : (t : Bool) (c x y : Result Compiled ℕ) (z : Compiled) (n : ℕ) → c ≡ pick t x y → c ≡ Err n → x ≡ Ok z → t ≡ false
told_refused true c x y z n e p q = cc
told_refused false c x y z n e p q = refl

module _ (ops nums nodes label : List ℕ) (kind first count nfirst ncount : ℕ) (c : Result Compiled ℕ) where
  compiled_told : (q : Rule) (x : Compiled) → Listable ops nums nodes label kind first count nfirst ncount c q → c ≡ Ok x → compiles q ≡ true
  compiled_told q x h p = told_compiled (compiles q) c _ _ x (refusal q) h.gave p refl

  pub nodes_ready : (x : Compiled) → Readied ops nums nodes label kind first count nfirst ncount c → c ≡ Ok x → rows.Compiled ops nums nodes nfirst ncount
  nodes_ready x h p = record { first = first; count = count; mon = mon h.rule; is = h.is.compiled (compiled_told h.rule x h.is p) }

  pub nodes_wrote :
      (z : Compiled) (x y : Tape) → c ≡ Ok z → rows.NodesWrote ops nums nodes nfirst ncount x y
      → NodesPut ops nums nodes label kind first count nfirst ncount c x y
  unfolding nodes_text
  nodes_wrote z x y p w = record {
    is = λ q h.
        let t : compiles q ≡ true = compiled_told q z h p in
        subst (λ (s : Bool). Wrote x (pick s (joined (node_lines (mon q) 0)) []) y) (sym t) (w.is first count (mon q) (h.compiled t));
  }

  pub nodes_none : (n : ℕ) (x : Tape) → c ≡ Err n → NodesPut ops nums nodes label kind first count nfirst ncount c x x
  unfolding nodes_text
  nodes_none n x p = record {
    is = λ q h.
        let t : compiles q ≡ false = told_refused (compiles q) c _ _ (record { first = h.first_bit; bits = h.bits; alike = h.alike }) n h.gave p refl in
        subst (λ (s : Bool). Wrote x (pick s (joined (node_lines (mon q) 0)) []) x) (sym t) (nothing x);
  }

-- ---- the split
module _ (ops nums : List ℕ) (first count : ℕ) where
  same_formula : (f g : Formula) → rule_of ops nums first count ≡ some f → rule_of ops nums first count ≡ some g → f ≡ g
  same_formula f g e p = some_inj (sym e ∙ p)

  -- the obligations of an answer stand in the slice, and their operands are pure
  abbrev Owes : Answer → List ℕ → Type 0
  Owes no_split o = Unit
  Owes (refused n) o = Unit
  Owes (parts sk os) o = OwesPure ops nums os × entry.OwesStand ops nums os × (3 * length os ≤ length o)

  abbrev Both : Answer → List ℕ → List ℕ → Type 0
  Both x s o = Stood ops nums x s × Owes x o

  first_both :
      (f : Formula) (s o : List ℕ) (xs : List Refusal) → faults f ≡ xs → RuleAt ops nums first count f → 512 ≤ length s → 768 ≤ length o
      → Both (first_or xs (parts (skeleton_of f first 0) (obligations_of f first))) s o
  first_both f s o [] e r g h = (
    (formula_stands ops nums f first 0 r.spells (omega (arith, r.in_ops, r.covers)) (omega (arith, r.in_nums, r.covers)), omega (arith, entries_most f first 0, r.covers, r.few)),
    (owes_pure ops nums f first r.spells (omega (arith, r.in_ops, r.covers)) (omega (arith, r.in_nums, r.covers)) e, owes_stand ops nums f first r.spells, omega (arith, owes_most_lem f first, r.covers, r.few)),
  )
  first_both f s o (n ∷ ns) e r g h = (tt, tt)

  property_both : (t : Bool) (f : Formula) (s o : List ℕ) → RuleAt ops nums first count f → 512 ≤ length s → 768 ≤ length o → Both (property t f first) s o
  property_both true f s o r g h = first_both f s o (faults f) refl r g h
  property_both false f s o r g h = (tt, tt)

  split_both : (t : Bool) (f : Formula) (s o : List ℕ) → RuleAt ops nums first count f → 512 ≤ length s → 768 ≤ length o → Both (split_of t f first) s o
  split_both true f s o r g h = (tt, tt)
  split_both false f s o r g h = property_both (live f) f s o r g h

  -- what the call of `split` leaves
  split_held :
      (a : Bool) (f : Formula) (s o : List ℕ) → rule_of ops nums first count ≡ some f → 1024 ≤ length ops → 1024 ≤ length nums → 512 ≤ length s
      → 768 ≤ length o → splitting ops nums first count a s o ≡ held (split_of a f first) s o
  unfolding splitting
  split_held a f s o e p q g h = rw (e, le-leb _ _ p, le-leb _ _ q, le-leb _ _ g, le-leb _ _ h) refl

  module _ (a : Bool) (r : Result (Option Parts) Refusal) (s s' o o' : List ℕ) (k : Split ops nums first count)
      (e : outcome r s' o' ≡ splitting ops nums first count a s o) (g : 512 ≤ length s) (h : 768 ≤ length o) where
    held_is : outcome r s' o' ≡ held (split_of a k.formula first) s o
    held_is = e ∙ split_held a k.formula s o k.is k.in_ops k.in_nums g h

    both : Both (split_of a k.formula first) s o
    both = split_both a k.formula s o (rule_inv ops nums first count k.formula k.is) g h

    pub live_ready : LiveReady ops nums r s'
    live_ready = answer_ready ops nums (split_of a k.formula first) r s s' o o' held_is both.0

    pub owing : Owing ops nums first count a r o'
    owing = record { split = k; skeleton = s'; s = s; o = o; wide = g; room = h; is = held_is }

    pub split_wrote : (x y z : Tape) → Wrote x (entry.live_text ops nums r s') y → OwingWrote ops nums first count a y z → SplitWrote ops nums first count a x z
    split_wrote x y z w v = record {
      is = λ f p.
          let t : entry.live_text ops nums r s' ≡ live_line (split_of a f first) =
          live_answer ops nums (split_of a k.formula first) r s s' o o' held_is both.0 ∙ ap (λ (f : Formula). live_line (split_of a f first)) (same_formula k.formula f k.is p) in
          then (as_text x y (sym t) w) (v.is f p);
    }

  -- ---- `owe` lines
  owed_none : (x : Answer) (s s' o o' : List ℕ) → outcome (Ok None) s' o' ≡ held x s o → owes_of x ≡ []
  owed_none no_split s s' o o' e = refl
  owed_none (refused n) s s' o o' e = refl
  owed_none (parts sk os) s s' o o' e = let z : ◌≡◌ {A = ℕ} 0 1 = cc in absurd (omega arith)

  owed_refused : (x : Answer) (n : Refusal) (s s' o o' : List ℕ) → outcome (Err n) s' o' ≡ held x s o → owes_of x ≡ []
  owed_refused no_split n s s' o o' e = refl
  owed_refused (refused m) n s s' o o' e = refl
  owed_refused (parts sk os) n s s' o o' e = let z : ◌≡◌ {A = ℕ} 0 1 = cc in absurd (omega arith)

  module _ (a : Bool) (r : Result (Option Parts) Refusal) (owed : List ℕ) (k : Owing ops nums first count a r owed) where
    no_lines : (t : Tape) → owes_of (split_of a k.split.formula first) ≡ [] → OwingWrote ops nums first count a t t
    unfolding owe_lines joined
    no_lines t e = record {
      is = λ f p.
          let q : owes_of (split_of a f first) ≡ [] = ap (λ (g : Formula). owes_of (split_of a g first)) (same_formula f k.split.formula p k.split.is) ∙ e in
          as_text t t (ap (λ (os : List Obligation). joined (owe_lines os 0)) q) (nothing t);
    }

    pub owing_none : (x : Option Parts) (t : Tape) → r ≡ Ok x → x ≡ None → OwingWrote ops nums first count a t t
    owing_none x t e f = no_lines t (owed_none (split_of a k.split.formula first) k.s k.skeleton k.o owed (subst (λ (y : Result (Option Parts) Refusal). outcome y k.skeleton owed ≡ held (split_of a k.split.formula first) k.s k.o) (e ∙ ap Ok f) k.is))

    pub owing_refused : (n : Refusal) (t : Tape) → r ≡ Err n → OwingWrote ops nums first count a t t
    owing_refused n t e = no_lines t (owed_refused (split_of a k.split.formula first) n k.s k.skeleton k.o owed (subst (λ (y : Result (Option Parts) Refusal). outcome y k.skeleton owed ≡ held (split_of a k.split.formula first) k.s k.o) e k.is))

    parts_owes :
        (p : Parts) (y : Answer) → outcome (Ok (Some p)) k.skeleton owed ≡ held y k.s k.o → Owes y k.o
        → OwesReady ops nums owed p.owed × ((z : Tape) (t : Tape) → OwesWrote ops nums owed p.owed z t → Wrote z (joined (owe_lines (owes_of y) 0)) t)
    parts_owes p no_split e h = let z : ◌≡◌ {A = ℕ} 0 1 = cc in absurd (omega arith)
    parts_owes p (refused j) e h = let z : ◌≡◌ {A = ℕ} 0 1 = cc in absurd (omega arith)
    parts_owes p (parts sk os) e h =
        let n : p.owed ≡ length os = cc in
        let q : owed ≡ sets k.o 0 (owed_cells os) = cc in
        let rest : List ℕ = drop (0 + length (owed_cells os)) k.o in
        let l : owed ≡ owed_cells os ++ rest = q ∙ owed_front ops nums os k.o h.2 in
        (subst (OwesReady ops nums owed) (sym n) (owes_ready ops nums os owed rest l h.0), λ z t w. w.is os rest (sym n) l h.1)

    owing_parts :
        (x : Option Parts) (p : Parts) → r ≡ Ok x → x ≡ Some p
        → OwesReady ops nums owed p.owed × ((z : Tape) (t : Tape) → OwesWrote ops nums owed p.owed z t → Wrote z (joined (owe_lines (owes_of (split_of a k.split.formula first)) 0)) t)
    owing_parts x p e f =
        parts_owes p (split_of a k.split.formula first) (subst (λ (y : Result (Option Parts) Refusal). outcome y k.skeleton owed ≡ held (split_of a k.split.formula first) k.s k.o) (e ∙ ap Ok f) k.is)
        (split_both a k.split.formula k.s k.o (rule_inv ops nums first count k.split.formula k.split.is) k.wide k.room).1

    pub owes_asked : (x : Option Parts) (p : Parts) → r ≡ Ok x → x ≡ Some p → OwesReady ops nums owed p.owed
    owes_asked x p e f = (owing_parts x p e f).0

    pub owes_wrote : (x : Option Parts) (q : Parts) (z t : Tape) → r ≡ Ok x → x ≡ Some q → OwesWrote ops nums owed q.owed z t → OwingWrote ops nums first count a z t
    owes_wrote x q z t e g w = record {
      is = λ f p. as_text z t (ap (λ (g : Formula). joined (owe_lines (owes_of (split_of a g first)) 0)) (same_formula f k.split.formula p k.split.is)) ((owing_parts x q e g).1 z t w);
    }

-- ---- the whole rule
module _ (ops nums nodes label : List ℕ) (kind first count nfirst ncount : ℕ) (c : Result Compiled ℕ) where
  pub split_asked : Readied ops nums nodes label kind first count nfirst ncount c → Split ops nums first count
  split_asked h = record { in_ops = h.is.in_ops; in_nums = h.is.in_nums; formula = h.rule.formula; is = h.is.formula_is }

  pub section_wrote :
      (number : ℕ) (t : Bool) (w x y z : Tape) → Wrote w (rule_line number label kind c) x
      → NodesPut ops nums nodes label kind first count nfirst ncount c x y → t ≡ bool.not (eqb kind 0) → SplitWrote ops nums first count t y z
      → RulePut ops nums nodes label number kind first count nfirst ncount c w z
  unfolding live_text owes_text
  section_wrote number t w x y z a b e d = record {
    is = λ q h.
        let head : Wrote w (rule_line number q.label q.kind c) x = rw (h.label_is, h.kind_is) a in
        let s : split_text (split_of t q.formula first) ≡ live_text q ++ owes_text q = rw (h.kind_is, h.first_is, e) refl in
        then head (then (b.is q h) (as_text y z (sym s) (d.is q.formula h.formula_is)));
  }
