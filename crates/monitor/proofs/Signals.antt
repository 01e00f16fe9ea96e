-- The signal that a row names: the constant true, or a pure part of the rule's formula, which stands in the formula table.
use mathlib.Core.Path.{◌≡◌, refl, sym, ap, subst, ◌∙◌}
use mathlib.Core.Bool.{Bool, true}
use mathlib.Core.List.{List}
use mathlib.Core.Logic.{⊎_elim}
use mathlib.Core.Option.{Option, none, some}
use Prim.Native.Nat.{ℕ, zero, suc, ◌+◌, ◌-◌, ◌≤◌}
use native.Mathlib.Omega.{arith}
use lib.Dec.{leb}
use lib.ListN.{length}
use borrow.Author.Tests.{leb-true, lt-ltb, le-ltb}
use Rattle.terms.specs.Choice.{pick}
use Rattle.formula.specs.Tree.{leaf, one, two, size, all}
use Rattle.formula.specs.Spells.{Spells}
use Rattle.formula.specs.Formula.{Formula, Atom}
use Rattle.formula.specs.Table.{node_at, in_word, Rule}
use Rattle.formula.specs.Pure.{pure}
use Rattle.formula.proofs.Cases.{below_or}
use Rattle.formula.proofs.Trees.{some_inj, none_some}
use Rattle.formula.proofs.Rules.{keep_inv}
use Rattle.formula.proofs.Walks.{both_true}
use Rattle.monitor.specs.declared.node.SignalExpr.TheVariants.{At}
use Rattle.monitor.specs.Mon.{Signal, at}
use Rattle.monitor.specs.Table.{sub_at, pure_signal, signal_of}
use Rattle.monitor.proofs.Parts.{part_at, no_part}

-- what all atoms pass, those of a part pass
part_ok : (ok : Atom → Bool) (f : Formula) (k : ℕ) (g : Formula) → sub_at f k ≡ some g → all ok f ≡ true → all ok g ≡ true
unfolding sub_at all
part_ok ok (leaf a) zero g e h = subst (λ (x : Formula). all ok x ≡ true) (some_inj e) h
part_ok ok (leaf a) (suc k) g e h = none_some e
part_ok ok (one o f) zero g e h = subst (λ (x : Formula). all ok x ≡ true) (some_inj e) h
part_ok ok (one o f) (suc k) g e h = part_ok ok f k g e h
part_ok ok (two o l r) zero g e h = subst (λ (x : Formula). all ok x ≡ true) (some_inj e) h
part_ok ok (two o l r) (suc k) g e h = ⊎_elim
    (λ q. part_ok ok l k g (sym (ap (λ (b : Bool). pick b (sub_at l k) (sub_at r (k - size l))) (lt-ltb k (size l) q)) ∙ e) (both_true (all ok l) (all ok r) h).0)
    (λ q. part_ok ok r (k - size l) g (sym (ap (λ (b : Bool). pick b (sub_at l k) (sub_at r (k - size l))) (le-ltb k (size l) q)) ∙ e) (both_true (all ok l) (all ok r) h).1)
    (below_or k (size l))

-- a pure formula within a word's signals stands at p
pub record PureAt (ops nums : List ℕ) (p : ℕ) (g : Formula) : Type 0 where
  pub spells : Spells (node_at ops nums) p g
  pub in_ops : p + size g ≤ length ops
  pub in_nums : p + size g ≤ length nums
  pub is_pure : pure g ≡ true
  pub word_fits : all in_word g ≡ true

module _ (ops nums : List ℕ) (first count : ℕ) (f : Formula) (u : Rule ops nums first count f) (p : ℕ) where
  part_stands : (g : Formula) → first ≤ p → sub_at f (p - first) ≡ some g → pure g ≡ true → PureAt ops nums p g
  part_stands g h e q = ⊎_elim
      (λ k.
      let w = part_at (node_at ops nums) first f (p - first) u.spells k in
      let same : w.part ≡ g = some_inj (sym w.is ∙ e) in
      let at_p : Spells (node_at ops nums) p w.part = subst (λ (n : ℕ). Spells (node_at ops nums) n w.part) (omega arith) w.spells in
      let z : size w.part ≡ size g = ap (λ (x : Formula). size x) same in
      record {
        spells = subst (Spells (node_at ops nums) p) same at_p;
        in_ops = omega (arith, u.in_ops, u.covers, w.inside);
        in_nums = omega (arith, u.in_nums, u.covers, w.inside);
        is_pure = q;
        word_fits = part_ok in_word f (p - first) g e u.word_fits;
      })
      (λ k. none_some (sym (no_part f (p - first) k) ∙ e))
      (below_or (p - first) (size f))

  pub signal_inv : (x : Signal) → signal_of f first (At p) ≡ some x → (g : Formula) × (x ≡ at p g) × PureAt ops nums p g
  signal_inv x e =
      let (b, r) = keep_inv (leb first p) (pure_signal p (sub_at f (p - first))) x e in
      go (leb-true first p b) (sub_at f (p - first)) refl r
    where
      go : first ≤ p → (o : Option Formula) → sub_at f (p - first) ≡ o → pure_signal p o ≡ some x → (g : Formula) × (x ≡ at p g) × PureAt ops nums p g
      go h none q r = none_some r
      go h (some g) q r =
          let (c, s) = keep_inv (pure g) (some (at p g)) x r in
          (g, sym (some_inj s), part_stands g h q c)
