-- The parts of a formula stand at its places.
use mathlib.Core.Path.{◌≡◌, refl, sym, ap, subst, ◌∙◌}
use mathlib.Core.Bool.{Bool}
use mathlib.Core.Logic.{⊎_elim}
use mathlib.Core.Option.{none, some}
use Prim.Native.Nat.{ℕ, zero, suc, ◌+◌, ◌-◌, ◌≤◌, ◌<◌}
use native.Mathlib.Omega.{arith}
use native.Mathlib.Nat.{add-zero}
use borrow.Author.Tests.{lt-ltb, le-ltb}
use Rattle.terms.specs.Choice.{pick}
use Rattle.formula.specs.Tree.{leaf, one, two, size}
use Rattle.formula.specs.Spells.{Spells}
use Rattle.formula.specs.Formula.{Formula, Node}
use Rattle.formula.proofs.Cases.{below_or}
use Rattle.formula.proofs.Trees.{size_pos}
use Rattle.monitor.specs.Table.{sub_at}

-- the part at place k of a formula that stands at i
pub record FormulaPart (tok : ℕ → Node) (i : ℕ) (f : Formula) (k : ℕ) : Type 0 where
  pub part : Formula
  pub is : sub_at f k ≡ some part
  pub spells : Spells tok (i + k) part
  pub inside : k + size part ≤ size f

whole : (tok : ℕ → Node) (i : ℕ) (f : Formula) → Spells tok i f → sub_at f 0 ≡ some f → FormulaPart tok i f 0
whole tok i f s e = record { part = f; is = e; spells = subst (λ (n : ℕ). Spells tok n f) (sym (add-zero i)) s; inside = omega arith }

pub part_at : (tok : ℕ → Node) (i : ℕ) (f : Formula) (k : ℕ) → Spells tok i f → k < size f → FormulaPart tok i f k
unfolding sub_at Spells size
part_at tok i (leaf a) zero s h = whole tok i (leaf a) s refl
part_at tok i (leaf a) (suc k) s h = absurd (omega arith)
part_at tok i (one o f) zero s h = whole tok i (one o f) s refl
part_at tok i (one o f) (suc k) s h =
    let p = part_at tok (i + 1) f k s.1 (omega arith) in
    record { part = p.part; is = p.is; spells = subst (λ (n : ℕ). Spells tok n p.part) (omega arith) p.spells; inside = omega (arith, p.inside) }
part_at tok i (two o l r) zero s h = whole tok i (two o l r) s refl
part_at tok i (two o l r) (suc k) s h = ⊎_elim
    (λ q.
    let p = part_at tok (i + 1) l k s.1 q in
    record {
      part = p.part;
      is = ap (λ (b : Bool). pick b (sub_at l k) (sub_at r (k - size l))) (lt-ltb k (size l) q) ∙ p.is;
      spells = subst (λ (n : ℕ). Spells tok n p.part) (omega arith) p.spells;
      inside = omega (arith, p.inside);
    })
    (λ q.
    let p = part_at tok (i + 1 + size l) r (k - size l) s.2 (omega arith) in
    record {
      part = p.part;
      is = ap (λ (b : Bool). pick b (sub_at l k) (sub_at r (k - size l))) (le-ltb k (size l) q) ∙ p.is;
      spells = subst (λ (n : ℕ). Spells tok n p.part) (omega arith) p.spells;
      inside = omega (arith, p.inside);
    })
    (below_or k (size l))

pub no_part : (f : Formula) (k : ℕ) → size f ≤ k → sub_at f k ≡ none
unfolding sub_at size
no_part (leaf a) zero h = absurd (omega arith)
no_part (leaf a) (suc k) h = refl
no_part (one o f) zero h = absurd (omega (arith, size_pos f))
no_part (one o f) (suc k) h = no_part f k (omega arith)
no_part (two o l r) zero h = absurd (omega arith)
no_part (two o l r) (suc k) h =
    ap (λ (b : Bool). pick b (sub_at l k) (sub_at r (k - size l))) (le-ltb k (size l) (omega arith)) ∙ no_part r (k - size l) (omega arith)
