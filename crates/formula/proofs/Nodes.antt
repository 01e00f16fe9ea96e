-- What a token at a place says of the tree that stands there, and what an operation's number says of its token.
use mathlib.Core.Path.{◌≡◌, refl, sym, ap, subst, ◌∙◌}
use Prim.Native.Nat.{ℕ, zero, suc, ◌+◌, ◌-◌, ◌≤◌, ◌<◌}
use native.Mathlib.Omega.{arith}
use mathlib.Core.Logic.{⊎_elim}
use Rattle.formula.proofs.Cases.{below_or}
use lib.ListN.{get_or-eq_default}
use Rattle.formula.specs.Tree.{Tree, leaf, one, two, Token, leaf_of, one_of, two_of, unknown, size}
use Rattle.formula.specs.Spells.{Spells}
use Rattle.formula.specs.Formula.{Atom, Unary, Binary, Node, node, words, signal, var, input, output, not, next, always, eventually, always_for, within, and, or, implies, until}

module _ {L O T : Type 0} where
  pub leaf_one : {a : L} {o : O} {B : Type 0} → ◌≡◌ {A = Token L O T} (leaf_of a) (one_of o) → B
  leaf_one e = let z : ◌≡◌ {A = ℕ} 0 1 = cc in absurd (omega arith)

  pub leaf_two : {a : L} {o : T} {B : Type 0} → ◌≡◌ {A = Token L O T} (leaf_of a) (two_of o) → B
  leaf_two e = let z : ◌≡◌ {A = ℕ} 0 1 = cc in absurd (omega arith)

  pub one_two : {o : O} {p : T} {B : Type 0} → ◌≡◌ {A = Token L O T} (one_of o) (two_of p) → B
  one_two e = let z : ◌≡◌ {A = ℕ} 0 1 = cc in absurd (omega arith)

  pub spells_leaf : (tok : ℕ → Token L O T) (i : ℕ) (a : L) (t : Tree L O T) → tok i ≡ leaf_of a → Spells tok i t → t ≡ leaf a
  unfolding Spells
  spells_leaf tok i a (leaf b) e s = let h : ◌≡◌ {A = Token L O T} (leaf_of b) (leaf_of a) = sym s ∙ e in cc
  spells_leaf tok i a (one o t) e s = leaf_one (sym e ∙ s.0)
  spells_leaf tok i a (two o l r) e s = leaf_two (sym e ∙ s.0)

  pub spells_one : (tok : ℕ → Token L O T) (i : ℕ) (o : O) (t : Tree L O T) → tok i ≡ one_of o → Spells tok i t → (u : Tree L O T) × (t ≡ one o u) × Spells tok (i + 1) u
  unfolding Spells
  spells_one tok i o (leaf b) e s = leaf_one (sym s ∙ e)
  spells_one tok i o (one p t) e s = let h : ◌≡◌ {A = Token L O T} (one_of p) (one_of o) = sym s.0 ∙ e in (t, cc, s.1)
  spells_one tok i o (two p l r) e s = one_two (sym e ∙ s.0)

  pub spells_two : (tok : ℕ → Token L O T) (i : ℕ) (o : T) (t : Tree L O T) → tok i ≡ two_of o → Spells tok i t
      → (l : Tree L O T) × (r : Tree L O T) × (t ≡ two o l r) × Spells tok (i + 1) l × Spells tok (i + 1 + size l) r
  unfolding Spells
  spells_two tok i o (leaf b) e s = leaf_two (sym s ∙ e)
  spells_two tok i o (one p t) e s = one_two (sym s.0 ∙ e)
  spells_two tok i o (two p l r) e s = let h : ◌≡◌ {A = Token L O T} (two_of p) (two_of o) = sym s.0 ∙ e in (l, r, cc, s.1, s.2)

  pub spells_unknown : (tok : ℕ → Token L O T) (i : ℕ) (t : Tree L O T) → tok i ≡ unknown → Spells tok i t → ⊥
  unfolding Spells
  spells_unknown tok i (leaf b) e s = let h : ◌≡◌ {A = Token L O T} (leaf_of b) unknown = sym s ∙ e in let z : ◌≡◌ {A = ℕ} 0 1 = cc in omega arith
  spells_unknown tok i (one p t) e s = let h : ◌≡◌ {A = Token L O T} (one_of p) unknown = sym s.0 ∙ e in let z : ◌≡◌ {A = ℕ} 0 1 = cc in omega arith
  spells_unknown tok i (two p l r) e s = let h : ◌≡◌ {A = Token L O T} (two_of p) unknown = sym s.0 ∙ e in let z : ◌≡◌ {A = ℕ} 0 1 = cc in omega arith

  -- every place of a tree holds a known token
  pub known_at : (tok : ℕ → Token L O T) (i : ℕ) (t : Tree L O T) (k : ℕ) → Spells tok i t → k < size t → tok (i + k) ≡ unknown → ⊥
  unfolding Spells size
  known_at tok i (leaf a) zero s h e = spells_unknown tok i (leaf a) (subst (λ (n : ℕ). tok n ≡ unknown) (omega arith) e) s
  known_at tok i (leaf a) (suc k) s h e = omega arith
  known_at tok i (one o t) zero s h e = spells_unknown tok i (one o t) (subst (λ (n : ℕ). tok n ≡ unknown) (omega arith) e) s
  known_at tok i (one o t) (suc k) s h e = known_at tok (i + 1) t k s.1 (omega arith) (subst (λ (n : ℕ). tok n ≡ unknown) (omega arith) e)
  known_at tok i (two o l r) zero s h e = spells_unknown tok i (two o l r) (subst (λ (n : ℕ). tok n ≡ unknown) (omega arith) e) s
  known_at tok i (two o l r) (suc k) s h e = ⊎_elim
      (λ q. known_at tok (i + 1) l k s.1 q (subst (λ (n : ℕ). tok n ≡ unknown) (omega arith) e))
      (λ q. known_at tok (i + 1 + size l) r (k - size l) s.2 (omega arith) (subst (λ (n : ℕ). tok n ≡ unknown) (omega arith) e))
      (below_or k (size l))

-- ---- an operation's number
pub node_leaf : (op n : ℕ) → op < 3 → (a : Atom) × (node op n ≡ leaf_of a) × (signal a ≡ n)
unfolding node
node_leaf zero n h = (var n, refl, refl)
node_leaf (suc zero) n h = (input n, refl, refl)
node_leaf (suc (suc zero)) n h = (output n, refl, refl)
node_leaf (suc (suc (suc k))) n h = absurd (omega arith)

pub node_one : (op n : ℕ) → 3 ≤ op → op < 9 → (o : Unary) × (node op n ≡ one_of o)
unfolding node
node_one zero n g h = absurd (omega arith)
node_one (suc zero) n g h = absurd (omega arith)
node_one (suc (suc zero)) n g h = absurd (omega arith)
node_one (suc (suc (suc zero))) n g h = (not, refl)
node_one (suc (suc (suc (suc zero)))) n g h = (next, refl)
node_one (suc (suc (suc (suc (suc zero))))) n g h = (always, refl)
node_one (suc (suc (suc (suc (suc (suc zero)))))) n g h = (eventually, refl)
node_one (suc (suc (suc (suc (suc (suc (suc zero))))))) n g h = (always_for n, refl)
node_one (suc (suc (suc (suc (suc (suc (suc (suc zero)))))))) n g h = (within n, refl)
node_one (suc (suc (suc (suc (suc (suc (suc (suc (suc k))))))))) n g h = absurd (omega arith)

-- past the first nine
from_nine : (k n : ℕ) → k < 4 → (o : Binary) × (node (9 + k) n ≡ two_of o)
unfolding node
from_nine zero n h = (and, refl)
from_nine (suc zero) n h = (or, refl)
from_nine (suc (suc zero)) n h = (implies, refl)
from_nine (suc (suc (suc zero))) n h = (until, refl)
from_nine (suc (suc (suc (suc k)))) n h = absurd (omega arith)

pub node_two : (op n : ℕ) → 9 ≤ op → op < 13 → (o : Binary) × (node op n ≡ two_of o)
node_two op n g h =
    subst (λ (k : ℕ). (o : Binary) × (node k n ≡ two_of o)) (omega arith) (from_nine (op - 9) n (omega arith))

pub node_unknown : (op n : ℕ) → 13 ≤ op → node op n ≡ unknown
unfolding node
node_unknown op n g = get_or-eq_default (words n) unknown g

-- the number of a token's word
abbrev pub number_of : Node → ℕ
number_of (leaf_of (var n)) = 0
number_of (leaf_of (input n)) = 1
number_of (leaf_of (output n)) = 2
number_of (one_of not) = 3
number_of (one_of next) = 4
number_of (one_of always) = 5
number_of (one_of eventually) = 6
number_of (one_of (always_for n)) = 7
number_of (one_of (within n)) = 8
number_of (two_of and) = 9
number_of (two_of or) = 10
number_of (two_of implies) = 11
number_of (two_of until) = 12
number_of unknown = 13

pub number_of_lem : (op n : ℕ) → op < 13 → number_of (node op n) ≡ op
unfolding node
number_of_lem zero n h = refl
number_of_lem (suc zero) n h = refl
number_of_lem (suc (suc zero)) n h = refl
number_of_lem (suc (suc (suc zero))) n h = refl
number_of_lem (suc (suc (suc (suc zero)))) n h = refl
number_of_lem (suc (suc (suc (suc (suc zero))))) n h = refl
number_of_lem (suc (suc (suc (suc (suc (suc zero)))))) n h = refl
number_of_lem (suc (suc (suc (suc (suc (suc (suc zero))))))) n h = refl
number_of_lem (suc (suc (suc (suc (suc (suc (suc (suc zero)))))))) n h = refl
number_of_lem (suc (suc (suc (suc (suc (suc (suc (suc (suc zero))))))))) n h = refl
number_of_lem (suc (suc (suc (suc (suc (suc (suc (suc (suc (suc zero)))))))))) n h = refl
number_of_lem (suc (suc (suc (suc (suc (suc (suc (suc (suc (suc (suc zero))))))))))) n h = refl
number_of_lem (suc (suc (suc (suc (suc (suc (suc (suc (suc (suc (suc (suc zero)))))))))))) n h = refl
number_of_lem (suc (suc (suc (suc (suc (suc (suc (suc (suc (suc (suc (suc (suc k))))))))))))) n h = absurd (omega arith)

-- what is no unknown token stands for its own number
known_number : (op n : ℕ) (t : Node) → (t ≡ unknown → ⊥) → node op n ≡ t → op ≡ number_of t
known_number op n t k e = ⊎_elim
    (λ h. sym (number_of_lem op n h) ∙ ap number_of e)
    (λ h. absurd (k (sym e ∙ node_unknown op n h)))
    (below_or op 13)

pub atom_number : (op n : ℕ) (a : Atom) → node op n ≡ leaf_of a → op ≡ number_of (leaf_of a)
atom_number op n a e = known_number op n (leaf_of a) (λ z. let y : ◌≡◌ {A = ℕ} 0 1 = cc in omega arith) e

pub unary_number : (op n : ℕ) (o : Unary) → node op n ≡ one_of o → op ≡ number_of (one_of o)
unary_number op n o e = known_number op n (one_of o) (λ z. let y : ◌≡◌ {A = ℕ} 0 1 = cc in omega arith) e

pub binary_number : (op n : ℕ) (o : Binary) → node op n ≡ two_of o → op ≡ number_of (two_of o)
binary_number op n o e = known_number op n (two_of o) (λ z. let y : ◌≡◌ {A = ℕ} 0 1 = cc in omega arith) e
