-- What an operation's number says of the formula that stands there.
use mathlib.Core.Path.{◌≡◌, refl, ap, ◌∙◌}
use mathlib.Core.List.{List}
use Prim.Native.Nat.{ℕ, ◌+◌}
use lib.ListN.{get_or}
use Rattle.formula.specs.Tree.{one, two, one_of, two_of, size}
use Rattle.formula.specs.Spells.{Spells}
use Rattle.formula.specs.Formula.{Unary, Binary, Formula, node, not, next, always, eventually, always_for, within, and, or, implies, until}
use Rattle.formula.specs.Table.{node_at}
use Rattle.formula.proofs.Nodes.{spells_one, spells_two}

module _ (ops nums : List ℕ) (i : ℕ) (f : Formula) (s : Spells (node_at ops nums) i f) where
  word_one : (k : ℕ) (o : Unary) → get_or ops i 0 ≡ k → node k (get_or nums i 0) ≡ one_of o → (g : Formula) × (f ≡ one o g) × Spells (node_at ops nums) (i + 1) g
  unfolding node_at
  word_one k o h e = spells_one (node_at ops nums) i o f (ap (λ (m : ℕ). node m (get_or nums i 0)) h ∙ e) s

  word_two : (k : ℕ) (o : Binary) → get_or ops i 0 ≡ k → node k (get_or nums i 0) ≡ two_of o
      → (l : Formula) × (r : Formula) × (f ≡ two o l r) × Spells (node_at ops nums) (i + 1) l × Spells (node_at ops nums) (i + 1 + size l) r
  unfolding node_at
  word_two k o h e = spells_two (node_at ops nums) i o f (ap (λ (m : ℕ). node m (get_or nums i 0)) h ∙ e) s

  pub is_not : get_or ops i 0 ≡ 3 → (g : Formula) × (f ≡ one not g) × Spells (node_at ops nums) (i + 1) g
  unfolding node
  is_not h = word_one 3 not h refl

  pub is_next : get_or ops i 0 ≡ 4 → (g : Formula) × (f ≡ one next g) × Spells (node_at ops nums) (i + 1) g
  unfolding node
  is_next h = word_one 4 next h refl

  pub is_always : get_or ops i 0 ≡ 5 → (g : Formula) × (f ≡ one always g) × Spells (node_at ops nums) (i + 1) g
  unfolding node
  is_always h = word_one 5 always h refl

  pub is_eventually : get_or ops i 0 ≡ 6 → (g : Formula) × (f ≡ one eventually g) × Spells (node_at ops nums) (i + 1) g
  unfolding node
  is_eventually h = word_one 6 eventually h refl

  pub is_always_for : get_or ops i 0 ≡ 7 → (g : Formula) × (f ≡ one (always_for (get_or nums i 0)) g) × Spells (node_at ops nums) (i + 1) g
  unfolding node
  is_always_for h = word_one 7 (always_for (get_or nums i 0)) h refl

  pub is_within : get_or ops i 0 ≡ 8 → (g : Formula) × (f ≡ one (within (get_or nums i 0)) g) × Spells (node_at ops nums) (i + 1) g
  unfolding node
  is_within h = word_one 8 (within (get_or nums i 0)) h refl

  pub is_and : get_or ops i 0 ≡ 9 → (l : Formula) × (r : Formula) × (f ≡ two and l r) × Spells (node_at ops nums) (i + 1) l × Spells (node_at ops nums) (i + 1 + size l) r
  unfolding node
  is_and h = word_two 9 and h refl

  pub is_or : get_or ops i 0 ≡ 10 → (l : Formula) × (r : Formula) × (f ≡ two or l r) × Spells (node_at ops nums) (i + 1) l × Spells (node_at ops nums) (i + 1 + size l) r
  unfolding node
  is_or h = word_two 10 or h refl

  pub is_implies : get_or ops i 0 ≡ 11 → (l : Formula) × (r : Formula) × (f ≡ two implies l r) × Spells (node_at ops nums) (i + 1) l × Spells (node_at ops nums) (i + 1 + size l) r
  unfolding node
  is_implies h = word_two 11 implies h refl

  pub is_until : get_or ops i 0 ≡ 12 → (l : Formula) × (r : Formula) × (f ≡ two until l r) × Spells (node_at ops nums) (i + 1) l × Spells (node_at ops nums) (i + 1 + size l) r
  unfolding node
  is_until h = word_two 12 until h refl
