-- A formula that stands at a place of a table: the operands stand at the places behind it.
use mathlib.Core.Path.{◌≡◌, sym, ap, subst}
use mathlib.Core.List.{List}
use Prim.Native.Nat.{ℕ, ◌+◌, ◌-◌, ◌≤◌, ◌<◌}
use native.Mathlib.Omega.{arith}
use Rattle.formula.proofs.Cases.{below_or}
use mathlib.Core.Logic.{⊎_elim}
use lib.ListN.{length, get_or}
use Rattle.formula.specs.Tree.{leaf, one, two, one_of, two_of, size}
use Rattle.formula.specs.Spells.{Spells}
use Rattle.formula.specs.Formula.{Atom, Unary, Binary, Formula, signal}
use Rattle.formula.specs.Table.{node_at, Placed}
use Rattle.formula.specs.Signal.{signal_nodes}
use Rattle.formula.proofs.Trees.{size_pos, nodes_at_lem}
use Rattle.formula.proofs.Nodes.{spells_leaf, spells_one, spells_two, spells_unknown, node_leaf, node_one, node_two, node_unknown}

module _ (ops nums : List ℕ) (i : ℕ) where
  -- ---- what stands at i, by the operation's number
  pub leaf_there : (f : Formula) → Spells (node_at ops nums) i f → get_or ops i 0 < 3 → (a : Atom) × (f ≡ leaf a) × (signal a ≡ get_or nums i 0)
  unfolding node_at
  leaf_there f s h =
      let (a, e, n) = node_leaf (get_or ops i 0) (get_or nums i 0) h in
      (a, spells_leaf (node_at ops nums) i a f e s, n)

  pub one_there : (f : Formula) → Spells (node_at ops nums) i f → 3 ≤ get_or ops i 0 → get_or ops i 0 < 9
      → (o : Unary) × (g : Formula) × (node_at ops nums i ≡ one_of o) × (f ≡ one o g) × Spells (node_at ops nums) (i + 1) g
  unfolding node_at
  one_there f s h k =
      let (o, e) = node_one (get_or ops i 0) (get_or nums i 0) h k in
      let (g, p, u) = spells_one (node_at ops nums) i o f e s in
      (o, g, e, p, u)

  pub two_there : (f : Formula) → Spells (node_at ops nums) i f → 9 ≤ get_or ops i 0
      → (o : Binary) × (l : Formula) × (r : Formula) × (node_at ops nums i ≡ two_of o) × (f ≡ two o l r) × Spells (node_at ops nums) (i + 1) l × Spells (node_at ops nums) (i + 1 + size l) r
  unfolding node_at
  two_there f s h = ⊎_elim
      (λ k. let (o, e) = node_two (get_or ops i 0) (get_or nums i 0) h k in
      let (l, r, p, u, w) = spells_two (node_at ops nums) i o f e s in
      (o, l, r, e, p, u, w))
      (λ k. absurd (spells_unknown (node_at ops nums) i f (node_unknown (get_or ops i 0) (get_or nums i 0) k) s))
      (below_or (get_or ops i 0) 13)

  module _ (p : Placed ops nums i) where
    pub in_ops : i < length ops
    in_ops = omega (arith, size_pos p.formula, p.in_ops)

    pub in_nums : i < length nums
    in_nums = omega (arith, size_pos p.formula, p.in_nums)

    pub placed_one : 3 ≤ get_or ops i 0 → get_or ops i 0 < 9 → Placed ops nums (i + 1)
    unfolding size
    placed_one h k =
        let (o, g, e, q, s) = one_there p.formula p.spells h k in
        let z : size p.formula ≡ 1 + size g = ap (λ (x : Formula). size x) q in
        record { formula = g; spells = s; in_ops = omega (arith, p.in_ops); in_nums = omega (arith, p.in_nums) }

    pub placed_left : 9 ≤ get_or ops i 0 → Placed ops nums (i + 1)
    unfolding size
    placed_left h =
        let (o, l, r, e, q, s, u) = two_there p.formula p.spells h in
        let z : size p.formula ≡ 1 + size l + size r = ap (λ (x : Formula). size x) q in
        record { formula = l; spells = s; in_ops = omega (arith, p.in_ops); in_nums = omega (arith, p.in_nums) }

    pub placed_right : (m : ℕ) → 9 ≤ get_or ops i 0 → ((f : Formula) → Spells (node_at ops nums) (i + 1) f → m ≡ i + 1 + size f) → Placed ops nums m
    unfolding size
    placed_right m h k =
        let (o, l, r, e, q, s, u) = two_there p.formula p.spells h in
        let z : size p.formula ≡ 1 + size l + size r = ap (λ (x : Formula). size x) q in
        let n : m ≡ i + 1 + size l = k l s in
        record { formula = r; spells = subst (λ (j : ℕ). Spells (node_at ops nums) j r) (sym n) u; in_ops = omega (arith, p.in_ops); in_nums = omega (arith, p.in_nums) }

    -- the count of the nodes of the formula at i falls to its operands': the measure of the walks over signals
    nodes_there : signal_nodes ops nums i ≡ size p.formula
    nodes_there = nodes_at_lem (node_at ops nums) i (length ops) p.formula p.spells (omega (arith, p.in_ops))

    pub fewer_one : 3 ≤ get_or ops i 0 → get_or ops i 0 < 9 → (t : ℕ) → signal_nodes ops nums i ≡ t → signal_nodes ops nums (i + 1) < t
    unfolding size
    fewer_one h k t q =
        let (o, g, e, z, s) = one_there p.formula p.spells h k in
        let y : size p.formula ≡ 1 + size g = ap (λ (x : Formula). size x) z in
        omega (arith, nodes_there, nodes_at_lem (node_at ops nums) (i + 1) (length ops) g s (omega (arith, p.in_ops)))

    pub fewer_left : 9 ≤ get_or ops i 0 → (t : ℕ) → signal_nodes ops nums i ≡ t → signal_nodes ops nums (i + 1) < t
    unfolding size
    fewer_left h t q =
        let (o, l, r, e, z, s, u) = two_there p.formula p.spells h in
        let y : size p.formula ≡ 1 + size l + size r = ap (λ (x : Formula). size x) z in
        omega (arith, nodes_there, nodes_at_lem (node_at ops nums) (i + 1) (length ops) l s (omega (arith, p.in_ops)))

    pub fewer_right : (m : ℕ) → 9 ≤ get_or ops i 0 → ((f : Formula) → Spells (node_at ops nums) (i + 1) f → m ≡ i + 1 + size f) → (t : ℕ) → signal_nodes ops nums i ≡ t → signal_nodes ops nums m < t
    unfolding size
    fewer_right m h k t q =
        let (o, l, r, e, z, s, u) = two_there p.formula p.spells h in
        let y : size p.formula ≡ 1 + size l + size r = ap (λ (x : Formula). size x) z in
        let v : Spells (node_at ops nums) m r = subst (λ (j : ℕ). Spells (node_at ops nums) j r) (sym (k l s)) u in
        omega (arith, nodes_there, nodes_at_lem (node_at ops nums) m (length ops) r v (omega (arith, p.in_ops)))

    -- fewer places are left behind i, the measure of the other walks
    pub falls_next : (t : ℕ) → length ops - i ≡ t → length ops - (i + 1) < t
    falls_next t h = omega (arith, in_ops)

    pub falls_right : (m t : ℕ) → Placed ops nums (i + 1) → ((f : Formula) → Spells (node_at ops nums) (i + 1) f → m ≡ i + 1 + size f) → length ops - i ≡ t → length ops - m < t
    falls_right m t q k h = omega (arith, in_ops, k q.formula q.spells)
