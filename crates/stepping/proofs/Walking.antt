-- One step of the walk over a monitor's nodes.
use mathlib.Core.Path.{◌≡◌, refl, sym, ap, ap₂, subst, ◌∙◌}
use mathlib.Core.Bool.{Bool, true, false, ◌&&◌, ◌||◌}
use mathlib.Core.Bool as bool
use mathlib.Core.List.{List}
use Prim.Native.Nat.{ℕ, ◌+◌, ◌*◌, ◌≤◌, ◌<◌}
use native.Mathlib.Omega.{arith}
use lib.ListN.{length}
use Rattle.terms.specs.Choice.{pick}
use Rattle.formula.proofs.Cases.{true_false}
use Rattle.monitor.specs.declared.node.MonNode.{MonNode}
use Rattle.monitor.specs.declared.node.MonNode.TheVariants.{And as AndNode, Or as OrNode}
use Rattle.std.specs.Prelude.{None, Option, Some}
use Rattle.monitor.specs.Mon.{Check, range_check, delayed_check, obligation, Mon, check, And, Or, count, node_of}
use Rattle.monitor.specs.Table.{row_of}
use Rattle.meaning.specs.State.{State, CheckShaped, WellShaped, joined_step, step, culprit, least, offered}
use Rattle.node_step.specs.declared.state.MonState.{MonState}
use Rattle.stepping.specs.declared.walk.NodeOut.{NodeOut}
use Rattle.node_step.specs.Memory.{Memory, get, put, Inside}
use Rattle.node_step.specs.Check.{read_check, CheckStepped}
use Rattle.lent.specs.Nodes.{NodesAt}
use Rattle.stepping.specs.Walk.{mon_nodes, Blameless, ShapedAt, read_mon, write_mon, Walkable, NodeStepped, Leaf, join_of, Pair}
use Rattle.node_step.specs.Joined.{joined_entry, parts_of, joined_now, PairReady, Finished}
use Rattle.node_step.proofs.Entries.{inside_less}
use Rattle.stepping.proofs.Subtrees.{subtree}
use Rattle.stepping.proofs.Memories.{inside_write, count_pos, write_before, write_past, SameFrom, read_same, blameless_same, shaped_same, culprit_written}

node_inj : {a b : MonNode} → Some a ≡ Some b → a ≡ b
node_inj e = cc

single_joined : {B : Type 0} {any : Bool} → None ≡ Some any → B
single_joined e = let z : ◌≡◌ {A = ℕ} 0 1 = cc in absurd (omega arith)

joined_inj : {a b : Bool} → Some a ≡ Some b → a ≡ b
joined_inj e = cc

check_single : (c : Check) → parts_of (node_of c) ≡ None
check_single (range_check p r) = refl
check_single (delayed_check p q r) = refl
check_single (obligation b p q r) = refl

shaped_check : (c : Check) (mem : Memory) (k : ℕ) → ShapedAt (check c) mem k → CheckShaped c (read_check c (get mem k))
unfolding WellShaped read_mon
shaped_check c mem k s = s.kept

-- ---- a check
module _ (ops nums nodes : List ℕ) (nfirst : ℕ) (mem : Memory) (node : MonNode) (k s : ℕ) (d : Leaf ops nums nodes nfirst mem node k s) where
  pub leaf_stepped : (now : Bool) (w : ℕ) (mem' : Memory) → CheckStepped ops nums node mem k s w mem' now
      → NodeStepped ops nums nodes nfirst mem k s w mem' (record { now = now; next = k + 1 })
  unfolding NodesAt step read_mon write_mon count
  leaf_stepped now w mem' c = record { is = go }
    where
      go : (m : Mon) → NodesAt ops nums nodes (nfirst + k) m → ShapedAt m mem k → Inside mem (k + count m) → (now ≡ (step m (read_mon m mem k) s w).now) × (k + 1 ≡ k + count m) × (mem' ≡ write_mon m (step m (read_mon m mem k) s w).state mem k)
      go (check x) a b i =
          let n : node_of x ≡ node = node_inj (sym a.0 ∙ d.row) in
          let (u, v) = c.is x n a.1 in
          (v, refl, u)
      go (And m n) a b i = single_joined (sym d.single ∙ ap parts_of (node_inj (sym d.row ∙ a.0)))
      go (Or m n) a b i = single_joined (sym d.single ∙ ap parts_of (node_inj (sym d.row ∙ a.0)))

-- ---- a node
module _ (ops nums nodes : List ℕ) (nfirst : ℕ) (mem : Memory) (k s : ℕ) (d : Walkable ops nums nodes nfirst mem k s) where
  pub walk_row : 7 * (nfirst + k + 1) ≤ length nodes
  walk_row = omega (arith, d.in_nodes, count_pos d.mon)

  -- the size of the subtree, the measure of the walk
  pub walk_falls : (t : ℕ) → 2 * mon_nodes nodes (nfirst + k) + 1 ≡ t → 2 * mon_nodes nodes (nfirst + k) < t
  walk_falls t h = omega arith

  -- the row is known
  row_is : (x : Option MonNode) → x ≡ row_of nodes (nfirst + k) → (n : MonNode) × (x ≡ Some n)
  unfolding NodesAt
  row_is x e = go d.mon d.stands
    where
      go : (m : Mon) → NodesAt ops nums nodes (nfirst + k) m → (n : MonNode) × (x ≡ Some n)
      go (check c) a = (node_of c, e ∙ a.0)
      go (And m n) a = (AndNode, e ∙ a.0)
      go (Or m n) a = (OrNode, e ∙ a.0)

  pub no_row : (x : Option MonNode) (w : ℕ) (mem' : Memory) (r : NodeOut) → x ≡ row_of nodes (nfirst + k) → x ≡ None → NodeStepped ops nums nodes nfirst mem k s w mem' r
  no_row x w mem' r e q =
      let (n, p) = row_is x e in
      let z : ◌≡◌ {A = Option MonNode} (Some n) None = sym p ∙ q in
      let z' : ◌≡◌ {A = ℕ} 0 1 = cc in absurd (omega arith)

  module _ (x : Option MonNode) (node : MonNode) (p : Option Bool) (e : x ≡ row_of nodes (nfirst + k)) (q : x ≡ Some node) (u : p ≡ parts_of node) where
    pub leaf_ready : p ≡ None → Leaf ops nums nodes nfirst mem node k s
    unfolding NodesAt count
    leaf_ready v = go d.mon d.stands d.shaped d.inside
      where
        go : (m : Mon) → NodesAt ops nums nodes (nfirst + k) m → ShapedAt m mem k → Inside mem (k + count m) → Leaf ops nums nodes nfirst mem node k s
        go (check c) a b i =
            record {
              row = sym e ∙ q;
              inside = i;
              single = sym u ∙ v;
              steps = record { check = c; is = node_inj (sym a.0 ∙ sym e ∙ q); stands = a.1; shaped = shaped_check c mem k b; below = d.below };
            }
        go (And m n) a b i = single_joined (sym v ∙ u ∙ ap parts_of (node_inj (sym q ∙ e ∙ a.0)))
        go (Or m n) a b i = single_joined (sym v ∙ u ∙ ap parts_of (node_inj (sym q ∙ e ∙ a.0)))

    pub pair_ready : (any : Bool) → p ≡ Some any → Pair ops nums nodes nfirst mem any k s
    unfolding NodesAt
    pair_ready any v = go d.mon d.stands d.in_nodes d.inside d.shaped
      where
        go : (m : Mon) → NodesAt ops nums nodes (nfirst + k) m → 7 * (nfirst + k + count m) ≤ length nodes → Inside mem (k + count m) → ShapedAt m mem k → Pair ops nums nodes nfirst mem any k s
        go (check c) a n i b = single_joined (sym (check_single c) ∙ sym (ap parts_of (node_inj (sym q ∙ e ∙ a.0))) ∙ sym u ∙ v)
        go (And l r) a n i b =
            subst (λ (x : Bool). Pair ops nums nodes nfirst mem x k s) (joined_inj (sym (ap parts_of (node_inj (sym q ∙ e ∙ a.0))) ∙ sym u ∙ v))
            (record { left = l; right = r; stands = a; in_nodes = n; inside = i; shaped = b; below = d.below })
        go (Or l r) a n i b =
            subst (λ (x : Bool). Pair ops nums nodes nfirst mem x k s) (joined_inj (sym (ap parts_of (node_inj (sym q ∙ e ∙ a.0))) ∙ sym u ∙ v))
            (record { left = l; right = r; stands = a; in_nodes = n; inside = i; shaped = b; below = d.below })

-- ---- a pair: both kinds of joined node have the same parts
record Split (ops nums nodes : List ℕ) (i : ℕ) (mem : Memory) (k : ℕ) (m n : Mon) : Type 0 where
  left_nodes : NodesAt ops nums nodes (i + 1) m
  right_nodes : NodesAt ops nums nodes (i + 1 + count m) n
  left_shaped : ShapedAt m mem (k + 1)
  right_shaped : ShapedAt n mem (k + 1 + count m)

split_join : (any : Bool) (ops nums nodes : List ℕ) (i : ℕ) (mem : Memory) (k : ℕ) (m n : Mon) → NodesAt ops nums nodes i (join_of any m n) → ShapedAt (join_of any m n) mem k → Split ops nums nodes i mem k m n
unfolding NodesAt Blameless WellShaped read_mon
split_join true ops nums nodes i mem k m n a b = record {
  left_nodes = a.1;
  right_nodes = a.2;
  left_shaped = record { blameless = b.blameless.0; kept = b.kept.0 };
  right_shaped = record { blameless = b.blameless.1; kept = b.kept.1 };
}
split_join false ops nums nodes i mem k m n a b = record {
  left_nodes = a.1;
  right_nodes = a.2;
  left_shaped = record { blameless = b.blameless.0; kept = b.kept.0 };
  right_shaped = record { blameless = b.blameless.1; kept = b.kept.1 };
}

abbrev row_node : Bool → MonNode
row_node true = AndNode
row_node false = OrNode

join_row : (any : Bool) (ops nums nodes : List ℕ) (i : ℕ) (m n : Mon) → NodesAt ops nums nodes i (join_of any m n) → row_of nodes i ≡ Some (row_node any)
unfolding NodesAt
join_row true ops nums nodes i m n a = a.0
join_row false ops nums nodes i m n a = a.0

count_join : (any : Bool) (m n : Mon) → count (join_of any m n) ≡ 1 + count m + count n
unfolding count
count_join true m n = refl
count_join false m n = refl

-- the step of a joined node, in its memory
join_step : (any : Bool) (m n : Mon) (mem : Memory) (k s w : ℕ) →
    let a = step m (read_mon m mem (k + 1)) s w in
    let b = step n (read_mon n mem (k + 1 + count m)) s w in
    let both = write_mon n b.state (write_mon m a.state mem (k + 1)) (k + 1 + count m) in
    ((step (join_of any m n) (read_mon (join_of any m n) mem k) s w).now ≡ joined_now any a.now b.now)
    × (write_mon (join_of any m n) (step (join_of any m n) (read_mon (join_of any m n) mem k) s w).state mem k ≡ put both k (joined_entry ((get mem k).failed || joined_now any a.now b.now) (pick (bool.not (get mem k).failed && joined_now any a.now b.now) (least (offered a.now (culprit m a.state)) (offered b.now (culprit n b.state))) (get mem k).culprit) (get both k)))
unfolding step read_mon write_mon joined_step
join_step true m n mem k s w = (refl, refl)
join_step false m n mem k s w = (refl, refl)

module _ (ops nums nodes : List ℕ) (nfirst : ℕ) (mem : Memory) (any : Bool) (k s : ℕ) (d : Pair ops nums nodes nfirst mem any k s) where
  parts : Split ops nums nodes (nfirst + k) mem k d.left d.right
  parts = split_join any ops nums nodes (nfirst + k) mem k d.left d.right d.stands d.shaped

  pub left_walk : Walkable ops nums nodes nfirst mem (k + 1) s
  left_walk = record {
    mon = d.left;
    stands = subst (λ (i : ℕ). NodesAt ops nums nodes i d.left) (omega arith) parts.left_nodes;
    in_nodes = omega (arith, d.in_nodes, count_join any d.left d.right);
    inside = inside_less mem (k + 1 + count d.left) (k + count (join_of any d.left d.right)) (omega (arith, count_join any d.left d.right)) d.inside;
    shaped = parts.left_shaped;
    below = d.below;
  }

  pair_size : mon_nodes nodes (nfirst + k) ≡ 1 + count d.left + count d.right
  pair_size =
      subtree ops nums nodes (nfirst + k) (join_of any d.left d.right) d.stands (omega (arith, d.in_nodes))
      ∙ count_join any d.left d.right

  pub left_falls : (t : ℕ) → 2 * mon_nodes nodes (nfirst + k) ≡ t → 2 * mon_nodes nodes (nfirst + (k + 1)) + 1 < t
  unfolding left_walk
  left_falls t h =
      let e = left_walk in
      omega (arith, pair_size, subtree ops nums nodes (nfirst + (k + 1)) d.left e.stands (omega (arith, e.in_nodes)), count_pos d.right)

  module _ (w : ℕ) (mem₁ : Memory) (l : NodeOut) (c : NodeStepped ops nums nodes nfirst mem (k + 1) s w mem₁ l) where
    -- the left part, stepped
    left_is : (m : Mon) → NodesAt ops nums nodes (nfirst + k + 1) m → ShapedAt m mem (k + 1) → Inside mem (k + 1 + count m) → (l.now ≡ (step m (read_mon m mem (k + 1)) s w).now) × (l.next ≡ k + 1 + count m) × (mem₁ ≡ write_mon m (step m (read_mon m mem (k + 1)) s w).state mem (k + 1))
    left_is m a b i = c.is m (subst (λ (j : ℕ). NodesAt ops nums nodes j m) (omega arith) a) b i

    left_own : (l.now ≡ (step d.left (read_mon d.left mem (k + 1)) s w).now) × (l.next ≡ k + 1 + count d.left) × (mem₁ ≡ write_mon d.left (step d.left (read_mon d.left mem (k + 1)) s w).state mem (k + 1))
    left_own = left_is d.left parts.left_nodes parts.left_shaped (inside_less mem (k + 1 + count d.left) (k + count (join_of any d.left d.right)) (omega (arith, count_join any d.left d.right)) d.inside)

    behind_same : (m : Mon) (i n : ℕ) → mem₁ ≡ write_mon m (step m (read_mon m mem (k + 1)) s w).state mem (k + 1) → k + 1 + count m ≤ i → SameFrom mem mem₁ i n
    behind_same m i n e h j p q = sym (ap (λ (x : Memory). get x j) e ∙ write_past m (step m (read_mon m mem (k + 1)) s w).state mem (k + 1) j (omega arith))

    inside₁ : (n : ℕ) → Inside mem n → Inside mem₁ n
    inside₁ n i = subst (λ (x : Memory). Inside x n) (sym left_own.2) (inside_write d.left (step d.left (read_mon d.left mem (k + 1)) s w).state mem (k + 1) n i)

    pub right_walk : Walkable ops nums nodes nfirst mem₁ l.next s
    right_walk =
        let e : l.next ≡ k + 1 + count d.left = left_own.1 in
        record {
          mon = d.right;
          stands = subst (λ (i : ℕ). NodesAt ops nums nodes i d.right) (omega arith) parts.right_nodes;
          in_nodes = omega (arith, d.in_nodes, count_join any d.left d.right);
          inside = inside₁ (l.next + count d.right) (inside_less mem (l.next + count d.right) (k + count (join_of any d.left d.right)) (omega (arith, count_join any d.left d.right)) d.inside);
          shaped = subst (ShapedAt d.right mem₁) (sym e) (shaped_same d.right mem mem₁ (k + 1 + count d.left) (behind_same d.left (k + 1 + count d.left) (count d.right) left_own.2 (omega arith)) parts.right_shaped);
          below = d.below;
        }

    pub right_falls : (t : ℕ) → 2 * mon_nodes nodes (nfirst + k) ≡ t → 2 * mon_nodes nodes (nfirst + l.next) + 1 < t
    unfolding right_walk
    right_falls t h =
        let e = right_walk in
        omega (arith, pair_size, subtree ops nums nodes (nfirst + l.next) d.right e.stands (omega (arith, e.in_nodes)), count_pos d.left)

    module _ (mem₂ : Memory) (r : NodeOut) (c' : NodeStepped ops nums nodes nfirst mem₁ l.next s w mem₂ r) where
      pub finish_ready : PairReady mem₂ k l.next
      finish_ready =
          let e = right_walk in
          let (u, v, z) = c'.is e.mon e.stands e.shaped e.inside in
          record {
            first = omega (arith, left_own.1);
            inside = subst (λ (x : Memory). Inside x (l.next + 1)) (sym z) (inside_write e.mon (step e.mon (read_mon e.mon mem₁ l.next) s w).state mem₁ l.next (l.next + 1) (inside_less mem₁ (l.next + 1) (l.next + count e.mon) (omega (arith, count_pos e.mon)) e.inside));
          }

      module _ (b : Bool) (q : b ≡ joined_now any l.now r.now) (mem₃ : Memory) (f : Finished mem₂ k l.next b l.now r.now mem₃) where
        -- for any reading of the node as a joined one of the same kind
        joined_is : (m n : Mon) → NodesAt ops nums nodes (nfirst + k) (join_of any m n) → ShapedAt (join_of any m n) mem k → Inside mem (k + count (join_of any m n)) → (b ≡ (step (join_of any m n) (read_mon (join_of any m n) mem k) s w).now) × (r.next ≡ k + count (join_of any m n)) × (mem₃ ≡ write_mon (join_of any m n) (step (join_of any m n) (read_mon (join_of any m n) mem k) s w).state mem k)
        joined_is m n a h i =
            let p = split_join any ops nums nodes (nfirst + k) mem k m n a h in
            let z : count (join_of any m n) ≡ 1 + count m + count n = count_join any m n in
            let (x, y, u) = left_is m p.left_nodes p.left_shaped (inside_less mem (k + 1 + count m) (k + count (join_of any m n)) (omega arith) i) in
            let A = step m (read_mon m mem (k + 1)) s w in
            let same = behind_same m (k + 1 + count m) (count n) u (omega arith) in
            let read₁ : read_mon n mem (k + 1 + count m) ≡ read_mon n mem₁ (k + 1 + count m) = read_same n mem mem₁ (k + 1 + count m) same in
            let i₁ : Inside mem₁ (k + 1 + count m + count n) = subst (λ (v : Memory). Inside v (k + 1 + count m + count n)) (sym u) (inside_write m A.state mem (k + 1) (k + 1 + count m + count n) (inside_less mem (k + 1 + count m + count n) (k + count (join_of any m n)) (omega arith) i)) in
            let (x', y', u') = c'.is n (subst (λ (j : ℕ). NodesAt ops nums nodes j n) (omega arith) p.right_nodes) (subst (ShapedAt n mem₁) (sym y) (shaped_same n mem mem₁ (k + 1 + count m) same p.right_shaped)) (subst (λ (j : ℕ). Inside mem₁ (j + count n)) (sym y) i₁) in
            let B = step n (read_mon n mem (k + 1 + count m)) s w in
            let now₂ : r.now ≡ B.now = x' ∙ ap (λ (j : ℕ). (step n (read_mon n mem₁ j) s w).now) y ∙ ap (λ (v : State n). (step n v s w).now) (sym read₁) in
            let both = write_mon n B.state (write_mon m A.state mem (k + 1)) (k + 1 + count m) in
            let mem₂-is : mem₂ ≡ both =
            u' ∙ ap (λ (j : ℕ). write_mon n (step n (read_mon n mem₁ j) s w).state mem₁ j) y
            ∙ ap (λ (v : State n). write_mon n (step n v s w).state mem₁ (k + 1 + count m)) (sym read₁)
            ∙ ap (λ (v : Memory). write_mon n B.state v (k + 1 + count m)) u in
            let W₁ = write_mon m A.state mem (k + 1) in
            let whole : (j : ℕ) → get mem₂ j ≡ get both j = λ j. ap (λ (v : Memory). get v j) mem₂-is in
            let i₀ : Inside mem (k + 1 + count m + count n) = inside_less mem (k + 1 + count m + count n) (k + count (join_of any m n)) (omega arith) i in
            let g : get mem₂ k ≡ get mem k = whole k ∙ write_before n B.state W₁ (k + 1 + count m) k (omega arith) ∙ write_before m A.state mem (k + 1) k (omega arith) in
            let c₁ : (get mem₂ (k + 1)).culprit ≡ culprit m A.state =
            ap (λ (v : MonState). v.culprit) (whole (k + 1) ∙ write_before n B.state W₁ (k + 1 + count m) (k + 1) (omega (arith, count_pos m)))
            ∙ culprit_written m A.state mem (k + 1) (inside_less mem (k + 1 + count m) (k + 1 + count m + count n) (omega arith) i₀) p.left_shaped.blameless in
            let c₂ : (get mem₂ l.next).culprit ≡ culprit n B.state =
            ap (λ (v : ℕ). (get mem₂ v).culprit) y ∙ ap (λ (v : MonState). v.culprit) (whole (k + 1 + count m))
            ∙ culprit_written n B.state W₁ (k + 1 + count m) (inside_write m A.state mem (k + 1) (k + 1 + count m + count n) i₀)
            (blameless_same n mem W₁ (k + 1 + count m) (λ j v v'. sym (write_past m A.state mem (k + 1) j v)) p.right_shaped.blameless) in
            let eb : b ≡ joined_now any A.now B.now = q ∙ ap₂ (joined_now any) x now₂ in (
              eb ∙ sym (join_step any m n mem k s w).0,
              omega arith,
              f.is ∙ (λ j. put (mem₂-is j) k (record {
                held = (get (mem₂-is j) k).held;
                remaining = (get (mem₂-is j) k).remaining;
                failed = (g j).failed || eb j;
                culprit = pick (bool.not (g j).failed && eb j) (least (offered (x j) (c₁ j)) (offered (now₂ j) (c₂ j))) (g j).culprit;
              }))
                  ∙ sym (join_step any m n mem k s w).1,
            )

        pub pair_stepped : NodeStepped ops nums nodes nfirst mem k s w mem₃ (record { now = b; next = r.next })
        unfolding NodesAt
        pair_stepped = record { is = go any refl }
          where
            row : (v : Bool) → any ≡ v → row_of nodes (nfirst + k) ≡ Some (row_node v)
            row v e = join_row v ops nums nodes (nfirst + k) d.left d.right (subst (λ (x : Bool). NodesAt ops nums nodes (nfirst + k) (join_of x d.left d.right)) e d.stands)

            go : (any' : Bool) → any ≡ any' → (m : Mon) → NodesAt ops nums nodes (nfirst + k) m → ShapedAt m mem k → Inside mem (k + count m) → (b ≡ (step m (read_mon m mem k) s w).now) × (r.next ≡ k + count m) × (mem₃ ≡ write_mon m (step m (read_mon m mem k) s w).state mem k)
            go true e (check x) a h i = single_joined (sym (check_single x) ∙ ap parts_of (node_inj (sym a.0 ∙ row true e)))
            go true e (And m n) a h i =
                subst (λ (v : Bool). NodesAt ops nums nodes (nfirst + k) (join_of v m n) → ShapedAt (join_of v m n) mem k → Inside mem (k + count (join_of v m n)) → (b ≡ (step (join_of v m n) (read_mon (join_of v m n) mem k) s w).now) × (r.next ≡ k + count (join_of v m n)) × (mem₃ ≡ write_mon (join_of v m n) (step (join_of v m n) (read_mon (join_of v m n) mem k) s w).state mem k)) e (joined_is m n) a h i
            go true e (Or m n) a h i = true_false refl (joined_inj (ap parts_of (node_inj (sym (row true e) ∙ a.0))))
            go false e (check x) a h i = single_joined (sym (check_single x) ∙ ap parts_of (node_inj (sym a.0 ∙ row false e)))
            go false e (And m n) a h i = true_false refl (joined_inj (ap parts_of (node_inj (sym a.0 ∙ row false e))))
            go false e (Or m n) a h i =
                subst (λ (v : Bool). NodesAt ops nums nodes (nfirst + k) (join_of v m n) → ShapedAt (join_of v m n) mem k → Inside mem (k + count (join_of v m n)) → (b ≡ (step (join_of v m n) (read_mon (join_of v m n) mem k) s w).now) × (r.next ≡ k + count (join_of v m n)) × (mem₃ ≡ write_mon (join_of v m n) (step (join_of v m n) (read_mon (join_of v m n) mem k) s w).state mem k)) e (joined_is m n) a h i
