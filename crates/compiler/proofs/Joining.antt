-- The compiler's walk over words that have whole checks below them: `always`, `always-for`, `and`, `or`.
use mathlib.Core.Path.{◌≡◌, refl, sym, ap, ap₂, subst, ◌∙◌}
use mathlib.Core.Bool.{Bool, true, false}
use mathlib.Core.Logic.{⊎_elim}
use mathlib.Core.List.{List, [], ◌∷◌, ◌++◌}
use Prim.Native.Nat.{ℕ, ◌+◌, ◌-◌, ◌*◌, ◌≤◌, ◌<◌, ◌^◌}
use native.Mathlib.Omega.{arith}
use native.Mathlib.Nat.{pos_of_ne-zero}
use lib.Dec.{eqb, ltb}
use lib.ListN.{length, get_or, length-append}
use lib.Seq.{sets, length-sets}
use borrow.Author.Tests.{eq-eqb, ne_eqb, lt-ltb, le-ltb}
use Rattle.terms.specs.Choice.{pick}
use Rattle.formula.specs.Tree.{leaf, one, two, two_of, size}
use Rattle.formula.specs.Spells.{Spells}
use Rattle.formula.specs.Formula.{Formula, Binary, not, next, always, eventually, always_for, within, and, or, implies, until}
use Rattle.formula.specs.Table.{node_at}
use Rattle.formula.proofs.Cases.{below_or}
use Rattle.formula.proofs.Trees.{size_pos}
use Rattle.formula.proofs.Nodes.{number_of, binary_number}
use Rattle.formula.proofs.Places.{one_there, two_there, in_ops}
use Rattle.monitor.specs.declared.range.AnchorRange.{AnchorRange}
use Rattle.monitor.specs.declared.node.MonNode.{MonNode}
use Rattle.monitor.specs.declared.node.MonNode.TheVariants.{And as AndNode, Or as OrNode}
use Rattle.compiler.specs.declared.Scope.{Scope}
use Rattle.monitor.specs.declared.node.NodeTape.{NodeTape}
use Rattle.monitor.specs.Tape.{RowLaid}
use Rattle.result.specs.declared.Refusal.{Refusal}
use Rattle.result.specs.declared.Refusal.TheVariants.{NestedFor, ZeroFor, Liveness}
use Rattle.std.specs.Prelude.{Ok, Err}
use Rattle.std.specs.Prelude.{Result as Returned}
use Rattle.monitor.specs.Range.{upto_of, Shiftable}
use Rattle.monitor.specs.Mon.{Mon, check, And, Or, count, rows, node_row, node_of, join_node}
use Rattle.monitor.specs.Table.{NodeNumbered}
use Rattle.monitor.specs.Compile.{when, faults, node}
use Rattle.compiler.specs.Compiled.{CompileReady, LaidAt, CompiledAt}
use Rattle.compiler.proofs.Words.{is_always, is_eventually, is_always_for, is_and, is_or, is_until}
use Rattle.monitor.proofs.Rows.{sets_append}
use Rattle.compiler.proofs.Compiling.{laid_refused}

-- ---- a formula has at least as many nodes as its checks, and a node is seven numbers
pub count_size : (f : Formula) (i : ℕ) (r : AnchorRange) (t : Bool) → count (node f i r t) ≤ size f
unfolding node count size
count_size (leaf a) i r t = omega arith
count_size (one not f) i r t = omega arith
count_size (one next f) i r t = omega arith
count_size (one always f) i r t = omega (arith, count_size f (i + 1) r true)
count_size (one eventually f) i r t = omega arith
count_size (one (always_for b) f) i r t = omega (arith, count_size f (i + 1) (upto_of (b - 1)) true)
count_size (one (within b) f) i r t = omega arith
count_size (two and l c) i r t = omega (arith, count_size l (i + 1) r t, count_size c (i + 1 + size l) r t)
count_size (two or l c) i r t = omega (arith, count_size l (i + 1) r t, count_size c (i + 1 + size l) r t)
count_size (two implies l c) i r t = omega arith
count_size (two until l c) i r t = omega arith

row_length : (n : MonNode) → length (node_row n) ≡ 7
row_length (MonNode.RangeCheck s r) = refl
row_length (MonNode.DelayedCheck s t r) = refl
row_length (MonNode.Obligation b s t r) = refl
row_length AndNode = refl
row_length OrNode = refl

pub rows_length : (m : Mon) → length (rows m) ≡ 7 * count m
unfolding rows count
rows_length (check c) = row_length (node_of c)
rows_length (And m n) = simp length-append (omega (arith, rows_length m, rows_length n))
rows_length (Or m n) = simp length-append (omega (arith, rows_length m, rows_length n))

-- ---- what an answer says of the refusals
pub laid_upto : (fs : List Refusal) (m : Mon) (e p : ℕ) (old new : NodeTape) (z : Returned ℕ Refusal) → LaidAt fs m e old new z → z ≡ Ok p
    → (fs ≡ []) × (p ≡ e) × (new.at ≡ old.at + count m) × (new.out.now ≡ sets old.out.now (7 * old.at) (rows m))
laid_upto [] m e p old new z w q = (refl, ok_inj (sym q ∙ w.0), w.1, w.2)
  where
    ok_inj : {a b : ℕ} → ◌≡◌ {A = Returned ℕ Refusal} (Ok a) (Ok b) → a ≡ b
    ok_inj h = cc
laid_upto (k ∷ ks) m e p old new z w q =
    let h : ◌≡◌ {A = Returned ℕ Refusal} (Ok p) (Err k) = sym q ∙ w in
    let a : ◌≡◌ {A = ℕ} 0 1 = cc in absurd (omega arith)

pub laid_no : (fs : List Refusal) (m : Mon) (e : ℕ) (k : Refusal) (old new : NodeTape) (z : Returned ℕ Refusal) → LaidAt fs m e old new z → z ≡ Err k → (ns : List Refusal) × (fs ≡ k ∷ ns)
laid_no [] m e k old new z w q =
    let h : ◌≡◌ {A = Returned ℕ Refusal} (Err k) (Ok e) = sym q ∙ w.0 in
    let a : ◌≡◌ {A = ℕ} 0 1 = cc in absurd (omega arith)
laid_no (n ∷ ns) m e k old new z w q = (ns, ap (λ (x : Refusal). x ∷ ns) (inj (sym w ∙ q)))
  where
    inj : {a b : Refusal} → ◌≡◌ {A = Returned ℕ Refusal} (Err a) (Err b) → a ≡ b
    inj h = cc

-- ---- always
module _ (ops nums : List ℕ) (i : ℕ) (sc : Scope) (tape : NodeTape) (d : CompileReady ops nums i sc tape) where
  ready_operand : (under : Scope) → Shiftable under.range → 3 ≤ get_or ops i 0 → get_or ops i 0 < 9 → CompileReady ops nums (i + 1) under tape
  unfolding size
  ready_operand under b g h =
      let p = d.place in
      let (o, x, t, e, u) = one_there ops nums i p.formula p.spells g h in
      let z : size p.formula ≡ 1 + size x = ap (λ (y : Formula). size y) e in
      record {
        place = record { formula = x; spells = u; in_ops = omega (arith, p.in_ops); in_nums = omega (arith, p.in_nums) };
        room = omega (arith, d.room);
        shift = b;
      }

  pub ready_always : get_or ops i 0 ≡ 5 → CompileReady ops nums (i + 1) (record { range = sc.range; temporal = true }) tape
  ready_always h = ready_operand _ d.shift (omega arith) (omega arith)

  pub ready_always_for : (under : Scope) (b : ℕ) → get_or ops i 0 ≡ 7 → b < 2 ^ 64 → (b ≡ 0 → ⊥) → under.range ≡ upto_of (b - 1) → CompileReady ops nums (i + 1) under tape
  ready_always_for under b h k n e = ready_operand under (subst Shiftable (sym e) (record { start = omega arith; finish = omega (arith, pos_of_ne-zero n) })) (omega arith) (omega arith)

  pub falls_operand : (t : ℕ) → 2 * (length ops - i) + 1 ≡ t → 2 * (length ops - (i + 1)) + 1 < t
  falls_operand t h = omega (arith, in_ops ops nums i d.place)

  pub falls_from_part : (t : ℕ) → 2 * (length ops - i) ≡ t → 2 * (length ops - (i + 1)) + 1 < t
  falls_from_part t h = omega (arith, in_ops ops nums i d.place)

module _ (ops nums : List ℕ) (i : ℕ) (sc : Scope) (old : NodeTape) where
  pub always_laid : (new : NodeTape) (z : Returned ℕ Refusal) → get_or ops i 0 ≡ 5 → CompiledAt ops nums (i + 1) (record { range = sc.range; temporal = true }) old new z → CompiledAt ops nums i sc old new z
  unfolding faults node size
  always_laid new z h p = record {
    is = λ f s.
        let (g, u, v) = is_always ops nums i f s h in
        subst (λ (x : Formula). LaidAt (faults x sc.temporal) (node x i sc.range sc.temporal) (i + size x) old new z) (sym u)
        (subst (λ (n : ℕ). LaidAt (faults g true) (node g (i + 1) sc.range true) n old new z) (omega arith) (p.is g v));
  }

  pub always_for_under : get_or ops i 0 ≡ 7 → sc.temporal ≡ true → CompiledAt ops nums i sc old old (Err NestedFor)
  unfolding faults
  always_for_under h q = record {
    is = λ f s.
        let (g, u, v) = is_always_for ops nums i f s h in
        laid_refused _ _ _ _ _ _ NestedFor _ (ap (λ (x : Formula). faults x sc.temporal) u ∙ ap (λ (b : Bool). when b NestedFor ++ (when (eqb (get_or nums i 0) 0) ZeroFor ++ faults g true)) q) refl;
  }

  pub always_for_zero : get_or ops i 0 ≡ 7 → sc.temporal ≡ false → get_or nums i 0 ≡ 0 → CompiledAt ops nums i sc old old (Err ZeroFor)
  unfolding faults
  always_for_zero h q b = record {
    is = λ f s.
        let (g, u, v) = is_always_for ops nums i f s h in
        laid_refused _ _ _ _ _ _ ZeroFor _ (ap (λ (x : Formula). faults x sc.temporal) u ∙ ap₂ (λ (x y : Bool). when x NestedFor ++ (when y ZeroFor ++ faults g true)) q (eq-eqb (get_or nums i 0) 0 b)) refl;
  }

  pub always_for_laid : (r' : AnchorRange) (new : NodeTape) (z : Returned ℕ Refusal) → get_or ops i 0 ≡ 7 → sc.temporal ≡ false → (get_or nums i 0 ≡ 0 → ⊥) → r' ≡ upto_of (get_or nums i 0 - 1)
      → CompiledAt ops nums (i + 1) (record { range = r'; temporal = true }) old new z → CompiledAt ops nums i sc old new z
  unfolding faults node size
  always_for_laid r' new z h q b e p = record {
    is = λ f s.
        let (g, u, v) = is_always_for ops nums i f s h in
        subst (λ (x : Formula). LaidAt (faults x sc.temporal) (node x i sc.range sc.temporal) (i + size x) old new z) (sym u)
        (subst (λ (x : List Refusal). LaidAt x (node g (i + 1) (upto_of (get_or nums i 0 - 1)) true) (i + (1 + size g)) old new z)
        (sym (ap₂ (λ (x y : Bool). when x NestedFor ++ (when y ZeroFor ++ faults g true)) q (ne_eqb (get_or nums i 0) 0 b)))
        (subst (λ (n : ℕ). LaidAt (faults g true) (node g (i + 1) (upto_of (get_or nums i 0 - 1)) true) n old new z) (omega arith)
        (subst (λ (x : AnchorRange). LaidAt (faults g true) (node g (i + 1) x true) (i + 1 + size g) old new z) e (p.is g v))));
  }

-- ---- and, or
pub join_and : (op : ℕ) → op < 10 → AndNode ≡ join_node op
join_and op h = sym (ap (λ (b : Bool). pick b AndNode OrNode) (lt-ltb op 10 h))

pub join_or : (op : ℕ) → 10 ≤ op → OrNode ≡ join_node op
join_or op h = sym (ap (λ (b : Bool). pick b AndNode OrNode) (le-ltb op 10 h))

pub join_numbered : (op : ℕ) (n : MonNode) → n ≡ join_node op → NodeNumbered n
join_numbered op n e = subst NodeNumbered (sym e) (go (ltb op 10))
  where
    go : (b : Bool) → NodeNumbered (pick b AndNode OrNode)
    go true = (omega arith, omega arith)
    go false = (omega arith, omega arith)

-- a word that joins two checks: its refusals are the left part's and then the right's, its rows the joining node's, the left part's and the right's
record Joins (ops nums : List ℕ) (i : ℕ) (r : AnchorRange) (t : Bool) (f : Formula) : Type 0 where
  left : Formula
  right : Formula
  left_spells : Spells (node_at ops nums) (i + 1) left
  right_spells : Spells (node_at ops nums) (i + 1 + size left) right
  sized : size f ≡ 1 + size left + size right
  refusals : faults f t ≡ faults left t ++ faults right t
  counted : count (node f i r t) ≡ 1 + count (node left (i + 1) r t) + count (node right (i + 1 + size left) r t)
  rowed : rows (node f i r t) ≡ node_row (join_node (get_or ops i 0)) ++ rows (node left (i + 1) r t) ++ rows (node right (i + 1 + size left) r t)

module _ (ops nums : List ℕ) (i : ℕ) (r : AnchorRange) (t : Bool) (g : 9 ≤ get_or ops i 0) (h : get_or ops i 0 < 11) where
  joins : (f : Formula) → Spells (node_at ops nums) i f → Joins ops nums i r t f
  unfolding faults node size count rows
  joins f s = ⊎_elim
      (λ k.
      let (l, c, u, v, w) = is_and ops nums i f s (omega arith) in
      record {
        left = l;
        right = c;
        left_spells = v;
        right_spells = w;
        sized = ap (λ (x : Formula). size x) u;
        refusals = ap (λ (x : Formula). faults x t) u;
        counted = ap (λ (x : Formula). count (node x i r t)) u;
        rowed = ap (λ (x : Formula). rows (node x i r t)) u ∙ ap (λ (x : MonNode). node_row x ++ rows (node l (i + 1) r t) ++ rows (node c (i + 1 + size l) r t)) (join_and (get_or ops i 0) k);
      })
      (λ k.
      let (l, c, u, v, w) = is_or ops nums i f s (omega arith) in
      record {
        left = l;
        right = c;
        left_spells = v;
        right_spells = w;
        sized = ap (λ (x : Formula). size x) u;
        refusals = ap (λ (x : Formula). faults x t) u;
        counted = ap (λ (x : Formula). count (node x i r t)) u;
        rowed = ap (λ (x : Formula). rows (node x i r t)) u ∙ ap (λ (x : MonNode). node_row x ++ rows (node l (i + 1) r t) ++ rows (node c (i + 1 + size l) r t)) (join_or (get_or ops i 0) k);
      })
      (below_or (get_or ops i 0) 10)

module _ (ops nums : List ℕ) (i : ℕ) (sc : Scope) (g : 9 ≤ get_or ops i 0) (h : get_or ops i 0 < 11) where
  -- the nodes of the left part, and of the right part behind it
  abbrev left_of : Formula → Mon
  left_of l = node l (i + 1) sc.range sc.temporal

  abbrev right_of : Formula → Formula → Mon
  right_of l c = node c (i + 1 + size l) sc.range sc.temporal

  -- the parts of the formula that stands there
  joined : (f : Formula) → Spells (node_at ops nums) i f → Joins ops nums i sc.range sc.temporal f
  joined f s = joins ops nums i sc.range sc.temporal g h f s

  module _ (old : NodeTape) (n : MonNode) (mid : NodeTape) (e₀ : n ≡ join_node (get_or ops i 0)) (e₁ : RowLaid old (node_row n) mid) where
    pub ready_left : CompileReady ops nums i sc old → CompileReady ops nums (i + 1) sc mid
    ready_left d =
        let p = d.place in
        let j = joined p.formula p.spells in
        let z : length mid.out.now ≡ length old.out.now = ap length e₁.1 ∙ length-sets old.out.now (7 * old.at) (node_row n) in
        record {
          place = record { formula = j.left; spells = j.left_spells; in_ops = omega (arith, p.in_ops, j.sized); in_nums = omega (arith, p.in_nums, j.sized) };
          room = omega (arith, d.room, j.sized, size_pos j.right, e₁.0);
          shift = d.shift;
        }

    module _ (left : Returned ℕ Refusal) (far : NodeTape) (c : CompiledAt ops nums (i + 1) sc mid far left) where
      -- the left part's nodes behind the joining one
      abbrev LeftLaid : Formula → Type 0
      LeftLaid l = (far.at ≡ mid.at + count (left_of l)) × (far.out.now ≡ sets mid.out.now (7 * mid.at) (rows (left_of l)))

      left_upto : (p : ℕ) → left ≡ Ok p → (l : Formula) → Spells (node_at ops nums) (i + 1) l → (faults l sc.temporal ≡ []) × (p ≡ i + 1 + size l) × LeftLaid l
      left_upto p q l s =
          let (v, y, x, w) = laid_upto (faults l sc.temporal) (left_of l) (i + 1 + size l) p mid far left (c.is l s) q in
          (v, y, (x, w))

      pub pair_refused : (k : Refusal) → left ≡ Err k → CompiledAt ops nums i sc old far left
      pair_refused k q = record {
        is = λ f s.
            let j = joined f s in
            let l = j.left in
            let (ns, e) = laid_no (faults l sc.temporal) (left_of l) (i + 1 + size l) k mid far left (c.is l j.left_spells) q in
            laid_refused _ _ _ _ _ _ k (ns ++ faults j.right sc.temporal) (j.refusals ∙ ap (λ (x : List Refusal). x ++ faults j.right sc.temporal) e) q;
      }

      module _ (p : ℕ) (q : left ≡ Ok p) where
        pub ready_right : CompileReady ops nums i sc old → CompileReady ops nums p sc far
        ready_right d =
            let at = d.place in
            let j = joined at.formula at.spells in
            let (v, y, w) = left_upto p q j.left j.left_spells in
            let z : length far.out.now ≡ length mid.out.now = ap length w.1 ∙ length-sets mid.out.now (7 * mid.at) (rows (left_of j.left)) in
            let z' : length mid.out.now ≡ length old.out.now = ap length e₁.1 ∙ length-sets old.out.now (7 * old.at) (node_row n) in
            let k : count (left_of j.left) ≤ size j.left = count_size j.left (i + 1) sc.range sc.temporal in
            let s : Spells (node_at ops nums) p j.right = subst (λ (o : ℕ). Spells (node_at ops nums) o j.right) (sym y) j.right_spells in
            record {
              place = record { formula = j.right; spells = s; in_ops = omega (arith, at.in_ops, j.sized); in_nums = omega (arith, at.in_nums, j.sized) };
              room = omega (arith, d.room, j.sized, e₁.0);
              shift = d.shift;
            }

        pub falls_right : (μ : ℕ) → CompileReady ops nums i sc old → 2 * (length ops - i) ≡ μ → 2 * (length ops - p) + 1 < μ
        falls_right μ d o =
            let at = d.place in
            let j = joined at.formula at.spells in
            let y : p ≡ i + 1 + size j.left = (left_upto p q j.left j.left_spells).1 in
            omega (arith, in_ops ops nums i at)

        -- three runs of stores are one
        three : (l c' : Formula) (last : List ℕ) → LeftLaid l
            → last ≡ sets far.out.now (7 * far.at) (rows (right_of l c'))
            → last ≡ sets old.out.now (7 * old.at) (node_row (join_node (get_or ops i 0)) ++ rows (left_of l) ++ rows (right_of l c'))
        three l c' last w u =
            let a = node_row n in
            let y = rows (left_of l) in
            let z = rows (right_of l c') in
            let la : length a ≡ 7 = row_length n in
            let ly : length y ≡ 7 * count (left_of l) = rows_length (left_of l) in
            u ∙ ap₂ (λ (v : List ℕ) (k : ℕ). sets v k z)
            (w.1 ∙ ap₂ (λ (v : List ℕ) (k : ℕ). sets v k y) e₁.1 (omega (arith, e₁.0)) ∙ sets_append old.out.now (7 * old.at) a y)
            (omega (arith, w.0, e₁.0, length-append a y))
            ∙ sets_append old.out.now (7 * old.at) (a ++ y) z
            ∙ ap (λ (v : MonNode). sets old.out.now (7 * old.at) (node_row v ++ y ++ z)) e₀

        module _ (f : Formula) (j : Joins ops nums i sc.range sc.temporal f) (v : faults j.left sc.temporal ≡ []) (y : p ≡ i + 1 + size j.left) (w : LeftLaid j.left) (new : NodeTape) (z : Returned ℕ Refusal) where
          onto : (fs : List Refusal) → faults j.right sc.temporal ≡ fs → LaidAt fs (right_of j.left j.right) (p + size j.right) far new z
              → LaidAt (faults f sc.temporal) (node f i sc.range sc.temporal) (i + size f) old new z
          onto [] e u =
              subst (λ (k : List Refusal). LaidAt k (node f i sc.range sc.temporal) (i + size f) old new z) (sym (j.refusals ∙ ap₂ ◌++◌ v e)) (
                u.0 ∙ ap (λ (o : ℕ). Ok o) (omega (arith, j.sized)),
                omega (arith, u.1, w.0, e₁.0, j.counted),
                three j.left j.right new.out.now w u.2 ∙ ap (sets old.out.now (7 * old.at)) (sym j.rowed),
              )
          onto (k ∷ ks) e u = laid_refused _ _ _ _ _ _ k ks (j.refusals ∙ ap₂ ◌++◌ v e) u

        pub pair_laid : (new : NodeTape) (z : Returned ℕ Refusal) → CompiledAt ops nums p sc far new z → CompiledAt ops nums i sc old new z
        pair_laid new z c' = record {
          is = λ f s.
              let j = joined f s in
              let (v, y, w) = left_upto p q j.left j.left_spells in
              onto f j v y w new z (faults j.right sc.temporal) refl
              (subst (λ (o : ℕ). LaidAt (faults j.right sc.temporal) (node j.right o sc.range sc.temporal) (p + size j.right) far new z) y
              (c'.is j.right (subst (λ (o : ℕ). Spells (node_at ops nums) o j.right) (sym y) j.right_spells)));
        }

-- ---- eventually and until are the words that are left
module _ (ops nums : List ℕ) (i : ℕ) (sc : Scope) (old : NodeTape) where
  pub eventually_refused : 3 ≤ get_or ops i 0 → get_or ops i 0 < 7 → (get_or ops i 0 ≡ 3 → ⊥) → (get_or ops i 0 ≡ 4 → ⊥) → (get_or ops i 0 ≡ 5 → ⊥) → CompiledAt ops nums i sc old old (Err Liveness)
  unfolding faults
  eventually_refused g h h3 h4 h5 = record {
    is = λ f s.
        let e : get_or ops i 0 ≡ 6 = six (get_or ops i 0) g h h3 h4 h5 in
        let (x, u, v) = is_eventually ops nums i f s e in
        laid_refused _ _ _ _ _ _ Liveness [] (ap (λ (y : Formula). faults y sc.temporal) u) refl;
  }
    where
      six : (op : ℕ) → 3 ≤ op → op < 7 → (op ≡ 3 → ⊥) → (op ≡ 4 → ⊥) → (op ≡ 5 → ⊥) → op ≡ 6
      six op g h h3 h4 h5 = ⊎_elim (λ k. absurd (h3 (omega arith))) (λ k. ⊎_elim (λ k'. absurd (h4 (omega arith))) (λ k'. ⊎_elim (λ k''. absurd (h5 (omega arith))) (λ k''. omega arith) (below_or op 6)) (below_or op 5)) (below_or op 4)

  pub until_refused : 11 ≤ get_or ops i 0 → (get_or ops i 0 ≡ 11 → ⊥) → CompiledAt ops nums i sc old old (Err Liveness)
  unfolding faults node_at
  until_refused g h = record {
    is = λ f s.
        let (o, l, c, u, v, w, x) = two_there ops nums i f s (omega arith) in
        let e : get_or ops i 0 ≡ 12 = ⊎_elim (λ k. absurd (h (omega arith))) (λ k. twelve o (get_or ops i 0) (binary_number _ _ o u) k) (below_or (get_or ops i 0) 12) in
        let (l', c', u', v', w') = is_until ops nums i f s e in
        laid_refused _ _ _ _ _ _ Liveness [] (ap (λ (y : Formula). faults y sc.temporal) u') refl;
  }
    where
      twelve : (o : Binary) (op : ℕ) → op ≡ number_of (two_of o) → 12 ≤ op → op ≡ 12
      twelve and op e k = absurd (omega arith)
      twelve or op e k = absurd (omega arith)
      twelve implies op e k = absurd (omega arith)
      twelve until op e k = e
