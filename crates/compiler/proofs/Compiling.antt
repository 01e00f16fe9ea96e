-- One step of the compiler's walk, for each word.
use mathlib.Core.Path.{◌≡◌, refl, sym, ap, subst, ◌∙◌}
use mathlib.Core.Bool.{Bool, true}
use mathlib.Core.List.{List, [], ◌∷◌, ◌++◌}
use Prim.Native.Nat.{ℕ, ◌+◌, ◌*◌, ◌≤◌, ◌<◌, ◌^◌}
use native.Mathlib.Omega.{arith}
use lib.ListN.{length, get_or}
use lib.Seq.{sets}
use Rattle.std.specs.Prelude.{None, Option, Some, Ok, Err, ok_or}
use Rattle.std.specs.Prelude.{Result as Returned}
use Rattle.formula.specs.Tree.{leaf, one, two, size}
use Rattle.formula.specs.Spells.{Spells}
use Rattle.formula.specs.Formula.{Formula, not, next, always, eventually, always_for, within, implies}
use Rattle.formula.specs.Table.{node_at, Placed}
use Rattle.formula.specs.Pure.{pure, unless}
use Rattle.formula.specs.Signal.{Purely}
use Rattle.formula.proofs.Trees.{size_pos}
use Rattle.formula.proofs.Nodes.{unary_number}
use Rattle.formula.proofs.Places.{leaf_there, in_ops, in_nums, placed_one, placed_left, placed_right}
use Rattle.formula.proofs.Signals.{purely_yes, purely_no}
use Rattle.monitor.specs.declared.range.AnchorRange.{AnchorRange}
use Rattle.monitor.specs.declared.node.SignalExpr.TheVariants.{True, At}
use Rattle.monitor.specs.declared.node.MonNode.{MonNode}
use Rattle.monitor.specs.declared.node.MonNode.TheVariants.{RangeCheck, DelayedCheck, Obligation}
use Rattle.compiler.specs.declared.Scope.{Scope}
use Rattle.monitor.specs.declared.node.NodeTape.{NodeTape}
use Rattle.monitor.specs.Tape.{RowLaid}
use Rattle.result.specs.declared.Refusal.{Refusal}
use Rattle.result.specs.declared.Refusal.TheVariants.{Antecedent, WithinOperand, NextConsequent, Consequent, NextOperand, NotOperand}
use Rattle.monitor.specs.Range.{shifted_of}
use Rattle.monitor.specs.Mon.{always_true, at, Check, range_check, delayed_check, obligation, Mon, check, count, rows, node_row, node_of}
use Rattle.monitor.specs.Compile.{consequent, faults, anchor, implication, node}
use Rattle.compiler.specs.Compiled.{CompileReady, Implied, LaidAt, CheckLaid, CompiledAt}
use Rattle.compiler.proofs.Words.{is_not, is_next, is_within, is_implies}

-- ---- what a walk is handed
module _ (ops nums : List ℕ) (i : ℕ) (sc : Scope) (tape : NodeTape) (d : CompileReady ops nums i sc tape) where
  pub ready_in_ops : i < length ops
  ready_in_ops = in_ops ops nums i d.place

  pub ready_in_nums : i < length nums
  ready_in_nums = in_nums ops nums i d.place

  pub ready_room : 7 * (tape.at + 1) ≤ length tape.out.now
  ready_room = omega (arith, size_pos d.place.formula, d.room)

  pub place_fits : length ops < 2 ^ 64 → i + 1 < 2 ^ 64
  place_fits h = omega (arith, ready_in_ops)

  pub next_fits : Placed ops nums (i + 1) → length ops < 2 ^ 64 → i + 1 + 1 < 2 ^ 64
  next_fits q h = omega (arith, in_ops ops nums (i + 1) q)

  pub placed_operand : 3 ≤ get_or ops i 0 → get_or ops i 0 < 9 → Placed ops nums (i + 1)
  placed_operand g h = placed_one ops nums i d.place g h

  pub placed_of_not : get_or ops i 0 ≡ 3 → Placed ops nums (i + 1)
  placed_of_not h = placed_operand (omega arith) (omega arith)

  pub placed_of_next : get_or ops i 0 ≡ 4 → Placed ops nums (i + 1)
  placed_of_next h = placed_operand (omega arith) (omega arith)

  pub placed_of_within : get_or ops i 0 ≡ 8 → Placed ops nums (i + 1)
  placed_of_within h = placed_operand (omega arith) (omega arith)

-- ---- one check stored, or one refusal
-- the refusal of an `ok_or` of nothing
ok_or_none : (k : Option ℕ) (n m : Refusal) → k ≡ None → Err m ≡ ok_or k n → m ≡ n
ok_or_none k n m q w = err_inj (w ∙ ap (λ (x : Option ℕ). ok_or x n) q)
  where
    err_inj : {a b : Refusal} → ◌≡◌ {A = Returned ℕ Refusal} (Err a) (Err b) → a ≡ b
    err_inj h = cc

module _ (ops nums : List ℕ) (p : ℕ) (n : Refusal) (old new : NodeTape) (row : MonNode) (k : Option ℕ) (a : Purely ops nums p k) where
  pub pure_row : (e : ℕ) → k ≡ Some e → RowLaid old (node_row row) new → CheckLaid ops nums p n old row new (Ok e)
  unfolding count rows
  pure_row e q w = record {
    is = λ c y g s.
        let (b, m) = purely_yes ops nums p k a g s e q in
        subst (λ (x : Bool). LaidAt (unless x n) (check c) (p + size g) old new (Ok e)) (sym b)
        (ap Ok m, w.0, w.1 ∙ ap (λ (x : MonNode). sets old.out.now (7 * old.at) (node_row x)) y);
  }

module _ (fs : List Refusal) (m : Mon) (e : ℕ) (old new : NodeTape) (z : Returned ℕ Refusal) where
  laid_check : (c : Check) → fs ≡ [] → m ≡ check c → z ≡ Ok e → RowLaid old (node_row (node_of c)) new → LaidAt fs m e old new z
  unfolding count rows
  laid_check c p q h w =
      subst (λ (x : List Refusal). LaidAt x m e old new z) (sym p)
      (subst (λ (x : Mon). LaidAt [] x e old new z) (sym q) (h, w.0, w.1))

  pub laid_refused : (n : Refusal) (ns : List Refusal) → fs ≡ n ∷ ns → z ≡ Err n → LaidAt fs m e old new z
  laid_refused n ns p w = subst (λ (x : List Refusal). LaidAt x m e old new z) (sym p) w

module _ (ops nums : List ℕ) (i : ℕ) (sc : Scope) (old new : NodeTape) (z : Returned ℕ Refusal) where
  pub atom_laid : get_or ops i 0 < 3 → z ≡ Ok (i + 1) → RowLaid old (node_row (RangeCheck (At i) sc.range)) new → CompiledAt ops nums i sc old new z
  unfolding faults node size
  atom_laid h q w = record {
    is = λ f s.
        let (a, e, n) = leaf_there ops nums i f s h in
        laid_check (faults f sc.temporal) (node f i sc.range sc.temporal) (i + size f) old new z (range_check (at i (leaf a)) sc.range)
        (ap (λ (x : Formula). faults x sc.temporal) e)
        (ap (λ (x : Formula). node x i sc.range sc.temporal) e)
        (q ∙ ap (λ (x : Formula). Ok (i + size x)) (sym e))
        w;
  }

  -- the same of a check whose formula ends with a pure one
  compiled_as : (f : Formula) (fs : List Refusal) (c : Check) (e : ℕ) → faults f sc.temporal ≡ fs → node f i sc.range sc.temporal ≡ check c → i + size f ≡ e → LaidAt fs (check c) e old new z
      → LaidAt (faults f sc.temporal) (node f i sc.range sc.temporal) (i + size f) old new z
  compiled_as f fs c e p q k w =
      subst (λ (x : List Refusal). LaidAt x (node f i sc.range sc.temporal) (i + size f) old new z) (sym p)
      (subst (λ (x : Mon). LaidAt fs x (i + size f) old new z) (sym q) (subst (λ (x : ℕ). LaidAt fs (check c) x old new z) (sym k) w))

  pub not_laid : get_or ops i 0 ≡ 3 → CheckLaid ops nums (i + 1) NotOperand old (RangeCheck (At i) sc.range) new z → CompiledAt ops nums i sc old new z
  unfolding faults node size
  not_laid h w = record {
    is = λ f s.
        let (g, u, v) = is_not ops nums i f s h in
        compiled_as f _ _ _ (ap (λ (x : Formula). faults x sc.temporal) u) (ap (λ (x : Formula). node x i sc.range sc.temporal) u) (omega (arith, ap (λ (x : Formula). size x) u))
        (w.is (range_check (at i (one not g)) sc.range) refl g v);
  }

  pub next_laid : (r' : AnchorRange) → get_or ops i 0 ≡ 4 → r' ≡ shifted_of sc.range → CheckLaid ops nums (i + 1) NextOperand old (RangeCheck (At (i + 1)) r') new z
      → CompiledAt ops nums i sc old new z
  unfolding faults node size
  next_laid r' h y w = record {
    is = λ f s.
        let (g, u, v) = is_next ops nums i f s h in
        compiled_as f _ _ _ (ap (λ (x : Formula). faults x sc.temporal) u)
        (ap (λ (x : Formula). node x i sc.range sc.temporal) u ∙ ap (λ (x : AnchorRange). check (range_check (at (i + 1) g) x)) (sym y))
        (omega (arith, ap (λ (x : Formula). size x) u))
        (w.is (range_check (at (i + 1) g) r') refl g v);
  }

  pub within_laid : (r' : AnchorRange) → get_or ops i 0 ≡ 8 → r' ≡ anchor sc.temporal sc.range → CheckLaid ops nums (i + 1) WithinOperand old (Obligation (get_or nums i 0) True (At (i + 1)) r') new z
      → CompiledAt ops nums i sc old new z
  unfolding faults node size
  within_laid r' h y w = record {
    is = λ f s.
        let (g, u, v) = is_within ops nums i f s h in
        compiled_as f _ _ _ (ap (λ (x : Formula). faults x sc.temporal) u)
        (ap (λ (x : Formula). node x i sc.range sc.temporal) u ∙ ap (λ (x : AnchorRange). check (obligation (get_or nums i 0) always_true (at (i + 1) g) x)) (sym y))
        (omega (arith, ap (λ (x : Formula). size x) u))
        (w.is (obligation (get_or nums i 0) always_true (at (i + 1) g) r') refl g v);
  }

-- ---- implications
-- a consequent that is neither `within` nor `next`: the whole implication is the signal
other : (ops nums : List ℕ) (j : ℕ) (c : Formula) → Spells (node_at ops nums) j c → (get_or ops j 0 ≡ 8 → ⊥) → (get_or ops j 0 ≡ 4 → ⊥)
    → (l : Formula) (i : ℕ) (r : AnchorRange) (t : Bool) → (consequent c ≡ unless (pure c) Consequent) × (implication l c i j r t ≡ range_check (at i (two implies l c)) r)
unfolding consequent implication Spells node_at
other ops nums j (leaf a) s h h' l i r t = (refl, refl)
other ops nums j (one not f) s h h' l i r t = (refl, refl)
other ops nums j (one next f) s h h' l i r t = absurd (h' (unary_number _ _ next s.0))
other ops nums j (one always f) s h h' l i r t = (refl, refl)
other ops nums j (one eventually f) s h h' l i r t = (refl, refl)
other ops nums j (one (always_for b) f) s h h' l i r t = (refl, refl)
other ops nums j (one (within b) f) s h h' l i r t = absurd (h (unary_number _ _ (within b) s.0))
other ops nums j (two o m n) s h h' l i r t = (refl, refl)

module _ (ops nums : List ℕ) (i : ℕ) (sc : Scope) (tape : NodeTape) (d : CompileReady ops nums i sc tape) (h : get_or ops i 0 ≡ 11) where
  pub placed_antecedent : Placed ops nums (i + 1)
  placed_antecedent = placed_left ops nums i d.place (omega arith)

  module _ (j : ℕ) (w : Option ℕ) (p : Purely ops nums (i + 1) w) (q : w ≡ Some j) where
    consequent_place : Placed ops nums j
    consequent_place = placed_right ops nums i d.place j (omega arith) (λ f s. (purely_yes ops nums (i + 1) w p f s j q).1)

    pub consequent_in : j < length ops
    consequent_in = in_ops ops nums j consequent_place

module _ (ops nums : List ℕ) (i j : ℕ) (sc : Scope) (old : NodeTape) (d : Implied ops nums i j sc old) where
  pub implied_room : 7 * (old.at + 1) ≤ length old.out.now
  implied_room = ready_room ops nums i sc old d.ready

  pub placed_consequent : Placed ops nums j
  placed_consequent = consequent_place ops nums i sc old d.ready d.word j (Some j) d.left refl

  pub consequent_nums : j < length nums
  consequent_nums = in_nums ops nums j placed_consequent

  pub placed_owed : get_or ops j 0 ≡ 8 → Placed ops nums (j + 1)
  placed_owed h = placed_one ops nums j placed_consequent (omega arith) (omega arith)

  pub placed_delayed : get_or ops j 0 ≡ 4 → Placed ops nums (j + 1)
  placed_delayed h = placed_one ops nums j placed_consequent (omega arith) (omega arith)

  pub implied_fits : length ops < 2 ^ 64 → i + 1 < 2 ^ 64
  implied_fits h = place_fits ops nums i sc old d.ready h

  pub antecedent_fits : length ops < 2 ^ 64 → i + 1 + 1 < 2 ^ 64
  antecedent_fits h = omega (arith, in_ops ops nums (i + 1) (placed_antecedent ops nums i sc old d.ready d.word))

  pub consequent_fits : Placed ops nums (j + 1) → length ops < 2 ^ 64 → j + 1 + 1 < 2 ^ 64
  consequent_fits q h = omega (arith, in_ops ops nums (j + 1) q)

  -- the formula there: the antecedent is pure, and the consequent stands at j
  parts : (f : Formula) → Spells (node_at ops nums) i f → (l : Formula) × (c : Formula) × (f ≡ two implies l c) × (pure l ≡ true) × (j ≡ i + 1 + size l) × Spells (node_at ops nums) j c
  parts f s =
      let (l, c, u, v, w) = is_implies ops nums i f s d.word in
      let (b, n) = purely_yes ops nums (i + 1) (Some j) d.left l v j refl in
      (l, c, u, b, n, subst (λ (m : ℕ). Spells (node_at ops nums) m c) (sym n) w)

  module _ (new : NodeTape) (z : Returned ℕ Refusal) where
    -- a check of an implication, in terms of its parts
    implied_as : (f l c : Formula) → f ≡ two implies l c → pure l ≡ true → j ≡ i + 1 + size l → (x : Check) → implication l c i j sc.range sc.temporal ≡ x
        → (fs : List Refusal) (e : ℕ) → consequent c ≡ fs → j + size c ≡ e → LaidAt fs (check x) e old new z → LaidAt (faults f sc.temporal) (node f i sc.range sc.temporal) (i + size f) old new z
    unfolding faults node size
    implied_as f l c u b n x q fs e p m w =
        compiled_as ops nums i sc old new z f fs x e
        (ap (λ (y : Formula). faults y sc.temporal) u ∙ ap (λ (y : Bool). unless y Antecedent ++ consequent c) b ∙ p)
        (ap (λ (y : Formula). node y i sc.range sc.temporal) u ∙ ap (λ (y : ℕ). check (implication l c i y sc.range sc.temporal)) (sym n) ∙ ap check q)
        (omega (arith, ap (λ (y : Formula). size y) u))
        w

    pub owed_laid : (r' : AnchorRange) → get_or ops j 0 ≡ 8 → r' ≡ anchor sc.temporal sc.range
        → CheckLaid ops nums (j + 1) WithinOperand old (Obligation (get_or nums j 0) (At (i + 1)) (At (j + 1)) r') new z → CompiledAt ops nums i sc old new z
    unfolding consequent implication size
    owed_laid r' h y w = record {
      is = λ f s.
          let (l, c, u, b, n, v) = parts f s in
          let (g, u', v') = is_within ops nums j c v h in
          implied_as f l c u b n (obligation (get_or nums j 0) (at (i + 1) l) (at (j + 1) g) r')
          (ap (λ (x : Formula). implication l x i j sc.range sc.temporal) u' ∙ ap (λ (x : AnchorRange). obligation (get_or nums j 0) (at (i + 1) l) (at (j + 1) g) x) (sym y))
          _ _ (ap consequent u') (omega (arith, ap (λ (x : Formula). size x) u')) (w.is _ refl g v');
    }

    pub delayed_laid : (r' : AnchorRange) → get_or ops j 0 ≡ 4 → r' ≡ shifted_of sc.range
        → CheckLaid ops nums (j + 1) NextConsequent old (DelayedCheck (At (i + 1)) (At (j + 1)) r') new z → CompiledAt ops nums i sc old new z
    unfolding consequent implication size
    delayed_laid r' h y w = record {
      is = λ f s.
          let (l, c, u, b, n, v) = parts f s in
          let (g, u', v') = is_next ops nums j c v h in
          implied_as f l c u b n (delayed_check (at (i + 1) l) (at (j + 1) g) r')
          (ap (λ (x : Formula). implication l x i j sc.range sc.temporal) u' ∙ ap (λ (x : AnchorRange). delayed_check (at (i + 1) l) (at (j + 1) g) x) (sym y))
          _ _ (ap consequent u') (omega (arith, ap (λ (x : Formula). size x) u')) (w.is _ refl g v');
    }

    pub pure_laid : (get_or ops j 0 ≡ 8 → ⊥) → (get_or ops j 0 ≡ 4 → ⊥) → CheckLaid ops nums j Consequent old (RangeCheck (At i) sc.range) new z → CompiledAt ops nums i sc old new z
    pure_laid h h' w = record {
      is = λ f s.
          let (l, c, u, b, n, v) = parts f s in
          let (x, y) = other ops nums j c v h h' l i sc.range sc.temporal in
          implied_as f l c u b n (range_check (at i (two implies l c)) sc.range) y _ _ x refl (w.is _ refl c v);
    }

pub antecedent_refused : (ops nums : List ℕ) (i : ℕ) (sc : Scope) (old : NodeTape) (k : Option ℕ) (m : Refusal) → get_or ops i 0 ≡ 11 → Purely ops nums (i + 1) k
    → Err m ≡ ok_or k Antecedent → k ≡ None → CompiledAt ops nums i sc old old (Err m)
unfolding faults
antecedent_refused ops nums i sc old k m h p w q = record {
  is = λ f s.
      let (l, c, u, v, x) = is_implies ops nums i f s h in
      laid_refused _ _ _ _ _ _ Antecedent (consequent c)
      (ap (λ (y : Formula). faults y sc.temporal) u ∙ ap (λ (y : Bool). unless y Antecedent ++ consequent c) (purely_no ops nums (i + 1) k p l v q))
      (ap Err (ok_or_none k Antecedent m q w));
}
