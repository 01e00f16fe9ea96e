-- One step of decomposing a formula without faults.
use mathlib.Core.Path.{◌≡◌, refl, sym, ap, ap₂, subst, ◌∙◌}
use mathlib.Core.Bool.{true}
use mathlib.Core.List.{List, [], ◌∷◌, ◌++◌}
use Prim.Native.Nat.{ℕ, ◌+◌, ◌*◌, ◌-◌, ◌≤◌, ◌<◌}
use native.Mathlib.Omega.{arith}
use lib.ListN.{length, get_or, length-append}
use lib.Seq.{sets}
use Rattle.formula.specs.Tree.{one, two, two_of, size}
use Rattle.formula.specs.Spells.{Spells}
use Rattle.formula.specs.Formula.{Unary, Binary, Formula, not, eventually, until}
use Rattle.formula.specs.Table.{node_at}
use Rattle.formula.specs.Pure.{pure}
use Rattle.result.specs.declared.Refusal.TheVariants.{EventuallyOperand, UntilOperand}
use Rattle.formula.proofs.Trees.{size_pos}
use Rattle.formula.proofs.Nodes.{number_of, unary_number, binary_number}
use Rattle.formula.proofs.Places.{leaf_there, one_there, two_there, in_ops}
use Rattle.liveness.specs.Split.{faults, skeleton_of, obligations_of, owes}
use Rattle.split.specs.Held.{entries, skeleton_cells, owed_cells, Purity, Ends, SplitReady, SplitLaid, Decomposed}
use Rattle.split.specs.declared.parts.Filled.{Filled}
use Rattle.split.proofs.Stores.{sets_then, same_length}
use Rattle.formula.proofs.Faults.{append_nil_inv, unless_nil}
use Rattle.liveness.proofs.Words.{only_not, only_until, faults_two, sound_eventually, both_nil}
use Rattle.split.proofs.Cells.{joined, entries_most, owes_most_lem, cells_length, owed_length, owed_append}

-- ---- where a pure formula ends
module _ (ops nums : List ℕ) (i : ℕ) (s : List ℕ) (k : ℕ) (w : List ℕ) (o : ℕ) (g : SplitReady ops nums i s k w o) where
  -- ---- what the calls ask
  pub ready_in_ops : i < length ops
  ready_in_ops = in_ops ops nums i g.place

  pub ready_entry : 2 * (k + 1) ≤ length s
  ready_entry = omega (arith, size_pos g.place.formula, g.room)

  pub ready_owed : 3 * (o + 1) ≤ length w
  ready_owed = omega (arith, size_pos g.place.formula, g.room_owed)

  pub ready_falls : (t : ℕ) → length ops - i ≡ t → length ops - (i + 1) < t
  ready_falls t h = omega (arith, ready_in_ops)

  pub purity_eventually : 4 ≤ get_or ops i 0 → get_or ops i 0 < 9 → Purity ops nums (i + 1)
  unfolding size faults node_at
  purity_eventually h n =
      let p = g.place in
      let (u, x, t, q, v) = one_there ops nums i p.formula p.spells (omega arith) n in
      let z : size p.formula ≡ 1 + size x = ap (λ (y : Formula). size y) q in
      let y : u ≡ eventually = sound_eventually u x (subst (λ (m : ℕ). 4 ≤ m) (unary_number _ _ u t) h) (sym (ap faults q) ∙ g.sound) in
      record {
        place = record { formula = x; spells = v; in_ops = omega (arith, p.in_ops); in_nums = omega (arith, p.in_nums) };
        is_pure = unless_nil (pure x) EventuallyOperand (sym (ap faults (q ∙ ap (λ (m : Unary). one m x) y)) ∙ g.sound);
      }

  module _ (h : 12 ≤ get_or ops i 0) where
    pure_operands : (b : Binary) (l r : Formula) → node_at ops nums i ≡ two_of b → g.place.formula ≡ two b l r → (pure l ≡ true) × (pure r ≡ true)
    unfolding faults node_at
    pure_operands b l r t q =
        both_nil (pure l) (pure r) UntilOperand (sym (ap faults (q ∙ ap (λ (x : Binary). two x l r) (only_until b (subst (λ (n : ℕ). 12 ≤ n) (binary_number _ _ b t) h)))) ∙ g.sound)

    pub purity_left : Purity ops nums (i + 1)
    unfolding size
    purity_left =
        let p = g.place in
        let (b, l, r, t, q, u, v) = two_there ops nums i p.formula p.spells (omega arith) in
        let z : size p.formula ≡ 1 + size l + size r = ap (λ (x : Formula). size x) q in
        record {
          place = record { formula = l; spells = u; in_ops = omega (arith, p.in_ops); in_nums = omega (arith, p.in_nums) };
          is_pure = (pure_operands b l r t q).0;
        }

    pub purity_right : (m : ℕ) → Ends ops nums (i + 1) m → Purity ops nums m
    unfolding size
    purity_right m e =
        let p = g.place in
        let (b, l, r, t, q, u, v) = two_there ops nums i p.formula p.spells (omega arith) in
        let z : size p.formula ≡ 1 + size l + size r = ap (λ (x : Formula). size x) q in
        let n : m ≡ i + 1 + size l = e.is l u in
        record {
          place = record { formula = r; spells = subst (λ (j : ℕ). Spells (node_at ops nums) j r) (sym n) v; in_ops = omega (arith, p.in_ops); in_nums = omega (arith, p.in_nums) };
          is_pure = (pure_operands b l r t q).1;
        }

  module _ (s₁ : List ℕ) (a b : ℕ) (e : s₁ ≡ sets s (2 * k) (a ∷ b ∷ [])) where
    pub ready_not : 3 ≤ get_or ops i 0 → get_or ops i 0 < 4 → SplitReady ops nums (i + 1) s₁ (k + 1) w o
    unfolding size faults node_at
    ready_not h n =
        let p = g.place in
        let (u, x, t, q, v) = one_there ops nums i p.formula p.spells h (omega arith) in
        let z : size p.formula ≡ 1 + size x = ap (λ (y : Formula). size y) q in
        let y : u ≡ not = only_not u (subst (λ (m : ℕ). m < 4) (unary_number _ _ u t) n) in
        let m : length s₁ ≡ length s = same_length s s₁ (a ∷ b ∷ []) (2 * k) e in
        record {
          place = record { formula = x; spells = v; in_ops = omega (arith, p.in_ops); in_nums = omega (arith, p.in_nums) };
          sound = sym (ap faults (q ∙ ap (λ (c : Unary). one c x) y)) ∙ g.sound;
          room = omega (arith, g.room);
          room_owed = omega (arith, g.room_owed);
        }

    module _ (h : 9 ≤ get_or ops i 0) (n : get_or ops i 0 < 12) where
      sound_parts : (c : Binary) (l r : Formula) → node_at ops nums i ≡ two_of c → g.place.formula ≡ two c l r → (faults l ≡ []) × (faults r ≡ [])
      unfolding node_at
      sound_parts c l r t q =
          append_nil_inv (faults l) (faults r) (sym (ap faults q ∙ faults_two c l r (subst (λ (m : ℕ). m < 12) (binary_number _ _ c t) n)) ∙ g.sound)

      pub ready_left : SplitReady ops nums (i + 1) s₁ (k + 1) w o
      unfolding size
      ready_left =
          let p = g.place in
          let (c, l, r, t, q, u, v) = two_there ops nums i p.formula p.spells h in
          let z : size p.formula ≡ 1 + size l + size r = ap (λ (x : Formula). size x) q in
          let m : length s₁ ≡ length s = same_length s s₁ (a ∷ b ∷ []) (2 * k) e in
          record {
            place = record { formula = l; spells = u; in_ops = omega (arith, p.in_ops); in_nums = omega (arith, p.in_nums) };
            sound = (sound_parts c l r t q).0;
            room = omega (arith, g.room);
            room_owed = omega (arith, g.room_owed);
          }

      module _ (s₂ w₂ : List ℕ) (left : Filled) (d : Decomposed ops nums (i + 1) s₁ s₂ (k + 1) w w₂ o left) where
        pub ready_right : SplitReady ops nums left.end s₂ left.entries w₂ left.owed
        unfolding size
        ready_right =
            let p = g.place in
            let (c, l, r, t, q, u, v) = two_there ops nums i p.formula p.spells h in
            let z : size p.formula ≡ 1 + size l + size r = ap (λ (x : Formula). size x) q in
            let (fl, fr) = sound_parts c l r t q in
            let y = d.is l u fl in
            let m : length s₁ ≡ length s = same_length s s₁ (a ∷ b ∷ []) (2 * k) e in
            let m₂ : length s₂ ≡ length s₁ = same_length s₁ s₂ (skeleton_cells (skeleton_of l (i + 1) o)) (2 * (k + 1)) y.skeleton in
            let m₃ : length w₂ ≡ length w = same_length w w₂ (owed_cells (obligations_of l (i + 1))) (3 * o) y.owing in
            record {
              place = record { formula = r; spells = subst (λ (j : ℕ). Spells (node_at ops nums) j r) (sym y.ends) v; in_ops = omega (arith, p.in_ops, y.ends); in_nums = omega (arith, p.in_nums, y.ends) };
              sound = fr;
              room = omega (arith, g.room, y.entered, entries_most l (i + 1) o);
              room_owed = omega (arith, g.room_owed, y.counted, owes_most_lem l (i + 1));
            }

        pub right_falls : (t : ℕ) → length ops - i ≡ t → length ops - left.end < t
        right_falls t j =
            let p = g.place in
            let (c, l, r, z, q, u, v) = two_there ops nums i p.formula p.spells h in
            omega (arith, ready_in_ops, (d.is l u (sound_parts c l r z q).0).ends)

-- ---- what each return leaves
module _ (ops nums : List ℕ) (i : ℕ) (s s' : List ℕ) (k : ℕ) (w w' : List ℕ) (o : ℕ) where
  pub decomposed_leaf : get_or ops i 0 < 3 → s' ≡ sets s (2 * k) (0 ∷ i ∷ []) → Decomposed ops nums i s s' k w w o (record { end = i + 1; entries = k + 1; owed = o })
  unfolding skeleton_cells skeleton_of obligations_of owed_cells entries size
  decomposed_leaf h e = record {
    is = λ f sp n.
        let (a, q, m) = leaf_there ops nums i f sp h in
        subst (λ (x : Formula). SplitLaid x i s s' k w w o (record { end = i + 1; entries = k + 1; owed = o })) (sym q)
        (record { skeleton = e; owing = refl; ends = refl; entered = refl; counted = omega arith });
  }

  pub decomposed_not : (s₁ : List ℕ) (r : Filled) → 3 ≤ get_or ops i 0 → get_or ops i 0 < 4 → s₁ ≡ sets s (2 * k) (3 ∷ 0 ∷ []) → Decomposed ops nums (i + 1) s₁ s' (k + 1) w w' o r
      → Decomposed ops nums i s s' k w w' o r
  unfolding skeleton_cells skeleton_of obligations_of entries size faults node_at
  decomposed_not s₁ r h n e d = record {
    is = λ f sp z.
        let (u, x, t, q, v) = one_there ops nums i f sp h (omega arith) in
        let y : u ≡ not = only_not u (subst (λ (m : ℕ). m < 4) (unary_number _ _ u t) n) in
        let q' : f ≡ one not x = q ∙ ap (λ (c : Unary). one c x) y in
        let l = d.is x v (sym (ap faults q') ∙ z) in
        subst (λ (c : Formula). SplitLaid c i s s' k w w' o r) (sym q')
        (record { skeleton = sets_then s s₁ s' (3 ∷ 0 ∷ []) (skeleton_cells (skeleton_of x (i + 1) o)) (2 * k) (2 * (k + 1)) e l.skeleton (omega arith); owing = l.owing; ends = omega (arith, l.ends); entered = omega (arith, l.entered); counted = l.counted });
  }

  pub decomposed_eventually : (e : ℕ) → 4 ≤ get_or ops i 0 → get_or ops i 0 < 9 → Ends ops nums (i + 1) e → s' ≡ sets s (2 * k) (1 ∷ o ∷ [])
      → w' ≡ sets w (3 * o) (0 ∷ (i + 1) ∷ 0 ∷ []) → Decomposed ops nums i s s' k w w' o (record { end = e; entries = k + 1; owed = o + 1 })
  unfolding skeleton_cells skeleton_of obligations_of owed_cells entries size node_at
  decomposed_eventually e h n d a b = record {
    is = λ f sp z.
        let (u, x, t, q, v) = one_there ops nums i f sp (omega arith) n in
        let y : u ≡ eventually = sound_eventually u x (subst (λ (m : ℕ). 4 ≤ m) (unary_number _ _ u t) h) (sym (ap faults q) ∙ z) in
        subst (λ (c : Formula). SplitLaid c i s s' k w w' o (record { end = e; entries = k + 1; owed = o + 1 })) (sym (q ∙ ap (λ (c : Unary). one c x) y))
        (record { skeleton = a; owing = b; ends = omega (arith, d.is x v); entered = refl; counted = refl });
  }

  pub decomposed_until : (m e : ℕ) → 12 ≤ get_or ops i 0 → Ends ops nums (i + 1) m → Ends ops nums m e → s' ≡ sets s (2 * k) (1 ∷ o ∷ []) → w' ≡ sets w (3 * o) (1 ∷ (i + 1) ∷ m ∷ [])
      → Decomposed ops nums i s s' k w w' o (record { end = e; entries = k + 1; owed = o + 1 })
  unfolding skeleton_cells skeleton_of obligations_of owed_cells entries size node_at
  decomposed_until m e h d d' a b = record {
    is = λ f sp z.
        let (u, l, r, t, q, v, v') = two_there ops nums i f sp (omega arith) in
        let y : u ≡ until = only_until u (subst (λ (n : ℕ). 12 ≤ n) (binary_number _ _ u t) h) in
        let n : m ≡ i + 1 + size l = d.is l v in
        let n' : e ≡ m + size r = d'.is r (subst (λ (j : ℕ). Spells (node_at ops nums) j r) (sym n) v') in
        subst (λ (c : Formula). SplitLaid c i s s' k w w' o (record { end = e; entries = k + 1; owed = o + 1 })) (sym (q ∙ ap (λ (c : Binary). two c l r) y))
        (record { skeleton = a; owing = b ∙ ap (λ (j : ℕ). sets w (3 * o) (1 ∷ (i + 1) ∷ j ∷ [])) n; ends = omega arith; entered = refl; counted = refl });
  }

  pub decomposed_two : (s₁ s₂ w₂ : List ℕ) (a : ℕ) (left r : Filled) → 9 ≤ get_or ops i 0 → get_or ops i 0 < 12 → a ≡ get_or ops i 0 → s₁ ≡ sets s (2 * k) (a ∷ 0 ∷ [])
      → Decomposed ops nums (i + 1) s₁ s₂ (k + 1) w w₂ o left → Decomposed ops nums left.end s₂ s' left.entries w₂ w' left.owed r → Decomposed ops nums i s s' k w w' o r
  unfolding size node_at
  decomposed_two s₁ s₂ w₂ a left r h n b e d d' = record {
    is = λ f sp z.
        let (u, x, y, t, q, v, v') = two_there ops nums i f sp h in
        let c : get_or ops i 0 ≡ number_of (two_of u) = binary_number _ _ u t in
        let few : number_of (two_of u) < 12 = subst (λ (m : ℕ). m < 12) c n in
        let (fx, fy) = append_nil_inv (faults x) (faults y) (sym (ap faults q ∙ faults_two u x y few) ∙ z) in
        let l = d.is x v fx in
        let m = d'.is y (subst (λ (j : ℕ). Spells (node_at ops nums) j y) (sym l.ends) v') fy in
        let j = joined u x y i o few in
        let cs = skeleton_cells (skeleton_of x (i + 1) o) in
        let ms : s' ≡ sets s₂ (2 * left.entries) (skeleton_cells (skeleton_of y (i + 1 + size x) (o + owes x (i + 1)))) =
        m.skeleton ∙ ap₂ (λ (p p' : ℕ). sets s₂ (2 * left.entries) (skeleton_cells (skeleton_of y p p'))) l.ends l.counted in
        let mw : w' ≡ sets w₂ (3 * left.owed) (owed_cells (obligations_of y (i + 1 + size x))) =
        m.owing ∙ ap (λ (p : ℕ). sets w₂ (3 * left.owed) (owed_cells (obligations_of y p))) l.ends in
        let one_step : s₂ ≡ sets s (2 * k) ((a ∷ 0 ∷ []) ++ cs) = sets_then s s₁ s₂ (a ∷ 0 ∷ []) cs (2 * k) (2 * (k + 1)) e l.skeleton (omega arith) in
        let all : s' ≡ sets s (2 * k) (((a ∷ 0 ∷ []) ++ cs) ++ skeleton_cells (skeleton_of y (i + 1 + size x) (o + owes x (i + 1)))) =
        sets_then s s₂ s' ((a ∷ 0 ∷ []) ++ cs) (skeleton_cells (skeleton_of y (i + 1 + size x) (o + owes x (i + 1)))) (2 * k) (2 * left.entries) one_step ms (omega (arith, l.entered, cells_length (skeleton_of x (i + 1) o))) in
        let me : entries (skeleton_of y left.end left.owed) ≡ entries (skeleton_of y (i + 1 + size x) (o + owes x (i + 1))) =
        ap₂ (λ (p p' : ℕ). entries (skeleton_of y p p')) l.ends l.counted in
        let mo : owes y left.end ≡ owes y (i + 1 + size x) = ap (λ (p : ℕ). owes y p) l.ends in
        subst (λ (p : Formula). SplitLaid p i s s' k w w' o r) (sym q)
        (record {
          skeleton = all ∙ ap (λ (p : ℕ). sets s (2 * k) ((p ∷ 0 ∷ []) ++ (cs ++ skeleton_cells (skeleton_of y (i + 1 + size x) (o + owes x (i + 1)))))) (b ∙ c) ∙ sym (ap (sets s (2 * k)) j.cells);
          owing = sets_then w w₂ w' (owed_cells (obligations_of x (i + 1))) (owed_cells (obligations_of y (i + 1 + size x))) (3 * o) (3 * left.owed) l.owing mw (omega (arith, l.counted, owed_length (obligations_of x (i + 1)))) ∙ sym (ap (sets w (3 * o)) (ap owed_cells j.owe ∙ owed_append (obligations_of x (i + 1)) (obligations_of y (i + 1 + size x))));
          ends = omega (arith, l.ends, m.ends);
          entered = omega (arith, l.entered, m.entered, me, j.count);
          counted = omega (arith, l.counted, m.counted, mo, ap length j.owe, length-append (obligations_of x (i + 1)) (obligations_of y (i + 1 + size x)));
        });
  }
