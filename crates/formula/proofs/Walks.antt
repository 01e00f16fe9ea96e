-- One step of a walk over a table, for each kind of token: from the walk's answers below a node to its answer there.
use mathlib.Core.Path.{◌≡◌, refl, sym, ap, ap₂, subst, ◌∙◌}
use mathlib.Core.Bool.{Bool, true, false, ◌&&◌}
use mathlib.Core.List.{List}
use Prim.Native.Nat.{ℕ, ◌+◌, ◌-◌, ◌≤◌, ◌<◌}
use native.Mathlib.Omega.{arith}
use native.Mathlib.Nat.{pos_of_ne-zero}
use borrow.Author.Tests.{le-leb, lt-leb}
use lib.ListN.{get_or}
use Rattle.formula.specs.Tree.{Tree, leaf, one, two, Token, leaf_of, one_of, two_of, unknown, size, depth, all}
use Rattle.formula.specs.Spells.{Spells}
use Rattle.formula.specs.Table.{node_at, in_word}
use Rattle.formula.specs.Walk.{Stands, Walked}
use Rattle.std.specs.Prelude.{None, Option, Some}
use Rattle.formula.proofs.Trees.{size_pos, spells_unique}
use Rattle.formula.proofs.Nodes.{spells_leaf, spells_one, spells_two, spells_unknown, node_leaf, node_one, node_two, node_unknown}

pub stuck_upto : {e : ℕ} {B : Type 0} → None ≡ Some e → B
stuck_upto h = let z : ◌≡◌ {A = ℕ} 0 1 = cc in absurd (omega arith)

pub upto_inj : {e f : ℕ} → Some e ≡ Some f → e ≡ f
upto_inj h = cc

pub both_true : (a b : Bool) → (a && b) ≡ true → (a ≡ true) × (b ≡ true)
both_true true true h = (refl, refl)
both_true true false h = (refl, h)
both_true false true h = (h, refl)
both_true false false h = (h, h)

module _ {L O T : Type 0} (tok : ℕ → Token L O T) (ok : L → Bool) (i end room : ℕ) where
  -- nothing fits: no tree within the limits stands here
  pub walk_none : ((e : ℕ) (t : Tree L O T) → Stands tok ok i end room e t → ⊥) → Walked tok ok i end room None
  walk_none h = record { found = λ e q. stuck_upto q; stuck = λ q. h }

  pub walk_past : end ≤ i → Walked tok ok i end room None
  walk_past h = walk_none (λ e t s. omega (arith, size_pos t))

  depth_pos : (t : Tree L O T) → 1 ≤ depth t
  unfolding depth
  depth_pos (leaf a) = omega arith
  depth_pos (one o t) = omega arith
  depth_pos (two o l r) = omega arith

  pub walk_flat : room ≡ 0 → Walked tok ok i end room None
  walk_flat h = walk_none (λ e t s. omega (arith, depth_pos t))

  pub walk_unknown : tok i ≡ unknown → Walked tok ok i end room None
  walk_unknown h = walk_none (λ e t s. spells_unknown tok i t h s.spells)

  pub walk_leaf : (a : L) → tok i ≡ leaf_of a → i < end → (room ≡ 0 → ⊥) → ok a ≡ true → Walked tok ok i end room (Some (i + 1))
  unfolding Spells size depth all
  walk_leaf a h j k g = record {
    found = λ e q. (leaf a, record { spells = h; ends = sym (upto_inj q); inside = subst (λ (n : ℕ). n ≤ end) (upto_inj q) (omega arith); shallow = pos_of_ne-zero k; good = g });
    stuck = λ q. stuck_upto (sym q);
  }

  pub walk_bad_leaf : (a : L) → tok i ≡ leaf_of a → ok a ≡ false → Walked tok ok i end room None
  unfolding all
  walk_bad_leaf a h g = walk_none λ e t s.
      let q : t ≡ leaf a = spells_leaf tok i a t h s.spells in
      let w : ok a ≡ true = sym (ap (all ok) q) ∙ s.good in
      let z : ◌≡◌ {A = Bool} true false = sym w ∙ g in
      let z' : ◌≡◌ {A = ℕ} 0 1 = cc in omega arith

  -- a tree with operands stands within the limits where its operands do, one level further down
  lift_one : (o : O) (e : ℕ) (t : Tree L O T) → 1 ≤ room → tok i ≡ one_of o → Stands tok ok (i + 1) end (room - 1) e t → Stands tok ok i end room e (one o t)
  unfolding Spells size depth all
  lift_one o e t k h s = record { spells = (h, s.spells); ends = omega arith; inside = s.inside; shallow = omega arith; good = s.good }

  drop_one : (o : O) (e : ℕ) (t : Tree L O T) → 1 ≤ room → Stands tok ok i end room e (one o t) → Stands tok ok (i + 1) end (room - 1) e t
  unfolding Spells size depth all
  drop_one o e t k s = record { spells = s.spells.1; ends = omega arith; inside = s.inside; shallow = omega arith; good = s.good }

  join_two : (o : T) (e f : ℕ) (l r : Tree L O T) → 1 ≤ room → tok i ≡ two_of o → Stands tok ok (i + 1) end (room - 1) e l → Stands tok ok e end (room - 1) f r → Stands tok ok i end room f (two o l r)
  unfolding Spells size depth all
  join_two o e f l r k h s u = record {
    spells = (h, s.spells, subst (λ (n : ℕ). Spells tok n r) s.ends u.spells);
    ends = omega arith;
    inside = u.inside;
    shallow = omega arith;
    good = ap₂ ◌&&◌ s.good u.good;
  }

  left_of : (o : T) (f : ℕ) (l r : Tree L O T) → 1 ≤ room → Stands tok ok i end room f (two o l r) → Stands tok ok (i + 1) end (room - 1) (i + 1 + size l) l
  unfolding Spells size depth all
  left_of o f l r k s = record { spells = s.spells.1; ends = refl; inside = omega arith; shallow = omega arith; good = (both_true (all ok l) (all ok r) s.good).0 }

  right_of : (o : T) (f : ℕ) (l r : Tree L O T) → 1 ≤ room → Stands tok ok i end room f (two o l r) → Stands tok ok (i + 1 + size l) end (room - 1) f r
  unfolding Spells size depth all
  right_of o f l r k s = record { spells = s.spells.2; ends = omega arith; inside = s.inside; shallow = omega arith; good = (both_true (all ok l) (all ok r) s.good).1 }

  module _ (left : Option ℕ) (below : Walked tok ok (i + 1) end (room - 1) left) (deep : room ≡ 0 → ⊥) where
    pub walk_one : (o : O) → tok i ≡ one_of o → Walked tok ok i end room left
    walk_one o h = record {
      found = λ e q. let (t, s) = below.found e q in (one o t, lift_one o e t (pos_of_ne-zero deep) h s);
      stuck = λ q e t s.
          let (u, w, p) = spells_one tok i o t h s.spells in
          below.stuck q e u (drop_one o e u (pos_of_ne-zero deep) (subst (Stands tok ok i end room e) w s));
    }

    pub walk_left : (o : T) (r : Option ℕ) → tok i ≡ two_of o → left ≡ None → r ≡ None → Walked tok ok i end room r
    walk_left o r h q z = record {
      found = λ e p. stuck_upto (sym z ∙ p);
      stuck = λ _ e t s.
          let (l, m, w, a, b) = spells_two tok i o t h s.spells in
          below.stuck q (i + 1 + size l) l (left_of o e l m (pos_of_ne-zero deep) (subst (Stands tok ok i end room e) w s));
    }

    pub walk_two : (o : T) (e : ℕ) (right : Option ℕ) → tok i ≡ two_of o → left ≡ Some e → Walked tok ok e end (room - 1) right → Walked tok ok i end room right
    walk_two o e right h q w =
        let (l, s) = below.found e q in
        record {
          found = λ f p. let (r, u) = w.found f p in (two o l r, join_two o e f l r (pos_of_ne-zero deep) h s u);
          stuck = λ p f t u.
              let (l', r', v, a, b) = spells_two tok i o t h u.spells in
              let m : l ≡ l' = spells_unique tok (i + 1) l l' s.spells a in
              let u' : Stands tok ok i end room f (two o l' r') = subst (Stands tok ok i end room f) v u in
              w.stuck p f r' (subst (λ (n : ℕ). Stands tok ok n end (room - 1) f r') (sym (s.ends ∙ ap (λ (x : Tree L O T). i + 1 + size x) m)) (right_of o f l' r' (pos_of_ne-zero deep) u'));
        }

-- ---- the same for a formula table, from the tests of an operation's number
module _ (ops nums : List ℕ) (i end room : ℕ) where
  pub at_unknown : 13 ≤ get_or ops i 0 → Walked (node_at ops nums) in_word i end room None
  unfolding node_at
  at_unknown h = walk_unknown (node_at ops nums) in_word i end room (node_unknown (get_or ops i 0) (get_or nums i 0) h)

  pub at_atom : i < end → (room ≡ 0 → ⊥) → get_or ops i 0 < 3 → get_or nums i 0 < 64 → Walked (node_at ops nums) in_word i end room (Some (i + 1))
  unfolding node_at
  at_atom j k h g =
      let (a, e, n) = node_leaf (get_or ops i 0) (get_or nums i 0) h in
      walk_leaf (node_at ops nums) in_word i end room a e j k (le-leb _ _ (subst (λ (m : ℕ). m ≤ 63) (sym n) (omega arith)))

  pub at_large : get_or ops i 0 < 3 → 64 ≤ get_or nums i 0 → Walked (node_at ops nums) in_word i end room None
  unfolding node_at
  at_large h g =
      let (a, e, n) = node_leaf (get_or ops i 0) (get_or nums i 0) h in
      walk_bad_leaf (node_at ops nums) in_word i end room a e (lt-leb _ _ (subst (λ (m : ℕ). 63 < m) (sym n) g))

  module _ (left : Option ℕ) (low : 3 ≤ get_or ops i 0) (below : Walked (node_at ops nums) in_word (i + 1) end (room - 1) left) (deep : room ≡ 0 → ⊥) where
    pub at_one : get_or ops i 0 < 9 → Walked (node_at ops nums) in_word i end room left
    unfolding node_at
    at_one h =
        let (o, e) = node_one (get_or ops i 0) (get_or nums i 0) low h in
        walk_one (node_at ops nums) in_word i end room left below deep o e

    pub at_left : (r : Option ℕ) → 9 ≤ get_or ops i 0 → get_or ops i 0 < 13 → left ≡ None → r ≡ None → Walked (node_at ops nums) in_word i end room r
    unfolding node_at
    at_left r g h q z =
        let (o, e) = node_two (get_or ops i 0) (get_or nums i 0) g h in
        walk_left (node_at ops nums) in_word i end room left below deep o r e q z

    pub at_two : (e : ℕ) (right : Option ℕ) → 9 ≤ get_or ops i 0 → get_or ops i 0 < 13 → left ≡ Some e → Walked (node_at ops nums) in_word e end (room - 1) right
        → Walked (node_at ops nums) in_word i end room right
    unfolding node_at
    at_two e right g h q w =
        let (o, p) = node_two (get_or ops i 0) (get_or nums i 0) g h in
        walk_two (node_at ops nums) in_word i end room left below deep o e right p q w

-- a tree found below a place ends past it
pub ends_past : {L O T : Type 0} (tok : ℕ → Token L O T) (ok : L → Bool) (i end room e : ℕ) (r : Option ℕ) → Walked tok ok i end room r → r ≡ Some e → (i < e) × (e ≤ end)
ends_past tok ok i end room e r w q = let (t, s) = w.found e q in omega (arith, size_pos t)

pub falls_past : {L O T : Type 0} (tok : ℕ → Token L O T) (ok : L → Bool) (i end room e t : ℕ) (r : Option ℕ) → Walked tok ok (i + 1) end room r → r ≡ Some e → i < end → end - i ≡ t → end - e < t
falls_past tok ok i end room e t r w q h m = omega (arith, ends_past tok ok (i + 1) end room e r w q)
