-- The signals of a node that shows a cell are signals: what the check finds alone only with all of its limits.
use mathlib.Core.Path.{◌≡◌, refl, ap, ap₂}
use mathlib.Core.List.{List}
use Prim.Native.Nat.{ℕ}
use native.Mathlib.Omega.{arith}
use Rattle.formula.specs.Tree.{leaf_of, one_of, two_of, unknown}
use Rattle.monitor.specs.declared.range.AnchorRange.{AnchorRange}
use Rattle.monitor.specs.declared.node.SignalExpr.{SignalExpr}
use Rattle.monitor.specs.declared.node.MonNode.{MonNode}
use Rattle.monitor.specs.declared.node.MonNode.TheVariants.{DelayedCheck, Obligation}
use Rattle.std.specs.Prelude.{Some}
use Rattle.monitor.specs.Mon.{Signal, range_check, delayed_check, obligation}
use Rattle.monitor.specs.Table.{Cell, join_and, join_or}
use Rattle.alike.specs.Signs.{Means, IsMeant}
use Rattle.alike.specs.Rows.{Shows, IsShown}

-- ---- the cell that a node shows
module _ (ops nums : List ℕ) (m : MonNode) where
  is_delayed : (s t : SignalExpr) (r : AnchorRange) → m ≡ DelayedCheck s t r → (c : Cell) → Shows ops nums (Some m) c
      → (x : Signal) × (y : Signal) × (c ≡ leaf_of (delayed_check x y r)) × Means ops nums s x × Means ops nums t y
  is_delayed s t r e (leaf_of (range_check x q)) h = let i = h.is in let z : ◌≡◌ {A = ℕ} 0 1 = cc in absurd (omega arith)
  is_delayed s t r e (leaf_of (delayed_check x y q)) h =
      let i = h.is in
      let j : q ≡ r = cc in
      (x, y, ap (λ (w : AnchorRange). leaf_of (delayed_check x y w)) j, record { is = cc; sound = h.sound.0 }, record { is = cc; sound = h.sound.1 })
  is_delayed s t r e (leaf_of (obligation b x y q)) h = let i = h.is in let z : ◌≡◌ {A = ℕ} 0 1 = cc in absurd (omega arith)
  is_delayed s t r e (one_of n) h = elim n [ ]
  is_delayed s t r e (two_of join_and) h = let i = h.is in let z : ◌≡◌ {A = ℕ} 0 1 = cc in absurd (omega arith)
  is_delayed s t r e (two_of join_or) h = let i = h.is in let z : ◌≡◌ {A = ℕ} 0 1 = cc in absurd (omega arith)
  is_delayed s t r e unknown h = absurd (h.known refl)

  is_owed : (k : ℕ) (s t : SignalExpr) (r : AnchorRange) → m ≡ Obligation k s t r → (c : Cell) → Shows ops nums (Some m) c
      → (x : Signal) × (y : Signal) × (c ≡ leaf_of (obligation k x y r)) × Means ops nums s x × Means ops nums t y
  is_owed k s t r e (leaf_of (range_check x q)) h = let i = h.is in let z : ◌≡◌ {A = ℕ} 0 1 = cc in absurd (omega arith)
  is_owed k s t r e (leaf_of (delayed_check x y q)) h = let i = h.is in let z : ◌≡◌ {A = ℕ} 0 1 = cc in absurd (omega arith)
  is_owed k s t r e (leaf_of (obligation b x y q)) h =
      let i = h.is in
      let j : q ≡ r = cc in
      let l : b ≡ k = cc in
      (x, y, ap₂ (λ (n : ℕ) (w : AnchorRange). leaf_of (obligation n x y w)) l j, record { is = cc; sound = h.sound.0 }, record { is = cc; sound = h.sound.1 })
  is_owed k s t r e (one_of n) h = elim n [ ]
  is_owed k s t r e (two_of join_and) h = let i = h.is in let z : ◌≡◌ {A = ℕ} 0 1 = cc in absurd (omega arith)
  is_owed k s t r e (two_of join_or) h = let i = h.is in let z : ◌≡◌ {A = ℕ} 0 1 = cc in absurd (omega arith)
  is_owed k s t r e unknown h = absurd (h.known refl)

  -- ---- its signals are signals
  module _ (u : IsShown ops nums (Some m)) where
    pub delayed_meant_second : (s t : SignalExpr) (r : AnchorRange) → m ≡ DelayedCheck s t r → IsMeant ops nums t
    delayed_meant_second s t r e = let (x, y, i, p, q) = is_delayed s t r e u.cell u.shows in record { signal = y; means = q }

    pub owed_meant : (k : ℕ) (s t : SignalExpr) (r : AnchorRange) → m ≡ Obligation k s t r → IsMeant ops nums s
    owed_meant k s t r e = let (x, y, i, p, q) = is_owed k s t r e u.cell u.shows in record { signal = x; means = p }

    pub owed_meant_second : (k : ℕ) (s t : SignalExpr) (r : AnchorRange) → m ≡ Obligation k s t r → IsMeant ops nums t
    owed_meant_second k s t r e = let (x, y, i, p, q) = is_owed k s t r e u.cell u.shows in record { signal = y; means = q }
