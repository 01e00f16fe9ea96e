-- A row's line, and the lines of all rows of a compiled rule.
use mathlib.Core.Path.{◌≡◌, refl, sym, ap, ap₂, subst, ◌∙◌}
use mathlib.Core.List.{List, [], ◌∷◌, ◌++◌}
use mathlib.Core.Option.{Option, none, some}
use Prim.Native.Nat.{ℕ, zero, suc, ◌+◌, ◌*◌, ◌≤◌, ◌<◌}
use native.Mathlib.Omega.{arith}
use native.Mathlib.Numerals.{add-one}
use native.Mathlib.Nat.{add-zero}
use lib.ListN.{length}
use Rattle.formula.specs.Tree.{Tree, leaf, one, two, Token, leaf_of, one_of, two_of, unknown, size, prefix}
use Rattle.formula.specs.Spells.{run}
use Rattle.formula.specs.Formula.{Formula}
use Rattle.formula.specs.Table.{Rule, rule_of}
use Rattle.formula.proofs.Trees.{some_inj, prefix_length, spells_run}
use Rattle.formula.proofs.Nodes.{known_at}
use Rattle.formula.proofs.Rules.{rule_inv}
use Rattle.monitor.specs.declared.node.SignalExpr.{SignalExpr}
use Rattle.monitor.specs.declared.node.SignalExpr.TheVariants.{True, At}
use Rattle.monitor.specs.declared.node.MonNode.{MonNode}
use Rattle.monitor.specs.declared.node.MonNode.TheVariants.{RangeCheck, DelayedCheck, Obligation, And as AndNode, Or as OrNode}
use Rattle.std.specs.Prelude.{None, Option as Opt, Some}
use Rattle.monitor.specs.Mon.{Signal, always_true, Check, range_check, delayed_check, obligation, Mon, count, expr_of}
use Rattle.monitor.specs.Table.{row_of, signal_of, Never, Join, join_and, join_or, Cell, checked, cell_of, cell_by, cells, from_tree, compiled_of}
use Rattle.monitor.proofs.Signals.{signal_inv}
use Rattle.monitor.proofs.HeldTree.{held_inv}
use Rattle.text.specs.Tape.{Tape, Wrote, joined}
use Rattle.text.proofs.Tapes.{as_text, append-nil, joined_append, nothing, then}
use Rattle.listing_line.specs.Node.{join_fields, line_of, node_lines, cell_line, SignalReady, NodeReady, SignalStands, NodeWrote}
use Rattle.listing_nodes.specs.Rows.{cell_lines, Compiled, NodesWrote}

-- ---- the tokens of a tree are known
abbrev KnownToken : {L O T : Type 0} → Token L O T → Type 0
KnownToken (leaf_of a) = Unit
KnownToken (one_of o) = Unit
KnownToken (two_of o) = Unit
KnownToken unknown = ⊥

known_token : {L O T : Type 0} (t : Token L O T) → (t ≡ unknown → ⊥) → KnownToken t
known_token (leaf_of a) h = tt
known_token (one_of o) h = tt
known_token (two_of o) h = tt
known_token unknown h = h refl

-- ---- the signal that a row names
pub record Naming (ops nums : List ℕ) (e : SignalExpr) (s : Signal) : Type 0 where
  pub is : e ≡ expr_of s
  pub stands : SignalStands ops nums s
  pub ready : SignalReady ops nums e

module _ (ops nums : List ℕ) (first n : ℕ) (f : Formula) (u : Rule ops nums first n f) where
  named : (e : SignalExpr) (s : Signal) → signal_of f first e ≡ some s → Naming ops nums e s
  named True s h =
      let z : always_true ≡ s = some_inj h in
      record { is = ap expr_of z; stands = subst (SignalStands ops nums) z tt; ready = tt }
  named (At p) s h =
      let (g, e, x) = signal_inv ops nums first n f u p s h in
      record {
        is = sym (ap expr_of e);
        stands = subst (SignalStands ops nums) (sym e) x.spells;
        ready = record {
          place = record { formula = g; spells = x.spells; in_ops = x.in_ops; in_nums = x.in_nums };
          is_pure = x.is_pure;
        };
      }

  -- ---- the line of a row
  row_line : (k : ℕ) (m : MonNode) (b c : Tape) → KnownToken (cell_of f first (Some m)) → NodeWrote ops nums k m b c → Wrote b (cell_line k (cell_of f first (Some m))) c
  unfolding cell_line
  row_line k (RangeCheck s r) b c g w = go (signal_of f first s) refl g
    where
      go :
          (o : Option Signal) → signal_of f first s ≡ o → KnownToken (checked (λ x. leaf_of (range_check x r)) o)
          → Wrote b (cell_line k (checked (λ x. leaf_of (range_check x r)) o)) c
      go none q g = absurd g
      go (some x) q g =
          let y = named s x q in
          w.of_check (range_check x r) (ap (λ (z : SignalExpr). RangeCheck z r) y.is) (y.stands, y.stands)
  row_line k (DelayedCheck s t r) b c g w = go (signal_of f first s) (signal_of f first t) refl refl g
    where
      go :
          (o p : Option Signal) → signal_of f first s ≡ o → signal_of f first t ≡ p
          → KnownToken (checked (λ x. checked (λ y. leaf_of (delayed_check x y r)) p) o)
          → Wrote b (cell_line k (checked (λ x. checked (λ y. leaf_of (delayed_check x y r)) p) o)) c
      go none p q q' g = absurd g
      go (some x) none q q' g = absurd g
      go (some x) (some x') q q' g =
          let y = named s x q in
          let y' = named t x' q' in
          w.of_check (delayed_check x x' r) (ap₂ (λ (z z' : SignalExpr). DelayedCheck z z' r) y.is y'.is) (y.stands, y'.stands)
  row_line k (Obligation m s t r) b c g w = go (signal_of f first s) (signal_of f first t) refl refl g
    where
      go :
          (o p : Option Signal) → signal_of f first s ≡ o → signal_of f first t ≡ p
          → KnownToken (checked (λ x. checked (λ y. leaf_of (obligation m x y r)) p) o)
          → Wrote b (cell_line k (checked (λ x. checked (λ y. leaf_of (obligation m x y r)) p) o)) c
      go none p q q' g = absurd g
      go (some x) none q q' g = absurd g
      go (some x) (some x') q q' g =
          let y = named s x q in
          let y' = named t x' q' in
          w.of_check (obligation m x x' r) (ap₂ (λ (z z' : SignalExpr). Obligation m z z' r) y.is y'.is) (y.stands, y'.stands)
  row_line k AndNode b c g w = w.of_and refl
  row_line k OrNode b c g w = w.of_or refl

  row_ready : (m : MonNode) → KnownToken (cell_of f first (Some m)) → NodeReady ops nums m
  row_ready (RangeCheck s r) g = go (signal_of f first s) refl g
    where
      go : (o : Option Signal) → signal_of f first s ≡ o → KnownToken (checked (λ x. leaf_of (range_check x r)) o) → NodeReady ops nums (RangeCheck s r)
      go none q g = absurd g
      go (some x) q g = ((named s x q).ready, (named s x q).ready)
  row_ready (DelayedCheck s t r) g = go (signal_of f first s) (signal_of f first t) refl refl g
    where
      go :
          (o p : Option Signal) → signal_of f first s ≡ o → signal_of f first t ≡ p
          → KnownToken (checked (λ x. checked (λ y. leaf_of (delayed_check x y r)) p) o) → NodeReady ops nums (DelayedCheck s t r)
      go none p q q' g = absurd g
      go (some x) none q q' g = absurd g
      go (some x) (some x') q q' g = ((named s x q).ready, (named t x' q').ready)
  row_ready (Obligation m s t r) g = go (signal_of f first s) (signal_of f first t) refl refl g
    where
      go :
          (o p : Option Signal) → signal_of f first s ≡ o → signal_of f first t ≡ p
          → KnownToken (checked (λ x. checked (λ y. leaf_of (obligation m x y r)) p) o) → NodeReady ops nums (Obligation m s t r)
      go none p q q' g = absurd g
      go (some x) none q q' g = absurd g
      go (some x) (some x') q q' g = ((named s x q).ready, (named t x' q').ready)
  row_ready AndNode g = (tt, tt)
  row_ready OrNode g = (tt, tt)

-- ---- the lines of a tree
lines_append : (s t : List Cell) (k : ℕ) → cell_lines (s ++ t) k ≡ cell_lines s k ++ cell_lines t (k + length s)
unfolding cell_lines
lines_append [] t k = ap (cell_lines t) (sym (add-zero k))
lines_append (c ∷ s) t k =
    let e : k + 1 + length s ≡ k + suc (length s) = omega arith in
    ap (cell_line k c ∷◌) (lines_append s t (k + 1) ∙ ap (λ (n : ℕ). cell_lines s (k + 1) ++ cell_lines t n) e)

count_size : (t : Tree Check Never Join) → count (from_tree t) ≡ size t
unfolding count from_tree size
count_size (leaf c) = refl
count_size (one n t) = elim n [ ]
count_size (two join_and l r) = ap₂ (λ (x y : ℕ). 1 + x + y) (count_size l) (count_size r)
count_size (two join_or l r) = ap₂ (λ (x y : ℕ). 1 + x + y) (count_size l) (count_size r)

joined_lines :
    (l r : Tree Check Never Join) (k : ℕ) → cell_lines (prefix l) (k + 1) ≡ node_lines (from_tree l) (k + 1)
    → ((j : ℕ) → cell_lines (prefix r) j ≡ node_lines (from_tree r) j)
    → cell_lines (prefix l ++ prefix r) (k + 1) ≡ node_lines (from_tree l) (k + 1) ++ node_lines (from_tree r) (k + 1 + count (from_tree l))
joined_lines l r k p q =
    let n : length (prefix l) ≡ count (from_tree l) = prefix_length l ∙ sym (count_size l) in
    lines_append (prefix l) (prefix r) (k + 1) ∙ ap₂ ◌++◌ p (ap (λ (j : ℕ). cell_lines (prefix r) (k + 1 + j)) n ∙ q (k + 1 + count (from_tree l)))

tree_lines : (t : Tree Check Never Join) (k : ℕ) → cell_lines (prefix t) k ≡ node_lines (from_tree t) k
unfolding cell_lines cell_line node_lines from_tree prefix
tree_lines (leaf c) k = refl
tree_lines (one n t) k = elim n [ ]
tree_lines (two join_and l r) k = ap (line_of k (join_fields 65) ∷◌) (joined_lines l r k (tree_lines l (k + 1)) (tree_lines r))
tree_lines (two join_or l r) k = ap (line_of k (join_fields 79) ∷◌) (joined_lines l r k (tree_lines l (k + 1)) (tree_lines r))

-- ---- the rows one behind the other
run_snoc : {L O T : Type 0} (tok : ℕ → Token L O T) (i k : ℕ) → run tok i (suc k) ≡ run tok i k ++ tok (i + k) ∷ []
unfolding run
run_snoc tok i zero = ap (λ (n : ℕ). tok n ∷ []) (sym (add-zero i))
run_snoc tok i (suc k) =
    let e : i + 1 + k ≡ i + suc k = omega arith in
    ap (tok i ∷◌) (run_snoc tok (i + 1) k ∙ ap (λ (n : ℕ). run tok (i + 1) k ++ tok n ∷ []) e)

run_length : {L O T : Type 0} (tok : ℕ → Token L O T) (i k : ℕ) → length (run tok i k) ≡ k
unfolding run
run_length tok i zero = refl
run_length tok i (suc k) = ap suc (run_length tok (i + 1) k)

abbrev sofar : (ℕ → Cell) → ℕ → ℕ → List ℕ
sofar tok i k = joined (cell_lines (run tok i k) 0)

sofar_next : (tok : ℕ → Cell) (i k : ℕ) → sofar tok i (k + 1) ≡ sofar tok i k ++ cell_line k (tok (i + k))
unfolding cell_lines joined
sofar_next tok i k =
    let e : run tok i (k + 1) ≡ run tok i k ++ tok (i + k) ∷ [] = ap (run tok i) (add-one k) ∙ run_snoc tok i k in
    let n : 0 + length (run tok i k) ≡ k = omega (arith, run_length tok i k) in
    ap (λ (l : List Cell). joined (cell_lines l 0)) e
    ∙ ap joined (lines_append (run tok i k) (tok (i + k) ∷ []) 0)
    ∙ joined_append (cell_lines (run tok i k) 0) (cell_lines (tok (i + k) ∷ []) (0 + length (run tok i k)))
    ∙ ap (λ (j : ℕ). sofar tok i k ++ (cell_line j (tok (i + k)) ++ [])) n
    ∙ ap (λ (l : List ℕ). sofar tok i k ++ l) (append-nil (cell_line k (tok (i + k))))

-- ---- the loop: k rows are written
pub record Noded (ops nums nodes : List ℕ) (nfirst ncount k : ℕ) (a b : Tape) : Type 0 where
  pub high : k ≤ ncount
  pub wrote : (first n : ℕ) (m : Mon) → compiled_of ops nums first n nodes nfirst ncount ≡ some m → Wrote a (sofar (cells ops nums first n nodes) nfirst k) b

module _ (ops nums nodes : List ℕ) (nfirst ncount : ℕ) where
  pub noded_first : (a : Tape) → Noded ops nums nodes nfirst ncount 0 a a
  unfolding run cell_lines joined
  noded_first a = record { high = omega arith; wrote = λ first n m e. nothing a }

  pub row_inside : (k : ℕ) → Compiled ops nums nodes nfirst ncount → k < ncount → 7 * (nfirst + k + 1) ≤ length nodes
  row_inside k g h =
      let (f, t, x, y) = held_inv ops nums g.first g.count nodes nfirst ncount g.mon g.is in
      omega (arith, x.in_nodes)

  module _ (k : ℕ) (row : Opt MonNode) (h : k < ncount) (r : row ≡ row_of nodes (nfirst + k)) where
    -- what stands in the row, for a rule that the tables hold
    is_cell : (first n : ℕ) (f : Formula) → rule_of ops nums first n ≡ some f → cells ops nums first n nodes (nfirst + k) ≡ cell_of f first row
    unfolding cells
    is_cell first n f e = ap₂ (λ (o : Option Formula) (x : Opt MonNode). cell_by o first x) e (sym r)

    known_row :
        (first n : ℕ) (m : Mon) → compiled_of ops nums first n nodes nfirst ncount ≡ some m
        → (f : Formula) × Rule ops nums first n f × (cells ops nums first n nodes (nfirst + k) ≡ cell_of f first row) × KnownToken (cell_of f first row)
    known_row first n m e =
        let (f, t, x, y) = held_inv ops nums first n nodes nfirst ncount m e in
        let c = is_cell first n f x.rule in
        (f, rule_inv ops nums first n f x.rule, c, subst KnownToken c (known_token _ (known_at (cells ops nums first n nodes) nfirst t k x.spells (omega (arith, x.covers)))))

    pub noded_unknown : (a b : Tape) → row ≡ None → NodesWrote ops nums nodes nfirst ncount a b
    noded_unknown a b q = record {
      is = λ first n m e.
          let (f, u, c, g) = known_row first n m e in
          absurd (subst (λ (x : Opt MonNode). KnownToken (cell_of f first x)) q g);
    }

    module _ (node : MonNode) (q : row ≡ Some node) where
      pub noded_ready : Compiled ops nums nodes nfirst ncount → NodeReady ops nums node
      noded_ready g =
          let (f, u, c, x) = known_row g.first g.count g.mon g.is in
          row_ready ops nums g.first g.count f u node (subst (λ (y : Opt MonNode). KnownToken (cell_of f g.first y)) q x)

      pub noded_next : (a b c : Tape) → Noded ops nums nodes nfirst ncount k a b → NodeWrote ops nums k node b c → Noded ops nums nodes nfirst ncount (k + 1) a c
      noded_next a b c s w = record {
        high = omega arith;
        wrote = λ first n m e.
            let (f, u, z, g) = known_row first n m e in
            let l : Wrote b (cell_line k (cell_of f first (Some node))) c = row_line ops nums first n f u k node b c (subst (λ (y : Opt MonNode). KnownToken (cell_of f first y)) q g) w in
            let d : cell_line k (cells ops nums first n nodes (nfirst + k)) ≡ cell_line k (cell_of f first (Some node)) = ap (cell_line k) (z ∙ ap (cell_of f first) q) in
            as_text a c (sofar_next (cells ops nums first n nodes) nfirst k) (then (s.wrote first n m e) (as_text b c d l));
      }

  pub noded_all : (k : ℕ) (a b : Tape) → Noded ops nums nodes nfirst ncount k a b → ncount ≤ k → NodesWrote ops nums nodes nfirst ncount a b
  noded_all k a b s h = record {
    is = λ first n m e.
        let (f, t, x, y) = held_inv ops nums first n nodes nfirst ncount m e in
        let tok : ℕ → Cell = cells ops nums first n nodes in
        let z : k ≡ size t = omega (arith, s.high, x.covers) in
        let d : sofar tok nfirst k ≡ joined (node_lines m 0) =
        ap (sofar tok nfirst) z ∙ ap (λ (l : List Cell). joined (cell_lines l 0)) (spells_run tok nfirst t x.spells) ∙ ap joined (tree_lines t 0 ∙ ap (λ (v : Mon). node_lines v 0) (sym y)) in
        as_text a b (sym d) (s.wrote first n m e);
  }
