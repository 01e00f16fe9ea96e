-- What each node adds to the text, and the text of a whole formula.
use mathlib.Core.Path.{◌≡◌, refl, sym, ap, ap₂, subst, ◌∙◌}
use mathlib.Core.Bool.{Bool, true, false}
use mathlib.Core.List.{List, [], ◌∷◌, ◌++◌, append_assoc}
use mathlib.Core.Logic.{⊎_elim}
use Prim.Native.Nat.{ℕ, zero, suc, ◌+◌, ◌-◌, ◌≤◌, ◌<◌}
use native.Mathlib.Omega.{arith}
use native.Mathlib.Nat.{add-zero}
use lib.ListN.{length, get_or}
use Rattle.number.proofs.Numbers.{below_or}
use Rattle.formula.specs.Tree.{leaf, one, two, leaf_of, one_of, two_of, size, prefix}
use Rattle.formula.specs.Spells.{run}
use Rattle.formula.specs.Formula.{Formula, Node, node, not, next, always, eventually, always_for, within, and, or, implies, until}
use Rattle.formula.specs.Table.{node_at}
use Rattle.formula.specs.Pure.{pure}
use Rattle.formula.specs.Signal.{end_if, Purely}
use Rattle.formula.specs.Text.{Sign, sign, signs_by}
use Rattle.std.specs.Prelude.{None, Option, Some}
use Rattle.formula.proofs.Trees.{spells_run, spells_unique}
use Rattle.formula.proofs.Nodes.{node_unknown}
use Rattle.formula.proofs.Walks.{both_true, stuck_upto, upto_inj}
use Rattle.formula.proofs.Cases.{true_false}
use Rattle.number.specs.Digits.{decimal}
use Rattle.text.specs.Tape.{Tape, Wrote}
use Rattle.text.proofs.Tapes.{as_text, append-nil, nothing, then}
use Rattle.spelling.specs.Spelling.{spell, spelled, implies_as, formula_text}
use Rattle.spelling.specs.Scan.{letter, node_text, run_text, Pure, Inside, Spelled}

-- ---- one node
number_below : (P : ℕ → Type 0) (k : ℕ) (op : ℕ) → op < suc k → (op < k → P op) → P k → P op
number_below P k op h f p = ⊎_elim f (λ (q : k ≤ op). subst P (omega arith) p) (below_or op k)

module _ (n : ℕ) (owing : Bool) where
  atom_text : (op : ℕ) → op < 3 → node_text owing (node op n) ≡ letter op ∷ decimal n
  unfolding node_text node spelled
  atom_text op h = number_below (λ (x : ℕ). node_text owing (node x n) ≡ letter x ∷ decimal n) 2 op h
      (λ q. number_below (λ (x : ℕ). node_text owing (node x n) ≡ letter x ∷ decimal n) 1 op q
      (λ r. number_below (λ (x : ℕ). node_text owing (node x n) ≡ letter x ∷ decimal n) 0 op r (λ s. absurd (omega arith)) (ap (118 ∷◌) (append-nil (decimal n)))) (ap (105 ∷◌) (append-nil (decimal n)))) (ap (111 ∷◌) (append-nil (decimal n)))

  word_is : (k op : ℕ) → k ≤ op → op < k + 1 → op ≡ k
  word_is k op h q = omega arith

  module _ (op : ℕ) (a b : Tape) where
    pub word_atom : (c : Tape) → op < 3 → Wrote a (letter op ∷ []) c → Wrote c (decimal n) b → Wrote a (node_text owing (node op n)) b
    word_atom c h w v = as_text a b (atom_text op h) (then w v)

    at_word : (k : ℕ) (s : List ℕ) → op ≡ k → node_text owing (node k n) ≡ s → Wrote a s b → Wrote a (node_text owing (node op n)) b
    at_word k s e f w = as_text a b (ap (λ (x : ℕ). node_text owing (node x n)) e ∙ f) w

    pub word_not : 3 ≤ op → op < 4 → Wrote a (33 ∷ []) b → Wrote a (node_text owing (node op n)) b
    unfolding node_text node spelled
    word_not h k w = at_word 3 (33 ∷ []) (omega arith) refl w

    pub word_and : 9 ≤ op → op < 10 → Wrote a (38 ∷ []) b → Wrote a (node_text owing (node op n)) b
    unfolding node_text node spelled
    word_and h k w = at_word 9 (38 ∷ []) (omega arith) refl w

    pub word_or : 10 ≤ op → op < 11 → Wrote a (124 ∷ []) b → Wrote a (node_text owing (node op n)) b
    unfolding node_text node spelled
    word_or h k w = at_word 10 (124 ∷ []) (omega arith) refl w

    pub word_owing : 11 ≤ op → op < 12 → owing ≡ true → Wrote a (62 ∷ []) b → Wrote a (node_text owing (node op n)) b
    unfolding node_text node spelled
    word_owing h k o w = at_word 11 (62 ∷ []) (omega arith) (ap (λ (t : Bool). spelled (implies_as t)) o) w

    pub word_implies : (c : Tape) → 11 ≤ op → op < 12 → owing ≡ false → Wrote a (124 ∷ []) c → Wrote c (33 ∷ []) b → Wrote a (node_text owing (node op n)) b
    unfolding node_text node spelled
    word_implies c h k o w v = at_word 11 (124 ∷ 33 ∷ []) (omega arith) (ap (λ (t : Bool). spelled (implies_as t)) o) (then w v)

  module _ (op : ℕ) (a : Tape) where
    pub word_none : 4 ≤ op → op < 9 → Wrote a (node_text owing (node op n)) a
    unfolding node_text node spelled
    word_none h k = as_text a a (number_below (λ (x : ℕ). node_text owing (node x n) ≡ []) 8 op k
        (λ q. number_below (λ (x : ℕ). node_text owing (node x n) ≡ []) 7 op q
        (λ q. number_below (λ (x : ℕ). node_text owing (node x n) ≡ []) 6 op q
        (λ q. number_below (λ (x : ℕ). node_text owing (node x n) ≡ []) 5 op q
        (λ q. number_below (λ (x : ℕ). node_text owing (node x n) ≡ []) 4 op q (λ s. absurd (omega arith)) refl) refl) refl) refl) refl) (nothing a)

    pub word_past : 12 ≤ op → Wrote a (node_text owing (node op n)) a
    unfolding node_text node spelled
    word_past h = as_text a a (⊎_elim
        (λ (k : op < 13). ap (λ (x : ℕ). node_text owing (node x n)) (word_is 12 op h k))
        (λ (k : 13 ≤ op). ap (node_text owing) (node_unknown op n k))
        (below_or op 13)) (nothing a)

-- ---- a whole formula
pub spelled_append : (s t : List Sign) → spelled (s ++ t) ≡ spelled s ++ spelled t
unfolding spelled
spelled_append [] t = refl
spelled_append (x ∷ s) t = ap (λ (y : List ℕ). spell x ++ y) (spelled_append s t) ∙ sym (append_assoc (spell x) (spelled s) (spelled t))

run_append : (owing : Bool) (s t : List Node) → run_text owing (s ++ t) ≡ run_text owing s ++ run_text owing t
unfolding run_text
run_append owing [] t = refl
run_append owing (x ∷ s) t = ap (λ (y : List ℕ). node_text owing x ++ y) (run_append owing s t) ∙ sym (append_assoc (node_text owing x) (run_text owing s) (run_text owing t))

one_more :
    (owing : Bool) (f : Formula) (b : ℕ) (t : Node) (s : List Sign) → node_text owing t ≡ b ∷ [] → run_text owing (prefix f) ≡ spelled s
    → node_text owing t ++ run_text owing (prefix f) ≡ spelled (sign b ∷ s)
unfolding spelled
one_more owing f b t s p q = rw (p, q) refl

two_more :
    (owing : Bool) (imp : List Sign) (l r : Formula) (t : Node) (u v : List Sign) → node_text owing t ≡ spelled imp
    → run_text owing (prefix l) ≡ spelled u → run_text owing (prefix r) ≡ spelled v
    → node_text owing t ++ run_text owing (prefix l ++ prefix r) ≡ spelled (imp ++ u ++ v)
two_more owing imp l r t u v p q w =
    ap₂ ◌++◌ p (run_append owing (prefix l) (prefix r) ∙ ap₂ ◌++◌ q w ∙ sym (spelled_append u v)) ∙ sym (spelled_append imp (u ++ v)) ∙ ap spelled (sym (append_assoc imp u v))

not_text : (owing : Bool) → node_text owing (one_of not) ≡ 33 ∷ []
unfolding node_text spelled
not_text owing = refl

pub prefix_text : (owing : Bool) (f : Formula) → pure f ≡ true → run_text owing (prefix f) ≡ formula_text owing f
unfolding run_text prefix signs_by pure node_text
prefix_text owing (leaf a) h = append-nil (node_text owing (leaf_of a))
prefix_text owing (one not f) h =
    let q = prefix_text owing f h in
    one_more owing f 33 (one_of not) (signs_by (implies_as owing) f) (not_text owing) q
prefix_text owing (one next f) h = true_false h refl
prefix_text owing (one always f) h = true_false h refl
prefix_text owing (one eventually f) h = true_false h refl
prefix_text owing (one (always_for b) f) h = true_false h refl
prefix_text owing (one (within b) f) h = true_false h refl
prefix_text owing (two and l r) h =
    let (p, q) = both_true (pure l) (pure r) h in
    two_more owing (sign 38 ∷ []) l r (two_of and) (signs_by (implies_as owing) l) (signs_by (implies_as owing) r) refl (prefix_text owing l p) (prefix_text owing r q)
prefix_text owing (two or l r) h =
    let (p, q) = both_true (pure l) (pure r) h in
    two_more owing (sign 124 ∷ []) l r (two_of or) (signs_by (implies_as owing) l) (signs_by (implies_as owing) r) refl (prefix_text owing l p) (prefix_text owing r q)
prefix_text owing (two implies l r) h =
    let (p, q) = both_true (pure l) (pure r) h in
    two_more owing (implies_as owing) l r (two_of implies) (signs_by (implies_as owing) l) (signs_by (implies_as owing) r) refl (prefix_text owing l p) (prefix_text owing r q)
prefix_text owing (two until l r) h = true_false h refl

-- ---- the scan: the nodes from i up to j are written
pub record Scanned (owing : Bool) (ops nums : List ℕ) (i e j : ℕ) (a b : Tape) : Type 0 where
  pub low : i ≤ j
  pub high : j ≤ e
  pub wrote : Wrote a (run_text owing (run (node_at ops nums) i (j - i))) b

run_snoc : (tok : ℕ → Node) (i k : ℕ) → run tok i (suc k) ≡ run tok i k ++ tok (i + k) ∷ []
unfolding run
run_snoc tok i zero = ap (λ (n : ℕ). tok n ∷ []) (sym (add-zero i))
run_snoc tok i (suc k) =
    ap (tok i ∷◌) (run_snoc tok (i + 1) k ∙ ap (λ (n : ℕ). run tok (i + 1) k ++ tok n ∷ []) (omega arith))

pub scan_first : (owing : Bool) (ops nums : List ℕ) (i e : ℕ) (a : Tape) → Inside ops nums i e → Scanned owing ops nums i e i a a
unfolding run run_text
scan_first owing ops nums i e a h = let z : i - i ≡ 0 = omega arith in record {
  low = omega arith;
  high = h.ordered;
  wrote = as_text a a (ap (λ (n : ℕ). run_text owing (run (node_at ops nums) i n)) z) (nothing a);
}

pub scan_next :
    (owing : Bool) (ops nums : List ℕ) (i e j : ℕ) (a b c : Tape) → Scanned owing ops nums i e j a b → j < e
    → Wrote b (node_text owing (node (get_or ops j 0) (get_or nums j 0))) c → Scanned owing ops nums i e (j + 1) a c
unfolding run_text node_at
scan_next owing ops nums i e j a b c s h w =
    let tok : ℕ → Node = node_at ops nums in
    let n : j + 1 - i ≡ suc (j - i) = omega (arith, s.low) in
    let m : i + (j - i) ≡ j = omega (arith, s.low) in
    let x : run tok i (j + 1 - i) ≡ run tok i (j - i) ++ tok j ∷ [] = ap (run tok i) n ∙ run_snoc tok i (j - i) ∙ ap (λ (k : ℕ). run tok i (j - i) ++ tok k ∷ []) m in
    let y : run_text owing (tok j ∷ []) ≡ node_text owing (tok j) = append-nil (node_text owing (tok j)) in
    record {
      low = omega (arith, s.low);
      high = omega arith;
      wrote = as_text a c (ap (run_text owing) x ∙ run_append owing (run tok i (j - i)) (tok j ∷ []) ∙ ap (λ (l : List ℕ). run_text owing (run tok i (j - i)) ++ l) y) (then s.wrote w);
    }

pub scan_all : (owing : Bool) (ops nums : List ℕ) (i e j : ℕ) (a b : Tape) → Scanned owing ops nums i e j a b → e ≤ j → Wrote a (run_text owing (run (node_at ops nums) i (e - i))) b
scan_all owing ops nums i e j a b s h =
    as_text a b (ap (λ (n : ℕ). run_text owing (run (node_at ops nums) i (n - i))) (omega (arith, s.high))) s.wrote

pub scan_in_ops : (ops nums : List ℕ) (i e j : ℕ) → Inside ops nums i e → j < e → j < length ops
scan_in_ops ops nums i e j h k = omega (arith, h.in_ops)

pub scan_in_nums : (ops nums : List ℕ) (i e j : ℕ) → Inside ops nums i e → j < e → j < length nums
scan_in_nums ops nums i e j h k = omega (arith, h.in_nums)

-- ---- the formula at a place
module _ (ops nums : List ℕ) (i : ℕ) (g : Pure ops nums i) (w : Option ℕ) (p : Purely ops nums i w) where
  ends : w ≡ Some (i + size g.place.formula)
  ends = p.is g.place.formula g.place.spells ∙ ap (λ (t : Bool). end_if t (i + size g.place.formula)) g.is_pure

  pub formula_stuck : (owing : Bool) (a b : Tape) → w ≡ None → Spelled ops nums i owing a b
  formula_stuck owing a b h = stuck_upto (sym h ∙ ends)

  module _ (e : ℕ) (h : w ≡ Some e) where
    end_is : e ≡ i + size g.place.formula
    end_is = upto_inj (sym h ∙ ends)

    pub formula_inside : Inside ops nums i e
    formula_inside = record { ordered = omega (arith, end_is); in_ops = omega (arith, end_is, g.place.in_ops); in_nums = omega (arith, end_is, g.place.in_nums) }

    pub formula_spelled : (owing : Bool) (a b : Tape) → Wrote a (run_text owing (run (node_at ops nums) i (e - i))) b → Spelled ops nums i owing a b
    formula_spelled owing a b v = record {
      is = λ f s.
          let same : f ≡ g.place.formula = spells_unique (node_at ops nums) i f g.place.formula s g.place.spells in
          let n : e - i ≡ size f = omega (arith, end_is, ap (λ (x : Formula). size x) same) in
          let x : run (node_at ops nums) i (e - i) ≡ prefix f = ap (run (node_at ops nums) i) n ∙ spells_run (node_at ops nums) i f s in
          as_text a b (sym (ap (run_text owing) x ∙ prefix_text owing f (ap pure same ∙ g.is_pure))) v;
    }
