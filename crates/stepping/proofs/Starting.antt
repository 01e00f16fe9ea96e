-- A fresh monitor reads as the fresh state, and is ready for the rule that it was made for.
use mathlib.Core.Path.{◌≡◌, refl, sym, ap, ap₂, subst, ◌∙◌}
use mathlib.Core.Bool.{Bool, true, false, ◌&&◌}
use mathlib.Core.List.{List}
use Prim.Native.Nat.{ℕ, zero, suc, ◌+◌, ◌*◌, ◌≤◌, ◌<◌}
use native.Mathlib.Omega.{arith}
use lib.Dec.{leb, ltb}
use lib.IntN.{pos}
use lib.ListN.{length, get_or, replicate, length-replicate, get_or-replicate, get_or-append}
use lib.Seq.{sets, sets-eq, length-sets}
use borrow.Author.Tests.{le-ltb}
use Rattle.terms.specs.Choice.{pick}
use Rattle.formula.proofs.Walks.{both_true}
use Rattle.monitor.specs.declared.range.AnchorRange.{AnchorRange}
use Rattle.monitor.specs.declared.node.SignalExpr.{SignalExpr}
use Rattle.monitor.specs.declared.node.MonNode.{MonNode}
use Rattle.monitor.specs.declared.node.MonNode.TheVariants.{RangeCheck, DelayedCheck, Obligation, And as AndNode, Or as OrNode}
use Rattle.std.specs.Prelude.{None, Option, Some}
use Rattle.monitor.specs.Mon.{Check, range_check, delayed_check, obligation, Mon, check, And, Or, count, node_of}
use Rattle.monitor.specs.Table.{row_of, form_at, cell, range_from, expr_from}
use Rattle.meaning.specs.Culprit.{minus_one}
use Rattle.meaning.specs.State.{WellShaped, initial_state}
use Rattle.meaning.proofs.Meaning.{fresh_shaped}
use Rattle.node_step.specs.Memory.{Memory, get, Inside, initial_entry}
use Rattle.node_step.specs.Check.{read_check}
use Rattle.node_step.proofs.Entries.{inside_less}
use Rattle.lent.specs.Nodes.{NodesAt}
use Rattle.lent.specs.Lent.{LentTables, LentMonitor, has_room, monitor_room, HoldsRule, Ready}
use Rattle.lent.proofs.Standings.{monitor_room_lem, rule_stood}
use Rattle.stepping.specs.Walk.{read_mon, BlamelessEntry, Blameless}
use Rattle.stepping.specs.Fitted.{OwnNode, OwnForms}
use Rattle.stepping.specs.Fresh.{column, cleared, fresh_of}
use Rattle.stepping.proofs.Fitting.{fits_by}

-- ---- cleared entries
module _ (mem : Memory) (n : ℕ) (d : Inside mem n) where
  front : {A : Type 0} (l : List A) (v e : A) (k : ℕ) → n ≤ length l → k < n → get_or (sets l 0 (replicate n v)) k e ≡ v
  front l v e k h g =
      ap (λ (x : List _). get_or x k e) (sets-eq (replicate n v) l 0 (subst (λ (j : ℕ). 0 + j ≤ length l) (sym (length-replicate n v)) (omega arith)))
      ∙ get_or-append (replicate n v) _ e k (subst (λ (j : ℕ). k < j) (sym (length-replicate n v)) g)
      ∙ get_or-replicate n k v e g

  pub clear_entry : (k : ℕ) → k < n → get (cleared mem n) k ≡ initial_entry
  clear_entry k h = λ i. record {
    held = front mem.held false false k d.held h i;
    remaining = front mem.remaining 0 0 k d.remaining h i;
    failed = front mem.failed false false k d.failed h i;
    culprit = front mem.culprits minus_one (pos 0) k d.culprits h i;
  }

  pub fresh_reads : (m : Mon) (k : ℕ) → k + count m ≤ n → read_mon m (cleared mem n) k ≡ initial_state m
  unfolding read_mon count
  fresh_reads (check (range_check p r)) k h = ap (read_check (range_check p r)) (clear_entry k (omega arith))
  fresh_reads (check (delayed_check p q r)) k h = ap (read_check (delayed_check p q r)) (clear_entry k (omega arith))
  fresh_reads (check (obligation b p q r)) k h = ap (read_check (obligation b p q r)) (clear_entry k (omega arith))
  fresh_reads (And m o) k h = λ i. record {
    left = fresh_reads m (k + 1) (omega arith) i;
    right = fresh_reads o (k + 1 + count m) (omega arith) i;
    failed = (clear_entry k (omega arith) i).failed;
    culprit = (clear_entry k (omega arith) i).culprit;
  }
  fresh_reads (Or m o) k h = λ i. record {
    left = fresh_reads m (k + 1) (omega arith) i;
    right = fresh_reads o (k + 1 + count m) (omega arith) i;
    failed = (clear_entry k (omega arith) i).failed;
    culprit = (clear_entry k (omega arith) i).culprit;
  }

  blank_blameless : (c : Check) → BlamelessEntry c initial_entry
  blank_blameless (range_check p r) = refl
  blank_blameless (delayed_check p q r) = refl
  blank_blameless (obligation b p q r) = tt

  pub fresh_blameless : (m : Mon) (k : ℕ) → k + count m ≤ n → Blameless m (cleared mem n) k
  unfolding Blameless count
  fresh_blameless (check c) k h = subst (BlamelessEntry c) (sym (clear_entry k (omega arith))) (blank_blameless c)
  fresh_blameless (And m o) k h = (fresh_blameless m (k + 1) (omega arith), fresh_blameless o (k + 1 + count m) (omega arith))
  fresh_blameless (Or m o) k h = (fresh_blameless m (k + 1) (omega arith), fresh_blameless o (k + 1 + count m) (omega arith))

-- ---- a column of the table
length_column : (nodes : List ℕ) (col n i : ℕ) → length (column nodes col i n) ≡ n
unfolding column
length_column nodes col zero i = refl
length_column nodes col (suc n) i = ap suc (length_column nodes col n (i + 1))

get_d_column : (nodes : List ℕ) (col n i k : ℕ) → k < n → get_or (column nodes col i n) k 0 ≡ get_or nodes (7 * (i + k) + col) 0
unfolding column
get_d_column nodes col zero i k h = absurd (omega arith)
get_d_column nodes col (suc n) i zero h = ap (λ (j : ℕ). get_or nodes j 0) (omega arith)
get_d_column nodes col (suc n) i (suc k) h =
    let o : 7 * (i + 1 + k) + col ≡ 7 * (i + suc k) + col = omega arith in
    get_d_column nodes col n (i + 1) k (omega arith) ∙ ap (λ (j : ℕ). get_or nodes j 0) o

set_column : (nodes l : List ℕ) (col i n k : ℕ) → n ≤ length l → k < n → get_or (sets l 0 (column nodes col i n)) k 0 ≡ get_or nodes (7 * (i + k) + col) 0
set_column nodes l col i n k h g =
    let z = length_column nodes col n i in
    ap (λ (x : List ℕ). get_or x k 0) (sets-eq (column nodes col i n) l 0 (subst (λ (j : ℕ). 0 + j ≤ length l) (sym z) (omega arith)))
    ∙ get_or-append (column nodes col i n) _ 0 k (subst (λ (j : ℕ). k < j) (sym z) g)
    ∙ get_d_column nodes col n i k g

-- ---- a row's form and bound are those of the node that it holds
abbrev row_with : ℕ → ℕ → AnchorRange → SignalExpr → SignalExpr → Option MonNode
row_with form b r s t =
    pick (ltb form 1) (Some (RangeCheck s r))
    (pick (ltb form 2) (Some (DelayedCheck s t r))
    (pick (ltb form 3) (Some (Obligation b s t r))
    (pick (ltb form 4) (Some AndNode)
    (pick (ltb form 5) (Some OrNode) None))))

no_row : (f b : ℕ) (r : AnchorRange) (s t : SignalExpr) → 5 ≤ f → row_with f b r s t ≡ None
no_row f b r s t h =
    ap (λ (x : Bool). pick x (Some (RangeCheck s r)) (pick (ltb f 2) (Some (DelayedCheck s t r)) (pick (ltb f 3) (Some (Obligation b s t r)) (pick (ltb f 4) (Some AndNode) (pick (ltb f 5) (Some OrNode) None))))) (le-ltb f 1 (omega arith))
    ∙ ap (λ (x : Bool). pick x (Some (DelayedCheck s t r)) (pick (ltb f 3) (Some (Obligation b s t r)) (pick (ltb f 4) (Some AndNode) (pick (ltb f 5) (Some OrNode) None)))) (le-ltb f 2 (omega arith))
    ∙ ap (λ (x : Bool). pick x (Some (Obligation b s t r)) (pick (ltb f 4) (Some AndNode) (pick (ltb f 5) (Some OrNode) None))) (le-ltb f 3 (omega arith))
    ∙ ap (λ (x : Bool). pick x (Some AndNode) (pick (ltb f 5) (Some OrNode) None)) (le-ltb f 4 (omega arith))
    ∙ ap (λ (x : Bool). pick x (Some OrNode) None) (le-ltb f 5 h)

no_node : {x : MonNode} {B : Type 0} → None ≡ Some x → B
no_node e = let z : ◌≡◌ {A = ℕ} 0 1 = cc in absurd (omega arith)

node_inj : {a b : MonNode} → Some a ≡ Some b → a ≡ b
node_inj e = cc

own_row : (form b : ℕ) (r : AnchorRange) (s t : SignalExpr) (x : MonNode) → row_with form b r s t ≡ Some x → OwnNode x form b
own_row zero b r s t x e = subst (λ (n : MonNode). OwnNode n 0 b) (node_inj e) refl
own_row (suc zero) b r s t x e = subst (λ (n : MonNode). OwnNode n 1 b) (node_inj e) refl
own_row (suc (suc zero)) b r s t x e = subst (λ (n : MonNode). OwnNode n 2 b) (node_inj e) (refl, refl)
own_row (suc (suc (suc zero))) b r s t x e = subst (λ (n : MonNode). OwnNode n 3 b) (node_inj e) refl
own_row (suc (suc (suc (suc zero)))) b r s t x e = subst (λ (n : MonNode). OwnNode n 4 b) (node_inj e) refl
own_row (suc (suc (suc (suc (suc f))))) b r s t x e = no_node (sym (no_row (suc (suc (suc (suc (suc f))))) b r s t (omega arith)) ∙ e)

module _ (nodes : List ℕ) (nfirst : ℕ) (forms bounds : List ℕ) (n : ℕ) (hf : n ≤ length forms) (hb : n ≤ length bounds) where
  abbrev forms' : List ℕ
  forms' = sets forms 0 (column nodes 0 nfirst n)

  abbrev bounds' : List ℕ
  bounds' = sets bounds 0 (column nodes 1 nfirst n)

  own_at : (k : ℕ) (x : MonNode) → k < n → row_of nodes (nfirst + k) ≡ Some x → OwnNode x (get_or forms' k 0) (get_or bounds' k 0)
  unfolding row_of
  own_at k x g q =
      let o : 7 * (nfirst + k) + 0 ≡ 7 * (nfirst + k) = omega arith in
      let a : get_or forms' k 0 ≡ form_at nodes (nfirst + k) = set_column nodes forms 0 nfirst n k hf g ∙ ap (λ (j : ℕ). get_or nodes j 0) o in
      let b : get_or bounds' k 0 ≡ cell nodes (nfirst + k) 1 = set_column nodes bounds 1 nfirst n k hb g in
      let i = nfirst + k in
      subst (λ (v : ℕ). OwnNode x v (get_or bounds' k 0)) (sym a) (subst (λ (v : ℕ). OwnNode x (form_at nodes i) v) (sym b)
      (own_row (form_at nodes i) (cell nodes i 1) (range_from (cell nodes i 2) (cell nodes i 3) (cell nodes i 4)) (expr_from (cell nodes i 5)) (expr_from (cell nodes i 6)) x q))

  own_forms : (ops nums : List ℕ) (m : Mon) (k : ℕ) → NodesAt ops nums nodes (nfirst + k) m → k + count m ≤ n → OwnForms m forms' bounds' k
  unfolding NodesAt OwnForms count
  own_forms ops nums (check c) k a h = own_at k (node_of c) (omega arith) a.0
  own_forms ops nums (And m o) k a h = (
    own_at k AndNode (omega arith) a.0,
    own_forms ops nums m (k + 1) (subst (λ (j : ℕ). NodesAt ops nums nodes j m) (omega arith) a.1) (omega arith),
    own_forms ops nums o (k + 1 + count m) (subst (λ (j : ℕ). NodesAt ops nums nodes j o) (omega arith) a.2) (omega arith),
  )
  own_forms ops nums (Or m o) k a h = (
    own_at k OrNode (omega arith) a.0,
    own_forms ops nums m (k + 1) (subst (λ (j : ℕ). NodesAt ops nums nodes j m) (omega arith) a.1) (omega arith),
    own_forms ops nums o (k + 1 + count m) (subst (λ (j : ℕ). NodesAt ops nums nodes j o) (omega arith) a.2) (omega arith),
  )

-- ---- the monitor that `fresh` makes
longer : {A : Type 0} (l v : List A) → leb 256 (length l) ≡ true → leb 256 (length (sets l 0 v)) ≡ true
longer l v h = ap (leb 256) (length-sets l 0 v) ∙ h

room_fresh : (mem : Memory) (n : ℕ) → has_room mem ≡ true → has_room (cleared mem n) ≡ true
room_fresh mem n h =
    let (a, b) = both_true (leb 256 (length mem.held)) _ h in
    let (c, e) = both_true (leb 256 (length mem.remaining)) _ b in
    let (f, g) = both_true (leb 256 (length mem.failed)) _ e in
    ap₂ ◌&&◌ (longer mem.held (replicate n false) a) (ap₂ ◌&&◌ (longer mem.remaining (replicate n 0) c) (ap₂ ◌&&◌ (longer mem.failed (replicate n false) f) (longer mem.culprits (replicate n minus_one) g)))

module _ (t : LentTables) (k : LentMonitor) (m : Mon) (a : HoldsRule t m) (h : monitor_room k.forms k.bounds k.memory ≡ true) where
  room_still : monitor_room (fresh_of t k).forms (fresh_of t k).bounds (fresh_of t k).memory ≡ true
  room_still =
      let (c, e) = both_true (leb 256 (length k.forms)) _ h in
      let (f, g) = both_true (leb 256 (length k.bounds)) _ e in
      ap₂ ◌&&◌ (longer k.forms (column t.nodes 0 t.nfirst t.ncount) c) (ap₂ ◌&&◌ (longer k.bounds (column t.nodes 1 t.nfirst t.ncount) f) (room_fresh k.memory t.ncount g))

  pub fresh_state : read_mon m (fresh_of t k).memory 0 ≡ initial_state m
  fresh_state =
      let o = rule_stood t m a.rule in
      let r = monitor_room_lem k.forms k.bounds k.memory h in
      fresh_reads k.memory t.ncount (inside_less k.memory t.ncount 256 o.few r.inside) m 0 (omega (arith, o.counted))

  pub fresh_ready : Ready (fresh_of t k) m
  fresh_ready =
      let o = rule_stood t m a.rule in
      let r = monitor_room_lem k.forms k.bounds k.memory h in
      let z : t.nfirst ≡ t.nfirst + 0 = omega arith in
      let i = inside_less k.memory t.ncount 256 o.few r.inside in
      record {
        fit = fits_by m (fresh_of t k) (sym o.counted) (record {
          own = own_forms t.nodes t.nfirst k.forms k.bounds t.ncount (omega (arith, o.few, r.forms_in)) (omega (arith, o.few, r.bounds_in)) t.ops t.nums m 0 (subst (λ (j : ℕ). NodesAt t.ops t.nums t.nodes j m) z o.stands) (omega (arith, o.counted));
          blameless = fresh_blameless k.memory t.ncount i m 0 (omega (arith, o.counted));
          kept = subst (WellShaped m) (sym fresh_state) (fresh_shaped m);
        });
        room = room_still;
      }
