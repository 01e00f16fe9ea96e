-- The columns of a rule's own places stand for the whole table: as many nodes are lent as far as refusal 1 asks, and the same rule is held.
use mathlib.Core.Bool.{Bool, true, false, ◌&&◌}
use mathlib.Core.List.{List}
use mathlib.Core.Path.{◌≡◌, refl, sym, ◌∙◌, ap, subst}
use Prim.Native.Nat.{ℕ, ◌+◌, ◌≤◌}
use native.Mathlib.Omega.{arith}
use borrow.Author.Tests.{le-leb, leb-true, ltb-false}
use lib.Dec.{leb, ltb}
use lib.ListN.{length, take, length-map}
use lib.Seq.{length-take-le, get_or-take}
use Rattle.terms.specs.Limits.{book_nodes}
use Rattle.formula.specs.Table.{in_table, rule_of, roomy}
use Rattle.formula.proofs.Local.{Agree, rule_local}
use Rattle.formula.proofs.Walks.{both_true}
use Rattle.node_table.specs.Node.{ops_of, nums_of}
use Rattle.terms.specs.Choice.{pick}
use Rattle.node_table.specs.Columns.{capped, Unpacked}
use Rattle.node_table.specs.declared.columns.Columns.{Columns}
use Rattle.node_table.specs.declared.FormulaNode.{FormulaNode}
use Rattle.node_table.proofs.Filling.{end_fits}

-- of places up to 1,024, as many nodes hold them as `capped` says
capped_holds : (x n : ℕ) → x ≤ 1024 → leb x (capped n) ≡ leb x n
capped_holds x n h = go (ltb n 1024) refl
  where
    go : (t : Bool) → ltb n 1024 ≡ t → leb x (pick t n 1024) ≡ leb x n
    go true e = refl
    go false e = le-leb x 1024 h ∙ sym (le-leb x n (omega (arith, ltb-false n 1024 e)))

module _ (table : List FormulaNode) (first count : ℕ) (c : Columns) (u : Unpacked table first count c) where
  abbrev os : List ℕ
  os = take c.count c.ops

  abbrev ns : List ℕ
  ns = take c.count c.nums

  os_length : length os ≡ capped (length table)
  os_length = length-take-le c.count c.ops c.ops_room ∙ u.lent

  ns_length : length ns ≡ capped (length table)
  ns_length = length-take-le c.count c.nums c.nums_room ∙ u.lent

  ops_length : length (ops_of table) ≡ length table
  ops_length = length-map table (λ x. x.op)

  nums_length : length (nums_of table) ≡ length table
  nums_length = length-map table (λ x. x.num)

  holds_ops : (x : ℕ) → x ≤ 1024 → leb x (length os) ≡ leb x (length (ops_of table))
  holds_ops x h = ap (leb x) os_length ∙ capped_holds x (length table) h ∙ ap (leb x) (sym ops_length)

  holds_nums : (x : ℕ) → x ≤ 1024 → leb x (length ns) ≡ leb x (length (nums_of table))
  holds_nums x h = ap (leb x) ns_length ∙ capped_holds x (length table) h ∙ ap (leb x) (sym nums_length)

  pub own_room : roomy os ns ≡ roomy (ops_of table) (nums_of table)
  own_room = ap (λ (t : Bool). t && leb book_nodes (length ns)) (holds_ops 1024 (omega arith)) ∙ ap (λ (t : Bool). leb book_nodes (length (ops_of table)) && t) (holds_nums 1024 (omega arith))

  own_table : in_table os ns first count ≡ in_table (ops_of table) (nums_of table) first count
  own_table = ap (λ (t : Bool). leb count 256 && t) (go (leb (first + count) book_nodes) refl)
    where
      go : (t : Bool) → leb (first + count) book_nodes ≡ t
          → (t && (leb (first + count) (length os) && leb (first + count) (length ns))) ≡ (t && (leb (first + count) (length (ops_of table)) && leb (first + count) (length (nums_of table))))
      go true e =
          let h : first + count ≤ 1024 = leb-true (first + count) 1024 e in
          ap (λ (t : Bool). t && leb (first + count) (length ns)) (holds_ops (first + count) h) ∙ ap (λ (t : Bool). leb (first + count) (length (ops_of table)) && t) (holds_nums (first + count) h)
      go false e = refl

  -- a rule within the nodes that are lent was read
  read : first + count ≤ c.count → Agree os ns (ops_of table) (nums_of table) first count
  read h i above below = (
    get_or-take c.count c.ops i 0 (omega arith) ∙ u.ops i above (end_fits c.count first count i h below),
    get_or-take c.count c.nums i 0 (omega arith) ∙ u.nums i above (end_fits c.count first count i h below),
  )

  in_lent : in_table os ns first count ≡ true → first + count ≤ c.count
  in_lent e =
      let within-table : (leb (first + count) (length os) && leb (first + count) (length ns)) ≡ true = (both_true (leb (first + count) book_nodes) _ (both_true (leb count 256) _ e).1).1 in
      subst (λ (k : ℕ). first + count ≤ k) (os_length ∙ sym u.lent) (leb-true (first + count) (length os) (both_true (leb (first + count) (length os)) _ within-table).0)

  pub own_rule : rule_of os ns first count ≡ rule_of (ops_of table) (nums_of table) first count
  own_rule = rule_local os ns (ops_of table) (nums_of table) first count own_table (λ e. read (in_lent e))
