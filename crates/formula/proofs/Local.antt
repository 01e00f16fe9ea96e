-- A rule rests on its own places alone: two tables that hold the same nodes there hold the same rule there.
use mathlib.Core.Bool.{Bool, true, false}
use mathlib.Core.List.{List, ◌∷◌}
use mathlib.Core.Path.{◌≡◌, refl, sym, ◌∙◌, ap}
use Prim.Native.Nat.{ℕ, zero, suc, ◌+◌, ◌≤◌, ◌<◌}
use native.Mathlib.Omega.{arith}
use lib.ListN.{get_or}
use Rattle.formula.specs.Tree.{Token, tree_of}
use Rattle.formula.specs.Spells.{run}
use Rattle.formula.specs.Formula.{Node, node}
use Rattle.formula.specs.Table.{node_at, keep, limited, in_table, rule_of}

run_local : {L O T : Type 0} (tok tok' : ℕ → Token L O T) (i n : ℕ) → ((k : ℕ) → i ≤ k → k < i + n → tok k ≡ tok' k) → run tok i n ≡ run tok' i n
unfolding run
run_local tok tok' i zero same = refl
run_local {L} {O} {T} tok tok' i (suc n) same =
    ap (λ (t : Token L O T). t ∷ run tok (i + 1) n) (same i (omega arith) (omega arith))
    ∙ ap (λ (r : List (Token L O T)). tok' i ∷ r) (run_local tok tok' (i + 1) n (λ k above below. same k (omega arith) (omega arith)))

module _ (ops nums ops' nums' : List ℕ) (first count : ℕ) where
  -- the operations and the numbers at the rule's places agree
  abbrev pub Agree : Type 0
  Agree = (i : ℕ) → first ≤ i → i < first + count → (get_or ops i 0 ≡ get_or ops' i 0) × (get_or nums i 0 ≡ get_or nums' i 0)

  agreed : Agree → run (node_at ops nums) first count ≡ run (node_at ops' nums') first count
  unfolding node_at
  agreed same = run_local (node_at ops nums) (node_at ops' nums') first count (λ i above below.
      ap (λ (o : ℕ). node o (get_or nums i 0)) (same i above below).0 ∙ ap (λ (n : ℕ). node (get_or ops' i 0) n) (same i above below).1)

  pub rule_local : in_table ops nums first count ≡ in_table ops' nums' first count → (in_table ops nums first count ≡ true → Agree)
      → rule_of ops nums first count ≡ rule_of ops' nums' first count
  unfolding rule_of
  rule_local e same = go (in_table ops nums first count) refl
    where
      go : (t : Bool) → in_table ops nums first count ≡ t
          → keep (in_table ops nums first count) (limited (tree_of (run (node_at ops nums) first count)))
          ≡ keep (in_table ops' nums' first count) (limited (tree_of (run (node_at ops' nums') first count)))
      go true h =
          ap (λ (t : Bool). keep t (limited (tree_of (run (node_at ops nums) first count)))) e
          ∙ ap (λ (r : List Node). keep (in_table ops' nums' first count) (limited (tree_of r))) (agreed (same h))
      go false h =
          ap (λ (t : Bool). keep t (limited (tree_of (run (node_at ops nums) first count)))) h
          ∙ sym (ap (λ (t : Bool). keep t (limited (tree_of (run (node_at ops' nums') first count)))) (sym e ∙ h))
