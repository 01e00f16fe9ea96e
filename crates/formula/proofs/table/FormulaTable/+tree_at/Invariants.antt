use Prim.Native.Nat.{◌-◌}
use Rattle.formula.proofs.table.FormulaTable.+tree_at.Given as goal

abbrev pub decreases-tree_at : goal.decreases-tree_at
decreases-tree_at l = l.end - l.i
