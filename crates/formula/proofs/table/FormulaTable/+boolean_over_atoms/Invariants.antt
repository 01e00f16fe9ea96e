use Rattle.formula.specs.Signal.{signal_nodes}
use Rattle.formula.proofs.table.FormulaTable.+boolean_over_atoms.Given as goal

abbrev pub decreases-boolean_over_atoms : goal.decreases-boolean_over_atoms
decreases-boolean_over_atoms l = signal_nodes l.self.now.ops.now l.self.now.nums.now l.i
