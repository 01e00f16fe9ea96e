use Rattle.table_step.proofs.Own.{step_own}
use Rattle.table_step.proofs.step_table.Goals as goal

pub returns : goal.returns
returns c = rw (c.new-tables.ensures.ops, c.new-tables.ensures.nums, c.new-tables.ensures.nodes, c.ops.ensures, c.nums.ensures, step_own c.args.table.now c.args.part.first c.args.part.count c.args.nodes.now c.args.part.nfirst c.args.part.ncount c.unpack-c.result (rw c.formula.ensures at c.unpack-c.ensures) c.args.m.now c.args.s c.args.w) at c.step.ensures
