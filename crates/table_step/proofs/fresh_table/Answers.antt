use Rattle.table_step.proofs.Own.{fresh_own}
use Rattle.table_step.proofs.fresh_table.Goals as goal

pub returns : goal.returns
returns c = rw (c.new-tables.ensures.ops, c.new-tables.ensures.nums, c.new-tables.ensures.nodes, c.ops.ensures, c.nums.ensures, fresh_own c.args.table.now c.args.part.first c.args.part.count c.args.nodes.now c.args.part.nfirst c.args.part.ncount c.unpack-c.result (rw c.formula.ensures at c.unpack-c.ensures) c.args.m.now) at c.fresh.ensures
