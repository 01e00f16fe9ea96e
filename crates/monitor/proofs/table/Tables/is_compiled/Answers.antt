use Rattle.formula.proofs.Rules.{is_a_rule}
use Rattle.monitor.proofs.HeldTree.{no_formula}
use borrow.Author.Rules.{rules}
use Rattle.monitor.proofs.table.Tables.is_compiled.Goals as goal

pub has_nodes-requires : goal.has_nodes-requires
has_nodes-requires c = search (rules, is_a_rule)

pub returns : goal.returns
returns c = search (rules, no_formula)
