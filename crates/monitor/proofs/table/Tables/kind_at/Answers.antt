use Rattle.monitor.proofs.TableWalk.{row_no, row_yes}
use borrow.Author.Rules.{rules}
use Rattle.monitor.proofs.table.Tables.kind_at.Goals as goal

pub returns-in_err-node : goal.returns-in_err-node
returns-in_err-node c = search (rules, row_no)

pub returns : goal.returns
returns c = search (rules, row_yes)
