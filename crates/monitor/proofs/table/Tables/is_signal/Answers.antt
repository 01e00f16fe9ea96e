use Rattle.monitor.proofs.TableWalk.{at_signal, true_signal}
use borrow.Author.Rules.{rules}
use Rattle.monitor.proofs.table.Tables.is_signal.Goals as goal

pub returns-in-True : goal.returns-in-True
returns-in-True c = search (rules, true_signal)

pub returns-in-At : goal.returns-in-At
returns-in-At c = search (rules, at_signal)
