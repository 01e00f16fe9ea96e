use Rattle.listing_line.proofs.Nodes.{expr_true, expr_ready, expr_at}
use borrow.Author.Rules.{rules}
use Rattle.listing_line.proofs.node.put_expr.Goals as goal

pub returns-in-True : goal.returns-in-True
returns-in-True c = search (rules, expr_true)

pub put_signal-requires : goal.put_signal-requires
put_signal-requires c = search (rules, expr_ready)

pub returns-in-At : goal.returns-in-At
returns-in-At c = search (rules, expr_at)
