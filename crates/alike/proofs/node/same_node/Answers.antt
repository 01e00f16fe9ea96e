use Rattle.alike.proofs.Nodes.{delayed_meant_second, owed_meant, owed_meant_second}
use borrow.Author.Rules.{rules}
use Rattle.alike.proofs.node.same_node.Goals as goal

pub same_signal-requires-then-same_signal : goal.same_signal-requires-then-same_signal
same_signal-requires-then-same_signal c = search (rules, delayed_meant_second)

pub same_signal-requires-then-eq-3 : goal.same_signal-requires-then-eq-3
same_signal-requires-then-eq-3 c = search (rules, owed_meant)

pub same_signal-requires-then-same_signal-2 : goal.same_signal-requires-then-same_signal-2
same_signal-requires-then-same_signal-2 c = search (rules, owed_meant_second)
