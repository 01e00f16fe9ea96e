use Rattle.monitor.proofs.TableWalk.{and_joined, delayed_first, delayed_known, delayed_second, or_joined, owed_first, owed_known, owed_second, range_known, range_unknown}
use borrow.Author.Rules.{rules}
use Rattle.monitor.proofs.table.Tables.kind_of.Goals as goal

pub returns-then-is_signal : goal.returns-then-is_signal
returns-then-is_signal c = search (rules, range_known)

pub returns-in-RangeCheck : goal.returns-in-RangeCheck
returns-in-RangeCheck c = search (rules, range_unknown)

pub returns-then-is_signal-3 : goal.returns-then-is_signal-3
returns-then-is_signal-3 c = search (rules, delayed_known)

pub returns-else-is_signal-3 : goal.returns-else-is_signal-3
returns-else-is_signal-3 c = search (rules, delayed_second)

pub returns-else-is_signal-2 : goal.returns-else-is_signal-2
returns-else-is_signal-2 c = search (rules, delayed_first)

pub returns-then-is_signal-5 : goal.returns-then-is_signal-5
returns-then-is_signal-5 c = search (rules, owed_known)

pub returns-else-is_signal-5 : goal.returns-else-is_signal-5
returns-else-is_signal-5 c = search (rules, owed_second)

pub returns-else-is_signal-4 : goal.returns-else-is_signal-4
returns-else-is_signal-4 c = search (rules, owed_first)

pub returns-in-And : goal.returns-in-And
returns-in-And c = search (rules, and_joined)

pub returns-in-Or : goal.returns-in-Or
returns-in-Or c = search (rules, or_joined)
