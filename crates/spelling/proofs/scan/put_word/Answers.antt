use Rattle.spelling.proofs.Scans.{word_atom, word_not, word_none, word_and, word_or, word_past, word_owing, word_implies}
use borrow.Author.Rules.{rules}
use Rattle.spelling.proofs.scan.put_word.Goals as goal

pub returns-then-op-lt-NOT : goal.returns-then-op-lt-NOT
returns-then-op-lt-NOT c = search (rules, word_atom)

pub returns-then-op-lt-NEXT : goal.returns-then-op-lt-NEXT
returns-then-op-lt-NEXT c = search (rules, word_not)

pub returns-then-op-lt-AND : goal.returns-then-op-lt-AND
returns-then-op-lt-AND c = search (rules, word_none)

pub returns-then-op-lt-OR : goal.returns-then-op-lt-OR
returns-then-op-lt-OR c = search (rules, word_and)

pub returns-then-op-lt-IMPLIES : goal.returns-then-op-lt-IMPLIES
returns-then-op-lt-IMPLIES c = search (rules, word_or)

pub returns-then-op-ge-UNTIL : goal.returns-then-op-ge-UNTIL
returns-then-op-ge-UNTIL c = search (rules, word_past)

pub returns-then-owing : goal.returns-then-owing
returns-then-owing c = search (rules, word_owing)

pub returns : goal.returns
returns c = search (rules, word_implies)
