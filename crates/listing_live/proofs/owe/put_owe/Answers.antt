use Rattle.listing_live.proofs.Owes.{ready_first, ready_second, owe_eventually, owe_until}
use borrow.Author.Rules.{rules}
use Rattle.listing_live.proofs.owe.put_owe.Goals as goal

pub put_owed-requires : goal.put_owed-requires
put_owed-requires c = search (rules, ready_first)

pub returns-then-kind-lt-UNTIL : goal.returns-then-kind-lt-UNTIL
returns-then-kind-lt-UNTIL c = search (rules, owe_eventually)

pub put_owed-requires-2 : goal.put_owed-requires-2
put_owed-requires-2 c = search (rules, ready_first)

pub put_owed-requires-3 : goal.put_owed-requires-3
put_owed-requires-3 c = search (rules, ready_second)

pub returns : goal.returns
returns c = search (rules, owe_until)
