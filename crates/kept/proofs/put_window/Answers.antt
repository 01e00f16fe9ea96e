use Rattle.kept.proofs.Keeping.{window_inked, window_few, put_none, put_pending, put_closed}
use borrow.Author.Rules.{rules}
use Rattle.kept.proofs.put_window.Goals as goal

pub returns-then-b-eq0 : goal.returns-then-b-eq0
returns-then-b-eq0 c = search (rules, put_none)

pub put_number-requires : goal.put_number-requires
put_number-requires c = (search (rules, window_inked), search (rules, window_few))

pub returns : goal.returns
returns c = search (rules, put_pending, put_closed)
