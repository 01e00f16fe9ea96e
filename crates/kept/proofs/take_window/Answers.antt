use Rattle.kept.proofs.Keeping.{window_rest, window_few}
use borrow.Author.Rules.{rules}
use Rattle.kept.proofs.take_window.Goals as goal

pub number_at-requires : goal.number_at-requires
number_at-requires c = (search (rules, window_rest), search (rules, window_few))
