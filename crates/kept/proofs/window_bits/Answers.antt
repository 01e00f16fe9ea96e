use Rattle.kept.proofs.Keeping.{window_fits, window_wide}
use borrow.Author.Rules.{rules}
use Rattle.kept.proofs.window_bits.Goals as goal

pub overflow_add-result : goal.overflow_add-result
overflow_add-result c = search (rules, window_fits)

pub returns : goal.returns
returns c = window_wide _ _ (search rules) c.if-b-eq0.false c.width_of.ensures
