use Rattle.std.proofs.Common.{arith, ap}
use Rattle.std.specs.Prelude.{is_ok}
use Rattle.cavewatch.proofs.Answered.{length_told, listed}
use Rattle.cavewatch.proofs.list.Goals as goal

pub unwrap-requires : goal.unwrap-requires
unwrap-requires c = ap is_ok (length_told _ _ _ _ c.list_book.ensures.answers (omega arith))

pub returns-clause-out_after : goal.returns-clause-out_after
returns-clause-out_after c = listed _ _ _ _ c.list_book.ensures.answers (omega arith) _ c.unwrap.ensures
