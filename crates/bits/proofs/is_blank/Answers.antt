use Rattle.bits.proofs.Loops.{blanking_found, blanking_more, blanking_all}
use borrow.Author.Rules.{rules}
use Rattle.bits.proofs.is_blank.Goals as goal

pub returns-then-bit_at : goal.returns-then-bit_at
returns-then-bit_at c = search (rules, blanking_found)

pub loop-k-preserved : goal.loop-k-preserved
loop-k-preserved c = search (rules, blanking_more)

pub returns : goal.returns
returns c = search (rules, blanking_all)
