use Rattle.listing_live.proofs.Lives.{live_none, live_refused, live_ready, live_parts}
use borrow.Author.Rules.{rules}
use Rattle.listing_live.proofs.live.put_live.Goals as goal

pub returns-in-Ok-None-clause-wrote : goal.returns-in-Ok-None-clause-wrote
returns-in-Ok-None-clause-wrote c = live_none _ _ _ _ _ _ _ c.in-Ok-None.is (rw c.in-Ok-None.is at c.in-Ok-None.field-0-is) c.put_text.ensures.wrote

pub returns-in-Err : goal.returns-in-Err
returns-in-Err c = search (rules, live_refused)

pub put_skeleton-requires : goal.put_skeleton-requires
put_skeleton-requires c = search (rules, live_ready)

pub returns-in-Ok-Some-clause-wrote : goal.returns-in-Ok-Some-clause-wrote
returns-in-Ok-Some-clause-wrote c =
    live_parts _ _ _ _ _ _ _ _ _ _ c.in-Ok-Some.is (rw c.in-Ok-Some.is at c.in-Ok-Some.field-0-is) c.put_text-in-Ok-Some.ensures.wrote c.put_skeleton.ensures.wrote c.put_byte.ensures.wrote
