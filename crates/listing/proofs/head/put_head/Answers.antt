use Rattle.listing.proofs.Heads.{placeable, places_lent, readied, head_listed}
use borrow.Author.Rules.{rules}
use Rattle.listing.proofs.head.put_head.Goals as goal

pub place_rules-requires : goal.place_rules-requires
place_rules-requires c =
    let r = c.rules-rules.ensures in
    rw (r.nodes, r.kinds, r.refusals, r.nfirsts, r.ncounts, r.len)
    (placeable _ _ _ _ _ _ _ _ _ _ _ _ _ _ _ c.requires.0 c.compile_rules.ensures.filled c.requires.1.1 (search rules) (search rules))

pub put_rules-requires : goal.put_rules-requires
put_rules-requires c =
    let r = c.rules-rules.ensures in
    rw (r.ops, r.nums, r.nodes, r.kinds, r.refusals, r.firsts, r.counts, r.nfirsts, r.ncounts, r.len)
    (readied _ _ _ _ _ _ _ _ _ _ _ _ _ _ _ c.requires.0 c.compile_rules.ensures.filled
    (places_lent (rw (r.nodes, r.kinds, r.refusals, r.nfirsts, r.ncounts, r.len) at c.place_rules.ensures.placed) (search rules) (search rules)))

pub returns-clause-listed : goal.returns-clause-listed
returns-clause-listed c =
    let r = c.rules-rules.ensures in
    head_listed _ _ _ _ _ _ _ _ _ _ _ _ _ _ _ _ _ c.compile_rules.ensures.filled
    (places_lent (rw (r.nodes, r.kinds, r.refusals, r.nfirsts, r.ncounts, r.len) at c.place_rules.ensures.placed) (search rules) (search rules))
    (rw (r.ops, r.nums, r.nodes, r.kinds, r.refusals, r.firsts, r.counts, r.nfirsts, r.ncounts, r.len) at c.put_rules.ensures.wrote)
