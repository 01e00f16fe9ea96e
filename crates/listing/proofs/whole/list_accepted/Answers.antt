use Rattle.listing.proofs.Wholes.{encodable, compiled, book_listed}
use Rattle.listing.proofs.whole.list_accepted.Goals as goal

pub encode_rules-encoding-requires : goal.encode_rules-encoding-requires
encode_rules-encoding-requires c =
    let r = c.rules-rules.ensures in
    rw (r.nodes, r.kinds, r.refusals, r.nfirsts, r.ncounts, r.len) (encodable _ _ _ _ _ _ _ _ _ _ _ _ c.requires _ _ _ _ _ _ c.put_head.ensures.listed)

pub put_tail-requires : goal.put_tail-requires
put_tail-requires c =
    let r = c.rules-rules.ensures in
    rw (r.ops, r.nums, r.nodes, r.refusals, r.firsts, r.counts, r.nfirsts, r.ncounts, r.len)
    (compiled _ _ _ _ _ _ _ _ _ _ _ _ c.requires _ _ _ _ _ _ c.put_head.ensures.listed)

pub returns-clause-wrote : goal.returns-clause-wrote
returns-clause-wrote c =
    let r = c.rules-rules.ensures in
    book_listed _ _ _ _ _ _ _ _ _ _ _ _ c.requires _ _ _ _ _ _ c.put_head.ensures.listed _ _ _
    (rw (r.nodes, r.kinds, r.refusals, r.nfirsts, r.ncounts, r.len) at c.encode_rules-encoding.ensures)
    c.put_plan.ensures.wrote
    (rw (r.ops, r.nums, r.nodes, r.refusals, r.firsts, r.counts, r.nfirsts, r.ncounts, r.len) at c.put_tail.ensures.listed)
