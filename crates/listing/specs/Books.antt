-- What is lent of a book, in terms of the lists that it is.
use Rattle.reader.specs.BookTables.{BookTables, columns}
use Rattle.opened.specs.declared.Book.{Book}
use Rattle.listing_rules.specs.declared.lists.BookLists.{BookLists}
use Rattle.listing_rules.specs.declared.lists.PlacedRules.{PlacedRules}
use Rattle.listing.specs.LentLists.{Lent, lists}

abbrev pub columns_of : BookLists → BookTables
columns_of b = columns b.labels.now b.lens.now b.kinds.now b.firsts.now b.counts.now b.formulas.ops.now b.formulas.nums.now

-- of a book in memory
abbrev pub columns_in : Book → BookTables
columns_in b = columns b.labels b.lens b.kinds b.firsts b.counts b.ops b.nums

abbrev pub lists_of : PlacedRules → Lent
lists_of p =
    lists
    (columns p.labels.now p.lens.now p.rules.kinds.now p.rules.firsts.now p.rules.counts.now p.rules.tables.formulas.ops.now p.rules.tables.formulas.nums.now)
    p.rules.tables.nodes.now
    p.rules.nfirsts.now
    p.rules.ncounts.now
    p.rules.refusals.now
    p.starts.now
    p.bits.now
