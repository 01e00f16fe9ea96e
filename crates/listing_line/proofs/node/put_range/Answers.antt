use Rattle.listing_line.proofs.Nodes.{range_wrote}
use borrow.Author.Rules.{rules}
use Rattle.listing_line.proofs.node.put_range.Goals as goal

pub returns : goal.returns
returns c = search (rules, range_wrote)
