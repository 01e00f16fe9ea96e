use Rattle.listing.proofs.Wholes.{hands_read, refused_wrote}
use borrow.Author.Rules.{rules}
use Rattle.listing.proofs.whole.list_text.Goals as goal

pub returns-in-Err : goal.returns-in-Err
returns-in-Err c = search (rules, refused_wrote)

pub list_opened-requires : goal.list_opened-requires
list_opened-requires c = hands_read _ _ _ c.blank-book.ensures _ c.read_in.ensures _ c.in-Ok.is
