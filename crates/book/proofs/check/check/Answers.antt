use Rattle.book.proofs.Checks.{check_long, check_ended, check_unended}
use borrow.Author.Rules.{rules}
use Rattle.book.proofs.check.check.Goals as goal

pub returns-then-text-gt-BOOK_BYTES : goal.returns-then-text-gt-BOOK_BYTES
returns-then-text-gt-BOOK_BYTES c = search (rules, check_long)

pub returns-then-is_ended : goal.returns-then-is_ended
returns-then-is_ended c = search (rules, check_ended)

pub returns : goal.returns
returns c = search (rules, check_unended)
