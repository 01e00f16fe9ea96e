use Rattle.book.proofs.Checks.{ended_empty, last_byte}
use borrow.Author.Rules.{rules}
use Rattle.book.proofs.check.is_ended.Goals as goal

pub returns-in-empty : goal.returns-in-empty
returns-in-empty c = search (rules, ended_empty)

pub returns-in-len1-up : goal.returns-in-len1-up
returns-in-len1-up c = search (rules, last_byte)
