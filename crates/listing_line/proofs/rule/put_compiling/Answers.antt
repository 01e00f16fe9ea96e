use Rattle.listing_line.proofs.Rules.{compiled_line, refused_line}
use borrow.Author.Rules.{rules}
use Rattle.listing_line.proofs.rule.put_compiling.Goals as goal

pub returns-in-Ok : goal.returns-in-Ok
returns-in-Ok c = search (rules, compiled_line)

pub returns-in-Err : goal.returns-in-Err
returns-in-Err c = search (rules, refused_line)
