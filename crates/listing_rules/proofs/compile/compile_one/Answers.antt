use Rattle.listing_rules.proofs.Entries.{some_fits, some_entered, none_entered}
use borrow.Author.Rules.{rules}
use Rattle.listing_rules.proofs.compile.compile_one.Goals as goal

pub overflow_add-result : goal.overflow_add-result
overflow_add-result c = search (rules, some_fits)

pub returns-in-Ok : goal.returns-in-Ok
returns-in-Ok c = search (rules, some_entered)

pub returns-in-Err : goal.returns-in-Err
returns-in-Err c = search (rules, none_entered)
