use Rattle.kept.proofs.Keeping.{put_nothing, put_antecedent}
use borrow.Author.Rules.{rules}
use Rattle.kept.proofs.Keep.put.Goals as goal

pub returns-in-Nothing : goal.returns-in-Nothing
returns-in-Nothing c = search (rules, put_nothing)

pub returns-in-Antecedent : goal.returns-in-Antecedent
returns-in-Antecedent c = search (rules, put_antecedent)
