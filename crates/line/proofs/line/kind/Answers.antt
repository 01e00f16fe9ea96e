use Rattle.line.proofs.Lines.{kind_short, kind_long, kind_p, kind_a, kind_none}
use borrow.Author.Rules.{rules}
use Rattle.line.proofs.line.kind.Goals as goal

pub returns-in-P : goal.returns-in-P
returns-in-P c = search (rules, kind_p)

pub returns-in-A : goal.returns-in-A
returns-in-A c = search (rules, kind_a)

pub returns-in_default : goal.returns-in_default
returns-in_default c = search (rules, kind_short)

pub returns-in_default-2 : goal.returns-in_default-2
returns-in_default-2 c = search (rules, kind_none)

pub returns-in_default-3 : goal.returns-in_default-3
returns-in_default-3 c = search (rules, kind_long)
