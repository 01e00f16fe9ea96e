use Rattle.line.proofs.Lines.{atom_wrong, atom_right}
use borrow.Author.Rules.{rules}
use Rattle.line.proofs.line.atom.Goals as goal

pub returns-in_err-num : goal.returns-in_err-num
returns-in_err-num c = search (rules, atom_wrong)

pub returns : goal.returns
returns c = search (rules, atom_right)
