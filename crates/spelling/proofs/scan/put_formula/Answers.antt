use Rattle.spelling.proofs.Scans.{formula_stuck, formula_inside, formula_spelled}
use borrow.Author.Rules.{rules}
use Rattle.spelling.proofs.scan.put_formula.Goals as goal

pub put_run-requires : goal.put_run-requires
put_run-requires c = search (rules, formula_inside)

pub returns-in-Some : goal.returns-in-Some
returns-in-Some c = search (rules, formula_spelled)

pub returns : goal.returns
returns c = search (rules, formula_stuck)
