use Rattle.std.proofs.lemmas.Result.{err_from_is_err_and}
use Rattle.compiler.proofs.Compiling.{antecedent_refused, consequent_in, placed_antecedent}
use borrow.Author.Rules.{rules}
use Rattle.compiler.proofs.compile_implies.Goals as goal

pub boolean_over_atoms-requires : goal.boolean_over_atoms-requires
boolean_over_atoms-requires c = search (rules, placed_antecedent)

pub returns-in_err-j-clause-compiled : goal.returns-in_err-j-clause-compiled
returns-in_err-j-clause-compiled c =
    let p = err_from_is_err_and c.from_residual.result c.from_residual.ensures.1 in
    rw (p.1, p.2) (antecedent_refused _ _ _ _ _ _ _ c.requires.1 c.boolean_over_atoms.ensures c.in_err-j.ensures.value c.in_err-j.ensures.ok_part)

pub bounds-table-j : goal.bounds-table-j
bounds-table-j c = search (rules, consequent_in, c.in_ok-j.ensures.ok_part)
