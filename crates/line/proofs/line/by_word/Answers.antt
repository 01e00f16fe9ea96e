use Rattle.line.proofs.Lines.{count_other, atom_read, plain_read, bound_read, rule_read, step_read, states_read, slot_read}
use borrow.Author.Rules.{rules}
use Rattle.line.proofs.line.by_word.Goals as goal

pub returns-then-n-fields : goal.returns-then-n-fields
returns-then-n-fields c = search (rules, count_other)

pub returns-in-Atom : goal.returns-in-Atom
returns-in-Atom c = search (rules, atom_read)

pub returns-in-Plain : goal.returns-in-Plain
returns-in-Plain c = search (rules, plain_read)

pub returns-in-Bounded : goal.returns-in-Bounded
returns-in-Bounded c = search (rules, bound_read)

pub returns-in-Rule : goal.returns-in-Rule
returns-in-Rule c = search (rules, rule_read)

pub returns-in-Step : goal.returns-in-Step
returns-in-Step c = search (rules, step_read)

pub returns-in-States : goal.returns-in-States
returns-in-States c = search (rules, states_read)

pub returns-in-Slot : goal.returns-in-Slot
returns-in-Slot c = search (rules, slot_read)
