use Rattle.line.proofs.Lines.{slot_unnamed, slot_wrong, slot_right}
use borrow.Author.Rules.{rules}
use Rattle.line.proofs.line.slot.Goals as goal

pub returns-then-not-is_label : goal.returns-then-not-is_label
returns-then-not-is_label c = search (rules, slot_unnamed)

pub returns-in_err-width : goal.returns-in_err-width
returns-in_err-width c = search (rules, slot_wrong)

pub returns : goal.returns
returns c = search (rules, slot_right)
