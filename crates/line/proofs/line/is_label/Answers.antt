use Rattle.line.proofs.Texts.{label_empty, label_long, label_printable}
use borrow.Author.Rules.{rules}
use Rattle.line.proofs.line.is_label.Goals as goal

pub returns-then-s-le-LABEL_BYTES : goal.returns-then-s-le-LABEL_BYTES
returns-then-s-le-LABEL_BYTES c = search (rules, label_printable)

pub returns-else-s-le-LABEL_BYTES : goal.returns-else-s-le-LABEL_BYTES
returns-else-s-le-LABEL_BYTES c = search (rules, label_empty, label_long)
