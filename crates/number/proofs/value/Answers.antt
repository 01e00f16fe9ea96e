use Rattle.number.proofs.Numbers.{sofar_first, sofar_value, sofar_digit, sofar_large, sofar_next}
use borrow.Author.Rules.{rules}
use Rattle.number.proofs.value.Goals as goal

pub loop-i-init : goal.loop-i-init
loop-i-init c = search (rules, sofar_first)

pub returns-then-base-d : goal.returns-then-base-d
returns-then-base-d c = search (rules, sofar_digit)

pub returns-then-d-base : goal.returns-then-d-base
returns-then-d-base c = search (rules, sofar_large)

pub loop-i-preserved : goal.loop-i-preserved
loop-i-preserved c = search (rules, sofar_next)

pub returns : goal.returns
returns c = search (rules, sofar_value)
