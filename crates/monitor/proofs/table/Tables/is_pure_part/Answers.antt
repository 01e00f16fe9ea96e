use Rattle.monitor.proofs.TableWalk.{before_rule, past_rule, placed_part, is_pure_at}
use mathlib.Core.Path.{◌∙◌}
use native.Mathlib.Omega.{arith}
use borrow.Author.Rules.{rules}
use Rattle.monitor.proofs.table.Tables.is_pure_part.Goals as goal

pub returns-then-p-part : goal.returns-then-p-part
returns-then-p-part c = search (rules, before_rule)

pub returns-then-part-p : goal.returns-then-part-p
returns-then-part-p c = search (rules, past_rule)

pub boolean_over_atoms-requires : goal.boolean_over_atoms-requires
boolean_over_atoms-requires c = search (rules, placed_part)

pub returns : goal.returns
returns c = c.is_some.ensures ∙ is_pure_at _ _ _ _ _ c.requires (omega arith) (omega arith) _ c.boolean_over_atoms.ensures
