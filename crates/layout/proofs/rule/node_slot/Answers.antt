use Rattle.layout.proofs.Rules.{slot_past, slot_at, part_compiled}
use borrow.Author.Tests.{not-true, not-false}
use borrow.Author.Rules.{rules}
use Rattle.layout.proofs.rule.node_slot.Goals as goal

pub returns-then-part-j : goal.returns-then-part-j
returns-then-part-j c = search (rules, slot_past, not-true, not-false)

pub slot_of-requires : goal.slot_of-requires
slot_of-requires c = rw c.rows.ensures (part_compiled _ _ _ _ _ _ _ _ c.is_compiled.ensures c.if-not-is_compiled.false, search rules)

pub returns : goal.returns
returns c = search (rules, slot_at, not-true, not-false)
