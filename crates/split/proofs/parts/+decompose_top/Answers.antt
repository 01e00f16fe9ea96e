use Rattle.split.proofs.Decomposes.{ready_in_ops, ready_entry, ready_owed, ready_falls, ready_not, ready_left, ready_right, right_falls, purity_eventually, purity_left, purity_right, decomposed_leaf, decomposed_not, decomposed_eventually, decomposed_two, decomposed_until}
use borrow.Author.Rules.{rules}
use Rattle.split.proofs.parts.+decompose_top.Goals as goal

pub bounds-table-i : goal.bounds-table-i
bounds-table-i t c = search (rules, ready_in_ops)

pub put-requires : goal.put-requires
put-requires t c = search (rules, ready_entry)

pub returns-then-op-lt-NOT : goal.returns-then-op-lt-NOT
returns-then-op-lt-NOT t c = search (rules, decomposed_leaf)

pub put-requires-then-op-lt-NEXT : goal.put-requires-then-op-lt-NEXT
put-requires-then-op-lt-NEXT t c = search (rules, ready_entry)

pub decompose_top-requires : goal.decompose_top-requires
decompose_top-requires t c = (search (rules, ready_falls), ready_not _ _ _ _ _ _ _ c.requires _ 3 0 c.put-then-op-lt-NEXT.ensures c.if-op-lt-NOT.false c.if-op-lt-NEXT.true)

pub returns-then-op-lt-NEXT : goal.returns-then-op-lt-NEXT
returns-then-op-lt-NEXT t c = search (rules, decomposed_not)

pub end_of-e-requires : goal.end_of-e-requires
end_of-e-requires t c = search (rules, purity_eventually)

pub put-requires-then-op-lt-AND : goal.put-requires-then-op-lt-AND
put-requires-then-op-lt-AND t c = search (rules, ready_entry)

pub put-requires-then-op-lt-AND-2 : goal.put-requires-then-op-lt-AND-2
put-requires-then-op-lt-AND-2 t c = search (rules, ready_owed)

pub returns-then-op-lt-AND : goal.returns-then-op-lt-AND
returns-then-op-lt-AND t c = search (rules, decomposed_eventually)

pub put-requires-then-op-lt-UNTIL : goal.put-requires-then-op-lt-UNTIL
put-requires-then-op-lt-UNTIL t c = search (rules, ready_entry)

pub decompose_top-left-requires : goal.decompose_top-left-requires
decompose_top-left-requires t c = (search (rules, ready_falls), ready_left _ _ _ _ _ _ _ c.requires _ c.from.result 0 c.put-then-op-lt-UNTIL.ensures c.if-op-lt-AND.false c.if-op-lt-UNTIL.true)

pub decompose_top-requires-then-op-lt-UNTIL : goal.decompose_top-requires-then-op-lt-UNTIL
decompose_top-requires-then-op-lt-UNTIL t c = (
  right_falls _ _ _ _ _ _ _ c.requires _ c.from.result 0 c.put-then-op-lt-UNTIL.ensures c.if-op-lt-AND.false c.if-op-lt-UNTIL.true _ _ _ c.decompose_top-left.ensures t c.decreases,
  ready_right _ _ _ _ _ _ _ c.requires _ c.from.result 0 c.put-then-op-lt-UNTIL.ensures c.if-op-lt-AND.false c.if-op-lt-UNTIL.true _ _ _ c.decompose_top-left.ensures,
)

pub returns-then-op-lt-UNTIL : goal.returns-then-op-lt-UNTIL
returns-then-op-lt-UNTIL t c = decomposed_two _ _ _ _ _ _ _ _ _ _ _ _ _ _ _ c.if-op-lt-AND.false c.if-op-lt-UNTIL.true c.from.ensures c.put-then-op-lt-UNTIL.ensures c.decompose_top-left.ensures c.decompose_top-then-op-lt-UNTIL.ensures

pub end_of-m-requires : goal.end_of-m-requires
end_of-m-requires t c = search (rules, purity_left)

pub end_of-e-requires-2 : goal.end_of-e-requires-2
end_of-e-requires-2 t c = search (rules, purity_right)

pub put-requires-2 : goal.put-requires-2
put-requires-2 t c = search (rules, ready_entry)

pub put-requires-3 : goal.put-requires-3
put-requires-3 t c = search (rules, ready_owed)

pub returns : goal.returns
returns t c = search (rules, decomposed_until)
