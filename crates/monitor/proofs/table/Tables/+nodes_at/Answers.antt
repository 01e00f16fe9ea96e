use Rattle.formula.proofs.Walks.{walk_past, walk_flat, falls_past}
use Rattle.monitor.proofs.TableWalk.{node_leaf, node_left, node_two, node_unknown, row_inside}
use borrow.Author.Rules.{rules}
use Rattle.monitor.proofs.table.Tables.+nodes_at.Goals as goal

pub returns-then-end-i : goal.returns-then-end-i
returns-then-end-i t c = search (rules, walk_past)

pub returns-then-room-eq0 : goal.returns-then-room-eq0
returns-then-room-eq0 t c = search (rules, walk_flat)

pub kind_at-requires : goal.kind_at-requires
kind_at-requires t c = search (rules, row_inside)

pub returns-in_err-kind_at : goal.returns-in_err-kind_at
returns-in_err-kind_at t c = search (rules, node_unknown, c.in_err-kind_at.was)

pub returns-in-Check : goal.returns-in-Check
returns-in-Check t c = search (rules, node_leaf)

pub returns-in_err-e-in-Joined : goal.returns-in_err-e-in-Joined
returns-in_err-e-in-Joined t c = search (rules, node_left, c.in_err-e-in-Joined.was)

pub nodes_at-requires-in-Joined : goal.nodes_at-requires-in-Joined
nodes_at-requires-in-Joined t c = search (rules, falls_past)

pub returns-in_ok-e-in-Joined : goal.returns-in_ok-e-in-Joined
returns-in_ok-e-in-Joined t c = search (rules, node_two)
