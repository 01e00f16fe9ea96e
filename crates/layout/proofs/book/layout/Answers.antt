use Rattle.layout.proofs.Books.{layout_narrow, layout_short, layout_unsound, layable, layout_done}
use borrow.Author.Tests.{not-true, not-false}
use borrow.Author.Rules.{rules}
use Rattle.layout.proofs.book.layout.Goals as goal

pub returns-then-not-tables_fit-clause-laid : goal.returns-then-not-tables_fit-clause-laid
returns-then-not-tables_fit-clause-laid c = search (rules, layout_narrow, not-true, not-false)

pub returns-then-not-outputs_fit-clause-laid : goal.returns-then-not-outputs_fit-clause-laid
returns-then-not-outputs_fit-clause-laid c = let a = c.args in layout_short a.rules.now.tables.formulas.ops.now a.rules.now.tables.formulas.nums.now a.rules.now.firsts.now a.rules.now.counts.now a.rules.now.tables.nodes.now a.rules.now.nfirsts.now a.rules.now.ncounts.now a.rules.now.kinds.now a.rules.now.refusals.now a.rules.now.len a.opening.now.states a.opening.now.widths.now a.opening.now.slots a.out.now.starts.now a.out.now.bits.now a.places.now _ c.tables_fit.ensures c.if-not-tables_fit.false _ c.outputs_fit.ensures c.if-not-outputs_fit.true

pub returns-then-not-is_sound-clause-laid : goal.returns-then-not-is_sound-clause-laid
returns-then-not-is_sound-clause-laid c = let a = c.args in layout_unsound a.rules.now.tables.formulas.ops.now a.rules.now.tables.formulas.nums.now a.rules.now.firsts.now a.rules.now.counts.now a.rules.now.tables.nodes.now a.rules.now.nfirsts.now a.rules.now.ncounts.now a.rules.now.kinds.now a.rules.now.refusals.now a.rules.now.len a.opening.now.states a.opening.now.widths.now a.opening.now.slots a.out.now.starts.now a.out.now.bits.now a.places.now _ c.tables_fit.ensures c.if-not-tables_fit.false _ c.outputs_fit.ensures c.if-not-outputs_fit.false _ c.is_sound.ensures c.if-not-is_sound.true

pub lay-requires : goal.lay-requires
lay-requires c = let a = c.args in layable a.rules.now.tables.formulas.ops.now a.rules.now.tables.formulas.nums.now a.rules.now.firsts.now a.rules.now.counts.now a.rules.now.tables.nodes.now a.rules.now.nfirsts.now a.rules.now.ncounts.now a.rules.now.kinds.now a.rules.now.refusals.now a.rules.now.len a.opening.now.states a.opening.now.widths.now a.opening.now.slots a.out.now.starts.now a.out.now.bits.now a.places.now _ c.tables_fit.ensures c.if-not-tables_fit.false _ c.outputs_fit.ensures c.if-not-outputs_fit.false _ c.is_sound.ensures c.if-not-is_sound.false

pub returns-clause-laid : goal.returns-clause-laid
returns-clause-laid c = let a = c.args in layout_done a.rules.now.tables.formulas.ops.now a.rules.now.tables.formulas.nums.now a.rules.now.firsts.now a.rules.now.counts.now a.rules.now.tables.nodes.now a.rules.now.nfirsts.now a.rules.now.ncounts.now a.rules.now.kinds.now a.rules.now.refusals.now a.rules.now.len a.opening.now.states a.opening.now.widths.now a.opening.now.slots a.out.now.starts.now a.out.now.bits.now a.places.now _ c.tables_fit.ensures c.if-not-tables_fit.false _ c.outputs_fit.ensures c.if-not-outputs_fit.false _ c.is_sound.ensures c.if-not-is_sound.false _ _ _ _ c.lay.ensures.laid
