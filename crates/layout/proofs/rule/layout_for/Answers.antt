use Rattle.layout.proofs.Rules.{bits_some, part_compiled}
use borrow.Author.Tests.{not-true, not-false}
use borrow.Author.Rules.{rules}
use Rattle.layout.proofs.rule.layout_for.Goals as goal

pub rule_bits-requires : goal.rule_bits-requires
rule_bits-requires c = rw c.rows.ensures (part_compiled _ _ _ _ _ _ _ _ c.is_compiled.ensures c.if-not-is_compiled.false)

pub returns : goal.returns
returns c = search (rules, bits_some, not-true, not-false)
