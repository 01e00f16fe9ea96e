-- A book's rules, as the lists that they are lent as.
--     is_property, compiles, own_bits    of rule r: whether it is a property, whether it compiles, its bits by its rows
--     RulesRowed    the part of each rule that compiles is in the node table
--     SameBits      the same lists are lent afterwards for the rules' first bits and bits
use Rattle.std.specs.Prelude.{Bool, ℕ}
use Rattle.terms.specs.Lent.{Same}
use Rattle.plan.specs.declared.layout.RuleList.{RuleList}
use Rattle.plan.specs.declared.layout.RuleBits.{RuleBits}
use Rattle.plan.specs.Book.{is_zero, part_bits, Rowed}

abbrev pub is_property : RuleList → ℕ → Bool
is_property l = is_zero l.kinds.now

abbrev pub compiles : RuleList → ℕ → Bool
compiles l = is_zero l.refusals.now

abbrev pub own_bits : RuleList → ℕ → ℕ
own_bits l = part_bits l.tables.nodes.now l.nfirsts.now l.ncounts.now

abbrev pub RulesRowed : RuleList → Type 0
RulesRowed l = Rowed l.kinds.now l.refusals.now l.tables.nodes.now l.nfirsts.now l.ncounts.now l.len

pub record SameBits (old new : RuleBits) : Type 0 where
  pub starts : Same old.starts new.starts
  pub bits : Same old.bits new.bits
