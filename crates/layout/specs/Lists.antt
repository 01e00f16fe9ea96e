-- A rule list that a layout call is lent, in terms of the lists that it is.
--     formula_of, mon_of, fine_in    of rule r: its formula, its compiled rule, and that it is compiled as its flag says
--     RulesWithin     room in the formula table, and all rules below n in the lists
use Rattle.std.specs.Prelude.{Bool, ℕ}
use Rattle.std.proofs.Math.Option.{Option}
use Rattle.formula.specs.Formula.{Formula}
use Rattle.monitor.specs.Mon.{Mon}
use Rattle.plan.specs.declared.layout.RuleList.{RuleList}
use Rattle.layout.specs.Entry.{rule_at, mon_at, fine_of, InRulesUpto}

abbrev pub formula_of : RuleList → ℕ → Option Formula
formula_of l = rule_at l.tables.formulas.ops.now l.tables.formulas.nums.now l.firsts.now l.counts.now

abbrev pub mon_of : RuleList → ℕ → Option Mon
mon_of l = mon_at l.tables.formulas.ops.now l.tables.formulas.nums.now l.firsts.now l.counts.now l.tables.nodes.now l.nfirsts.now l.ncounts.now

abbrev pub fine_in : RuleList → ℕ → Bool
fine_in l = fine_of (formula_of l) l.refusals.now (mon_of l)

abbrev pub RulesWithin : RuleList → ℕ → Type 0
RulesWithin l n =
    InRulesUpto l.tables.formulas.ops.now l.tables.formulas.nums.now l.refusals.now l.firsts.now l.counts.now l.nfirsts.now l.ncounts.now n
